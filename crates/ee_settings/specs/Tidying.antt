-- Forgetting each address that has a value and that no setting and no record has.
use Rattle.std.specs.Prelude.{◌≡◌, ◌⊎◌, ◌&&◌, ◌==◌, ℕ, None, Bool, not, is_some, if◌then◌else◌, zero, suc, List, [], ◌∷◌, ◌++◌, length, Result, Ok, Err}
use Rattle.std.specs.List.{flat_map}
use Rattle.ee_flash.specs.Device.{Device, IsOff, IsOn}
use Rattle.ee_flash.specs.Laws.{all_completed}
use Rattle.ee_flash.specs.Size.{Size, slot_count}
use Rattle.ee_flash.specs.Step.{Step}
use Rattle.ee_pages.specs.Meaning.{Forget, Map}
use Rattle.ee_core.specs.Calls.{Forgets}
use Rattle.ee_core.specs.Changes.{IsSpent}
use Rattle.ee_core.specs.State.{State, appended_state, moved_state, state_of}
use Rattle.ee_core.specs.StepLists.{steps_of_making}
use Rattle.ee_core.specs.declared.variables.ForgetFault.{ForgetFault}
use Rattle.ee_core.specs.declared.variables.ForgetFault.TheVariants as forget
use Rattle.ee_core.specs.declared.variables.Written.{Written}
use Rattle.ee_settings.specs.Setting.{Schema, is_named}
use Rattle.ee_settings.specs.declared.fault.TidyFault.{TidyFault}
use Rattle.ee_settings.specs.declared.fault.TidyFault.TheVariants as tidy

-- the address has a value in the map, and no setting and no record has it
abbrev pub is_unnamed : Schema → Map → ℕ → Bool
is_unnamed schema map address = is_some (map address) && not (is_named schema address)

-- of the addresses 1 to this one, those, by rising address
unfoldable pub unnamed_to : Schema → Map → ℕ → List ℕ
unnamed_to schema map zero = []
unnamed_to schema map (suc address) =
    unnamed_to schema map address
    ++ (if is_unnamed schema map (suc address) then suc address ∷ [] else [])

-- of all addresses
abbrev pub unnamed_in : Schema → Map → List ℕ
unnamed_in schema map = unnamed_to schema map 65534

-- these addresses were forgotten, one after another
abbrev pub ForgetsEach : List ℕ → Device → Device → Type 0
ForgetsEach [] old new = new ≡ old
ForgetsEach (address ∷ addresses) old new =
    (written : Written) × (between : Device) × Forgets old address (Ok written) between
    × ForgetsEach addresses between new

-- a front of these addresses was forgotten, and the forgetting of the next one was
-- answered with this fault
pub record StopsForgetting (addresses : List ℕ) (fault : ForgetFault) (old new : Device)
    : Type 0 where
  pub front : List ℕ
  pub address : ℕ
  pub rest : List ℕ
  pub addresses_are : addresses ≡ front ++ address ∷ rest
  pub last : Device
  pub forgotten : ForgetsEach front old last
  pub stopped : Forgets last address (Err fault) new

-- these addresses were not forgotten to the end
abbrev pub Stops : List ℕ → Device → TidyFault → Device → Type 0
Stops addresses old tidy.Spent new = StopsForgetting addresses forget.Spent old new
Stops addresses old tidy.Cut new = StopsForgetting addresses forget.Cut old new
Stops addresses old tidy.Off new = ⊥

-- The addresses with a value that is no setting's and no record's were forgotten, by rising address, and the answer
-- is how many; or the device was off, and nothing changed; or a front of them was, and the
-- forgetting of the next one was refused or cut.
abbrev pub Tidies : Schema → Device → Result ℕ TidyFault → Device → Type 0
Tidies schema old (Ok count) new =
    IsOn old × (count ≡ length (unnamed_in schema (state_of old).map))
    × ForgetsEach (unnamed_in schema (state_of old).map) old new
Tidies schema old (Err tidy.Off) new = IsOff old × (new ≡ old)
Tidies schema old (Err fault) new = Stops (unnamed_in schema (state_of old).map) old fault new

-- what is left of a map for these settings and records: the values of their addresses
abbrev pub kept_map : Schema → Map → Map
kept_map schema map address = if is_named schema address then map address else None

-- ---- when the store is spent

-- what forgetting an address leaves: appended, or moved where no slot is free
abbrev pub after_forgetting : Size → ℕ → State → State
after_forgetting size address state =
    if state.fill
    == slot_count size then moved_state size.pages (Forget address ∷ []) state else
    appended_state (Forget address) state

-- and what forgetting these leaves, one after another
abbrev pub after_forgettings : Size → List ℕ → State → State
after_forgettings size [] state = state
after_forgettings size (address ∷ addresses) state =
    after_forgettings size addresses (after_forgetting size address state)

-- where these are forgotten, one after another, the store is spent before the last of them
abbrev pub IsSpentAmong : Size → List ℕ → State → Type 0
IsSpentAmong size [] state = ⊥
IsSpentAmong size (address ∷ addresses) state =
    IsSpent (slot_count size) state
    ⊎ IsSpentAmong size addresses (after_forgetting size address state)

-- ---- the steps

-- those of forgetting these, one after another: of each on the device that the one before it leaves
abbrev pub steps_of_forgetting : List ℕ → Device → List Step
steps_of_forgetting [] device = []
steps_of_forgetting (address ∷ addresses) device =
    let steps : List Step = steps_of_making (Forget address ∷ []) device in
    steps ++ steps_of_forgetting addresses (all_completed steps device)

-- ---- for the functions within

-- the address, if no setting has it
abbrev pub unnamed_of : Schema → ℕ → List ℕ
unnamed_of schema address = if is_named schema address then [] else address ∷ []

-- of these addresses, which come with values, those that no setting has
abbrev pub unnamed_among : Schema → List (ℕ × ℕ) → List ℕ
unnamed_among schema found = flat_map (λ one. unnamed_of schema one.0) found
