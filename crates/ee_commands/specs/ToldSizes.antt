-- What holds of every part for which sizes were told.
use Rattle.std.specs.Prelude.{◌≡◌, ◌+◌, ◌<◌, ◌≤◌, ℕ, Bool, true, false, Ok, Err, List, [], ◌∷◌, ◌++◌, length}
use Rattle.std.specs.List.{All, Contains}
use Rattle.ee_flash.specs.Device.{Device, IsOn, wear_at}
use Rattle.ee_flash.specs.Size.{page_count}
use Rattle.ee_core.specs.Openings.{IsFormatted}
use Rattle.ee_core.specs.Runs.{Call, Wrote, WroteAll, Forgot, Cleared, IsWholeRun, transfers}
use Rattle.ee_core.specs.declared.variables.WriteFault.TheVariants as write
use Rattle.ee_check.specs.Live.{live_after_one}
use Rattle.ee_check.specs.declared.change.Change.{Change}
use Rattle.ee_check.specs.declared.change.Change.TheVariants as change
use Rattle.ee_plan.specs.Planner.Rounds.{repeated_trace}
use Rattle.ee_plan.specs.declared.planner.demand.Demand.{Demand}
use Rattle.ee_plan.specs.declared.planner.demand.Demand.TheVariants.{Transfers}
use Rattle.ee_commands.specs.Sizing.{IsSized, erases_for, is_enough, is_spent_by}

-- whether the call is of a list of values, or a clear
abbrev pub is_of_several : Call → Bool
is_of_several (WroteAll puts answer) = true
is_of_several (Cleared answer) = true
is_of_several call = false

-- the changes that calls of a store asked for one by one, as a trace, whatever they were answered
abbrev pub asked_by_calls : List Call → List Change
asked_by_calls [] = []
asked_by_calls (Wrote address value answer ∷ calls) = change.Write address ∷ asked_by_calls calls
asked_by_calls (Forgot address answer ∷ calls) = change.Forget address ∷ asked_by_calls calls
asked_by_calls (call ∷ calls) = asked_by_calls calls

-- the changes that they made: those that were answered as stored
abbrev pub made_by_calls : List Call → List Change
made_by_calls [] = []
made_by_calls (Wrote address value (Ok written) ∷ calls) =
    change.Write address ∷ made_by_calls calls
made_by_calls (Forgot address (Ok written) ∷ calls) = change.Forget address ∷ made_by_calls calls
made_by_calls (call ∷ calls) = made_by_calls calls

-- whether memory ran out in the call: a store without an index takes none
abbrev pub wants_memory : Call → Bool
wants_memory (Wrote address value (Err write.Memory)) = true
wants_memory call = false

-- each forgetting is of an address that is live then
abbrev pub ForgetsLive : List ℕ → List Change → Type 0
ForgetsLive live [] = Unit {0}
ForgetsLive live (change.Write address ∷ trace) =
    ForgetsLive (live_after_one live (change.Write address)) trace
ForgetsLive live (change.Forget address ∷ trace) =
    Contains live address × ForgetsLive (live_after_one live (change.Forget address)) trace

-- among what is demanded of sets of 1 page and more, this is demanded of those of so many
pub record IsDemandOf (pages : ℕ) (demands : List Demand) (demand : Demand) : Type 0 where
  pub smaller : List Demand
  pub larger : List Demand
  pub parts : demands ≡ smaller ++ demand ∷ larger
  pub place : pages ≡ 1 + length smaller

-- The calls moved the map no more often than so many transfers. No page was erased more often
-- than the line of a size with so many says; nor more often than so many cycles, where it says
-- that this is enough.
pub record WearsAsTold (cycles most : ℕ) (calls : List Call) (old new : Device) : Type 0 where
  pub moves : transfers calls ≤ most
  pub wear : (page : ℕ) → page < page_count old.size
      → wear_at new page ≤ wear_at old page + erases_for most
  pub enough : is_enough cycles (Transfers most) ≡ true
      → (page : ℕ) → page < page_count old.size → wear_at new page ≤ wear_at old page + cycles

-- Sizes were told for a script that is made so many times. A device was formatted, and the line of
-- its size tells so many transfers. Calls of its store, none of a list, none a clear and none in
-- which power is cut, asked for the changes of the script so many times. Then it wears as was told,
-- whatever the calls were answered, and whatever else they read and cleaned.
abbrev pub EachSizeWearsAsTold : Type 0
EachSizeWearsAsTold =
    (text told : List ℕ) (cycles runs most : ℕ) (some_enough : Bool) (calls : List Call)
    (blank old new : Device)
    → (sized : IsSized old.size.words text cycles runs told some_enough)
    → IsDemandOf old.size.pages sized.demands (Transfers most)
    → IsFormatted blank old → IsWholeRun calls old new
    → All (λ call. is_of_several call ≡ false) calls
    → asked_by_calls calls ≡ repeated_trace runs sized.needs.trace → WearsAsTold cycles most calls old new

-- Where they made the changes of the script so many times, and no others, the line of its size
-- tells just as many transfers as they made; and it wears as was told.
abbrev pub EachSizeMovesAsTold : Type 0
EachSizeMovesAsTold =
    (text told : List ℕ) (cycles runs : ℕ) (some_enough : Bool) (calls : List Call)
    (blank old new : Device)
    → (sized : IsSized old.size.words text cycles runs told some_enough) → IsFormatted blank old
    → IsWholeRun calls old new → All (λ call. is_of_several call ≡ false) calls
    → made_by_calls calls ≡ repeated_trace runs sized.needs.trace
    → IsDemandOf old.size.pages sized.demands (Transfers (transfers calls))
    × WearsAsTold cycles (transfers calls) calls old new

-- It makes all of them, by as many transfers as that line tells: where the line doesn't say that
-- the generations are used up, the device is on, each forgetting is of an address that has a value,
-- and the store takes no memory, or is given it.
abbrev pub EachSizeIsMadeAsTold : Type 0
EachSizeIsMadeAsTold =
    (text told : List ℕ) (cycles runs most : ℕ) (some_enough : Bool) (calls : List Call)
    (blank old new : Device)
    → (sized : IsSized old.size.words text cycles runs told some_enough)
    → IsDemandOf old.size.pages sized.demands (Transfers most)
    → IsFormatted blank old → IsOn old → IsWholeRun calls old new
    → All (λ call. is_of_several call ≡ false) calls
    → All (λ call. wants_memory call ≡ false) calls
    → asked_by_calls calls ≡ repeated_trace runs sized.needs.trace
    → ForgetsLive [] (repeated_trace runs sized.needs.trace) → is_spent_by most ≡ false
    → (made_by_calls calls ≡ repeated_trace runs sized.needs.trace) × (transfers calls ≡ most)
