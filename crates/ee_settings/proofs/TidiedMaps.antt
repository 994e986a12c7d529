-- What tidying leaves of the map, and when the store is spent in it.
use Rattle.std.proofs.Common.{◌≡◌, ◌⊎◌, ◌∙◌, ◌-◌, ◌<◌, ◌≤◌, ℕ, Bool, true, false, cond, Option, Some, None, List, [], ◌∷◌, ◌++◌, length, map, inl, inr, refl, sym, ap, subst, append_assoc, arith, suc, zero, Result, Ok, Err, rules}
use Rattle.std.proofs.lemmas.Grind.{common_steps}
use Rattle.std.specs.List.{All, Contains, flat_map}
use Rattle.std.proofs.lemmas.Bool.{cases_eq, eq-eqb, ne_eqb}
use Rattle.std.proofs.lemmas.List.Elements.{All-cons, All-head, All-nil, All-tail}
use Rattle.ee_flash.specs.Device.{Device, IsFormed}
use Rattle.ee_flash.specs.Size.{slot_count}
use Rattle.ee_pages.specs.Meaning.{Forget, Map, map_after}
use Rattle.ee_core.proofs.Public.{forget-at, forget-other, cut_map}
use Rattle.ee_core.specs.Calls.{Forgets}
use Rattle.ee_core.specs.Runs.{Call, Forgot, IsWholeRun, changes_of_call, is_cut}
use Rattle.ee_core.specs.State.{state_of}
use Rattle.ee_core.specs.declared.variables.ForgetFault.TheVariants as forget
use Rattle.ee_core.specs.declared.variables.Written.{Written}
use Rattle.ee_core.specs.Changes.{IsSpent}
use Rattle.ee_settings.proofs.Items.{setting_has}
use Rattle.ee_settings.proofs.Forgetting.{map_without}
use Rattle.ee_settings.proofs.Proper.{none_outside, proper_or_not}
use Rattle.std.specs.Prelude.{◌||◌}
use Rattle.ee_settings.proofs.Unnamed.{begins_with, unnamed_to-suc, unnamed_to-zero}
use Rattle.ee_settings.specs.Laws.{KeepsAll}
use Rattle.ee_settings.specs.Setting.{Schema, Setting, has_record_at, is_named, reading_of}
use Rattle.ee_settings.specs.Tidying.{ForgetsEach, IsSpentAmong, StopsForgetting, Tidies, after_forgetting, after_forgettings, is_unnamed, kept_map, unnamed_in, unnamed_to}
use Rattle.ee_settings.specs.declared.fault.TidyFault.{TidyFault}
use Rattle.ee_settings.specs.declared.fault.TidyFault.TheVariants as tidy

-- ---- the addresses that no setting has

low : (schema : Schema) (values : Map) (b : Bool) (address : ℕ)
    → is_unnamed schema values address ≡ b
    → All (λ a. is_named schema a ≡ false) (cond b (address ∷ []) [])
low schema values b address h1 = search (rules, All-nil, All-cons)

-- none of them is a setting's
unnamed_free : (schema : Schema) (values : Map) (n : ℕ)
    → All (λ a. is_named schema a ≡ false) (unnamed_to schema values n)
unnamed_free schema values zero =
    rw (unnamed_to-zero schema values) (All-nil (λ a. is_named schema a ≡ false))
unnamed_free schema values (suc n) =
    grind (arith, common_steps, unnamed_to-suc, (unnamed_free schema values n))

free_front : (schema : Schema) (front rest : List ℕ)
    → All (λ a. is_named schema a ≡ false) (front ++ rest)
    → All (λ a. is_named schema a ≡ false) front
free_front schema [] rest free = All-nil (λ a. is_named schema a ≡ false)
free_front schema (address ∷ front) rest free = search (
  rules,
  All-cons,
  All-head,
  All-tail,
  (free_front schema front rest
      (All-tail (λ a. is_named schema a ≡ false) address (front ++ rest) free)),
)

free_one : (schema : Schema) (front rest : List ℕ) (address : ℕ)
    → All (λ a. is_named schema a ≡ false) (front ++ address ∷ rest)
    → is_named schema address ≡ false
free_one schema [] rest address free =
    All-head (λ a. is_named schema a ≡ false) address rest free
free_one schema (one ∷ front) rest address free =
    free_one schema front rest address
    (All-tail (λ a. is_named schema a ≡ false) one (front ++ address ∷ rest) free)

-- ---- what is taken

abbrev TakesUnnamed : Schema → Map → Map → Type 0
TakesUnnamed schema old new =
    (address : ℕ)
    → (new address ≡ old address) ⊎ ((is_named schema address ≡ false) × (new address ≡ None))

takes_both : (schema : Schema) (old mid new : Map) → TakesUnnamed schema old mid
    → TakesUnnamed schema mid new → TakesUnnamed schema old new
takes_both schema old mid new first second address = search rules

takes_none : (schema : Schema) (old new : Map) → new ≡ old → TakesUnnamed schema old new
takes_none schema old new same address = inl (ap (λ (values : Map). values address) same)

takes_one : (schema : Schema) (old new : Map) (named : ℕ)
    → is_named schema named ≡ false → new ≡ map_after (Forget named) old
    → TakesUnnamed schema old new
takes_one schema old new named free is address = elim (cases_eq named address) [
  | inl same ↦ inr (
    subst (λ a. is_named schema a ≡ false) same free,
    ap (λ (values : Map). values address) is ∙ forget-at old named address (sym same),
  )
  | inr other ↦ inl
      (ap (λ (values : Map). values address) is
      ∙ forget-other old named address (λ e. other (sym e)))
]

each_takes : (schema : Schema) (addresses : List ℕ) (old new : Device)
    → All (λ a. is_named schema a ≡ false) addresses → ForgetsEach addresses old new
    → TakesUnnamed schema (state_of old).map (state_of new).map
each_takes schema [] old new free done =
    takes_none schema (state_of old).map (state_of new).map
    (ap (λ (device : Device). (state_of device).map) done)
each_takes schema (one ∷ addresses) old new free done =
    takes_both schema (state_of old).map (state_of done.1).map (state_of new).map
    (takes_one schema (state_of old).map (state_of done.1).map one
    (All-head (λ a. is_named schema a ≡ false) one addresses free)
    (map_without old done.1 one done.0 done.2))
    (each_takes schema addresses done.1 new
    (All-tail (λ a. is_named schema a ≡ false) one addresses free) done.3)

spent_takes : (schema : Schema) (old new : Device) → IsFormed old
    → StopsForgetting (unnamed_in schema (state_of old).map) forget.Spent old new
    → TakesUnnamed schema (state_of old).map (state_of new).map
spent_takes schema old new formed stops =
    let free =
    subst (All (λ a. is_named schema a ≡ false)) stops.addresses_are
    (unnamed_free schema (state_of old).map 65534) in
    takes_both schema (state_of old).map (state_of stops.last).map (state_of new).map
    (each_takes schema stops.front old stops.last
    (free_front schema stops.front (stops.address ∷ stops.rest) free) stops.forgotten)
    (takes_none schema (state_of stops.last).map (state_of new).map
    (ap (λ (device : Device). (state_of device).map) stops.stopped.3))

cut_takes : (schema : Schema) (old new : Device) → IsFormed old
    → StopsForgetting (unnamed_in schema (state_of old).map) forget.Cut old new
    → TakesUnnamed schema (state_of old).map (state_of new).map
cut_takes schema old new formed stops =
    let free =
    subst (All (λ a. is_named schema a ≡ false)) stops.addresses_are
    (unnamed_free schema (state_of old).map 65534) in
    let last = stops.last in
    takes_both schema (state_of old).map (state_of last).map (state_of new).map
    (each_takes schema stops.front old last
    (free_front schema stops.front (stops.address ∷ stops.rest) free) stops.forgotten)
    (elim (cut_map last new (Forget stops.address) stops.stopped) [
      | inl same ↦ takes_none schema (state_of last).map (state_of new).map same
      | inr gone ↦ takes_one schema (state_of last).map (state_of new).map stops.address
          (free_one schema stops.front stops.rest stops.address free) gone
    ])

pub takes_unnamed : (schema : Schema) (old new : Device) (answer : Result ℕ TidyFault)
    → IsFormed old → Tidies schema old answer new → (address : ℕ)
    → ((state_of new).map address ≡ (state_of old).map address)
    ⊎ ((is_named schema address ≡ false) × ((state_of new).map address ≡ None))
takes_unnamed schema old new (Ok count) formed done =
    each_takes schema (unnamed_in schema (state_of old).map) old new
    (unnamed_free schema (state_of old).map 65534) done.2
takes_unnamed schema old new (Err tidy.Off) formed done =
    takes_none schema (state_of old).map (state_of new).map
    (ap (λ (device : Device). (state_of device).map) done.1)
takes_unnamed schema old new (Err tidy.Spent) formed done =
    spent_takes schema old new formed done
takes_unnamed schema old new (Err tidy.Cut) formed done = cut_takes schema old new formed done

-- ---- readings

named_here : (schema : Schema) (setting : Setting) → Contains schema.settings setting
    → is_named schema setting.numbers.address ≡ true
named_here schema setting inside =
    ap (λ (b : Bool). b || has_record_at schema.records setting.numbers.address)
    (setting_has schema.settings setting inside)

pub keeps_readings : (schema : Schema) (old new : Device) (answer : Result ℕ TidyFault)
    → IsFormed old → Tidies schema old answer new → KeepsAll schema.settings old new
keeps_readings schema old new answer formed done setting inside =
    elim (takes_unnamed schema old new answer formed done setting.numbers.address) [
      | inl same ↦ ap (reading_of setting.numbers) same
      | inr taken ↦
          (let wrong : true ≡ false = sym (named_here schema setting inside) ∙ taken.0 in cc)
    ]

-- ---- what is left

stays_none : (addresses : List ℕ) (old new : Device) (address : ℕ) → ForgetsEach addresses old new
    → (state_of old).map address ≡ None → (state_of new).map address ≡ None
stays_none [] old new address done none =
    ap (λ (device : Device). (state_of device).map address) done ∙ none
stays_none (one ∷ addresses) old new address done none =
    let there : (state_of done.1).map address ≡ None =
    ap (λ (values : Map). values address) (map_without old done.1 one done.0 done.2)
    ∙ elim (cases_eq one address) [
      | inl same ↦ forget-at (state_of old).map one address (sym same)
      | inr other ↦ forget-other (state_of old).map one address (λ e. other (sym e)) ∙ none
    ] in
    stays_none addresses done.1 new address done.3 there

gone : (front rest : List ℕ) (address : ℕ) (old new : Device)
    → ForgetsEach (front ++ address ∷ rest) old new → (state_of new).map address ≡ None
gone [] rest address old new done = search (rules, forget-at, map_without, stays_none)
gone (one ∷ front) rest address old new done = gone front rest address done.1 new done.3

-- a live address that no setting has is among them
unnamed_split : (schema : Schema) (values : Map) (address : ℕ) → 0 < address
    → address ≤ 65534 → is_unnamed schema values address ≡ true
    → (front : List ℕ) × (rest : List ℕ) × (unnamed_in schema values ≡ front ++ address ∷ rest)
unnamed_split schema values address some low is =
    let more = begins_with schema values address 65534 low in
    let e : address ≡ suc (address - 1) = omega arith in
    let here : is_unnamed schema values (suc (address - 1)) ≡ true =
    ap (is_unnamed schema values) (sym e) ∙ is in
    let last : unnamed_to schema values address
    ≡ unnamed_to schema values (address - 1) ++ address ∷ [] =
    ap (unnamed_to schema values) e ∙ unnamed_to-suc schema values (address - 1)
    ∙ ap
    (λ (b : Bool). unnamed_to schema values (address - 1) ++ cond b (suc (address - 1) ∷ []) [])
    here
    ∙ ap (λ k. unnamed_to schema values (address - 1) ++ k ∷ []) (sym e) in (
      unnamed_to schema values (address - 1),
      more.0,
      more.1 ∙ ap (λ l. l ++ more.0) last
          ∙ append_assoc (unnamed_to schema values (address - 1)) (address ∷ []) more.0,
    )

none_left : (schema : Schema) (old new : Device) (address : ℕ) (value : Option ℕ)
    → (state_of old).map address ≡ value → is_named schema address ≡ false
    → ForgetsEach (unnamed_in schema (state_of old).map) old new
    → (state_of new).map address ≡ None
none_left schema old new address None is free done =
    stays_none (unnamed_in schema (state_of old).map) old new address done is
none_left schema old new address (Some value) is free done = elim (proper_or_not address) [
  | inr outside ↦ stays_none (unnamed_in schema (state_of old).map) old new address done
      (none_outside old address outside)
  | inl proper ↦
      let live : is_unnamed schema (state_of old).map address ≡ true = rw (is, free) refl in
      let split =
      unnamed_split schema (state_of old).map address proper.0
      (let high = proper.1 in omega arith) live in
      gone split.0 split.1 address old new (subst (λ l. ForgetsEach l old new) split.2 done)
]

left_at : (schema : Schema) (old new : Device) (address : ℕ) (named : Bool)
    → is_named schema address ≡ named
    → ForgetsEach (unnamed_in schema (state_of old).map) old new
    → (state_of new).map address ≡ cond named ((state_of old).map address) None
left_at schema old new address false is done =
    none_left schema old new address ((state_of old).map address) refl is done
left_at schema old new address true is done = search (rules, each_takes, unnamed_free)

pub leaves_named : (schema : Schema) (old new : Device) (count : ℕ)
    → Tidies schema old (Ok count) new → (address : ℕ)
    → (state_of new).map address ≡ kept_map schema (state_of old).map address
leaves_named schema old new count done address =
    left_at schema old new address (is_named schema address) refl done.2

-- ---- as a run of calls

each_as_run : (addresses : List ℕ) (old new : Device) → ForgetsEach addresses old new
    → (calls : List Call) × IsWholeRun calls old new
    × (flat_map changes_of_call calls ≡ map Forget addresses)
    × (length calls ≡ length addresses)
each_as_run [] old new done = (
  [],
  record { run = done; without_cuts = All-nil (λ (call : Call). is_cut call ≡ false) },
  refl,
  refl,
)
each_as_run (address ∷ addresses) old new done =
    let rest = each_as_run addresses done.1 new done.3 in
    let call = Forgot address (Ok done.0) in (
      call ∷ rest.0,
      record {
        run = (done.1, done.2, rest.1.run);
        without_cuts =
            All-cons (λ (one : Call). is_cut one ≡ false) call rest.0 refl rest.1.without_cuts;
      },
      ap (λ l. Forget address ∷ l) rest.2,
      ap suc rest.3,
    )

pub as_run : (schema : Schema) (old new : Device) (count : ℕ)
    → Tidies schema old (Ok count) new
    → (calls : List Call) × IsWholeRun calls old new
    × (flat_map changes_of_call calls ≡ map Forget (unnamed_in schema (state_of old).map))
    × (length calls ≡ count)
as_run schema old new count done = search (rules, each_as_run)

-- ---- the states, and when the store is spent

state_after : (old new : Device) (address : ℕ) (written : Written)
    → Forgets old address (Ok written) new
    → state_of new ≡ after_forgetting old.size address (state_of old)
state_after old new address written h1 = search (rules, ne_eqb, eq-eqb)

same_size : (old new : Device) (address : ℕ) (written : Written)
    → Forgets old address (Ok written) new → new.size ≡ old.size
same_size old new address written done = search rules

not_spent : (old new : Device) (address : ℕ) (written : Written)
    → Forgets old address (Ok written) new → ¬ IsSpent (slot_count old.size) (state_of old)
not_spent old new address written done = search rules

states_after : (addresses : List ℕ) (old new : Device) → ForgetsEach addresses old new
    → state_of new ≡ after_forgettings old.size addresses (state_of old)
states_after [] old new done = ap state_of done
states_after (address ∷ addresses) old new done =
    search (rules, same_size, state_after, (states_after addresses done.1 new done.3))

pub leaves_state : (schema : Schema) (old new : Device) (count : ℕ)
    → Tidies schema old (Ok count) new
    → state_of new
    ≡ after_forgettings old.size (unnamed_in schema (state_of old).map) (state_of old)
leaves_state schema old new count done =
    states_after (unnamed_in schema (state_of old).map) old new done.2

spent_here : (front rest : List ℕ) (address : ℕ) (old last : Device) → ForgetsEach front old last
    → IsSpent (slot_count last.size) (state_of last)
    → IsSpentAmong old.size (front ++ address ∷ rest) (state_of old)
spent_here [] rest address old last done spent =
    inl (subst (λ (device : Device). IsSpent (slot_count device.size) (state_of device)) done spent)
spent_here (one ∷ front) rest address old last done spent =
    search (rules, same_size, state_after, (spent_here front rest address done.1 last done.3 spent))

never_spent : (addresses : List ℕ) (old new : Device) → ForgetsEach addresses old new
    → ¬ IsSpentAmong old.size addresses (state_of old)
never_spent [] old new done spent = spent
never_spent (address ∷ addresses) old new done (inl spent) =
    not_spent old done.1 address done.0 done.2 spent
never_spent (address ∷ addresses) old new done (inr later) =
    let state =
    subst (IsSpentAmong old.size addresses) (sym (state_after old done.1 address done.0 done.2))
    later in
    never_spent addresses done.1 new done.3
    (subst (λ size. IsSpentAmong size addresses (state_of done.1))
    (sym (same_size old done.1 address done.0 done.2)) state)

pub spent_among : (schema : Schema) (old new : Device)
    → Tidies schema old (Err tidy.Spent) new
    → IsSpentAmong old.size (unnamed_in schema (state_of old).map) (state_of old)
spent_among schema old new stops = search (rules, spent_here)

pub none_spent : (schema : Schema) (old new : Device) (count : ℕ)
    → Tidies schema old (Ok count) new
    → ¬ IsSpentAmong old.size (unnamed_in schema (state_of old).map) (state_of old)
none_spent schema old new count done =
    never_spent (unnamed_in schema (state_of old).map) old new done.2
