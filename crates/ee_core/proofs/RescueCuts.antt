-- Openings and rescues that are cut, one after another.
use Rattle.ee_core.proofs.Words.{◌≡◌, ◌⊎◌, inl, inr, ℕ, ◌<◌, true, Option, None, Some, List, [], ◌∷◌, refl, sym, subst, ap, ◌∙◌, arith, cases_eq, cases_lt, rules}
use Rattle.ee_core.proofs.Sets.{Device, Word, KeepsSide, IsLegal, IsLive, meaning, is_written, other, set_of, slots_of, Side, First, Second, held_is_rescued, held_is_rescued_side, live_is_held, live_is_rescued, one_word_costs_its_value, bad_word_leaves_held, bad_waiting_word_leaves_held, waiting_word_costs_nothing}
use Rattle.ee_core.proofs.Calls.{IsCutOpening, with_power_on, state_of}
use Rattle.ee_pages.specs.Rescue.{map_of_side, rescued_map}
use Rattle.ee_pages.specs.RescueLaws.{IsHeld, WentBad, IsToldApart, PutsInSet}
use Rattle.ee_core.specs.Rescues.{AreCutTries, CostsNewest, IsCutRescue, IsCutTry, IsMadeStore, last_on}
use Rattle.ee_core.proofs.States.{state_is}

-- the map of a legal image is the one that is rescued
pub legal_map : (device : Device) → IsLegal device → (address : ℕ)
    → (state_of device).map address ≡ rescued_map device address
legal_map _ legal address =
    ap (λ state. state.map address) (state_is _ _ _ legal.2)
    ∙ sym ((live_is_rescued _ _ _ legal.2).2 address)

-- A set is held, and this map is rescued.
pub record Holds (device old : Device) : Type 0 where
  pub side : Side
  pub generation : ℕ
  pub held : IsHeld device side generation
  pub same_map : (address : ℕ) → rescued_map device address ≡ rescued_map old address

legal_holds : (device old : Device) → IsLegal device
    → ((address : ℕ) → (state_of device).map address ≡ rescued_map old address) → Holds device old
legal_holds device _ legal map_is = record {
  side = legal.0;
  generation = legal.1;
  held = live_is_held _ _ _ legal.2;
  same_map = search (rules, legal_map);
}

-- ---- power

map_on : (device : Device) (side : Option Side) (address : ℕ)
    → map_of_side (with_power_on device) side address ≡ map_of_side device side address
map_on _ None _ = refl
map_on _ (Some First) _ = refl
map_on _ (Some Second) _ = refl

held_on : (device : Device) (side : Side) (generation : ℕ) → IsHeld device side generation
    → IsHeld (with_power_on device) side generation
held_on _ First _ held = record { live = held.live; not_left = held.not_left }
held_on _ Second _ held = record { live = held.live; not_left = held.not_left }

holds_on : (device old : Device) → Holds device old → Holds (with_power_on device) old
holds_on device _ holds = record {
  side = holds.side;
  generation = holds.generation;
  held = search held_on;
  same_map = search (rules, map_on);
}

-- ---- a cut

abbrev side_of : Option Side → Side
side_of None = First
side_of (Some side) = side

after_rescue : (old new : Device) (side : Side) (generation : ℕ) → IsHeld old side generation
    → IsCutRescue old new → Holds new old
after_rescue old new side generation held cut = elim cut.left [
  | inr has ↦ legal_holds new old has.legal has.map_is
  | inl keeps ↦
      let same =
      ap side_of
      (sym cut.rescues.side_is ∙ (held_is_rescued_side _ _ _ held.live held.not_left)) in
      let left = held_is_rescued _ _ _ _ held (subst (λ set. KeepsSide old new set) same keeps) in
      record { side = side; generation = generation; held = left.1; same_map = left.2 }
]

after_opening : (old new : Device) → IsCutOpening old new → Holds new old
after_opening old new cut =
    legal_holds new old cut.legal
    (λ address. ap (λ state. state.map address) cut.state_is ∙ legal_map old cut.was_legal address)

holds_later : (device mid old : Device) → Holds device mid → Holds mid old → Holds device old
holds_later _ _ _ second first = record {
  side = second.side;
  generation = second.generation;
  held = second.held;
  same_map = search rules;
}

after_try : (mid new old : Device) → Holds mid old → IsCutTry mid new
    → Holds (with_power_on new) old
after_try mid new old holds (inl rescue) =
    holds_on new old
    (holds_later new mid old
    (after_rescue mid new holds.side holds.generation holds.held rescue) holds)
after_try mid new old holds (inr opening) =
    holds_on new old (holds_later new mid old (after_opening mid new opening) holds)

after_tries : (cuts : List Device) (mid old : Device) → Holds mid old → AreCutTries mid cuts
    → Holds (last_on mid cuts) old
after_tries [] _ _ holds _ = holds
after_tries (next ∷ more) mid old holds tries =
    after_tries more (with_power_on next) old (after_try mid next old holds tries.0) tries.1

-- ---- and then a whole one

pub made_map : (last new : Device) → IsMadeStore last new → (address : ℕ)
    → (state_of new).map address ≡ rescued_map last address
made_map _ _ (inl rescued) address = rescued.1.map_is address
made_map last _ (inr opened) address =
    ap (λ state. state.map address) opened.state_is ∙ legal_map last opened.legal address

pub held_through_cuts : (old : Device) (side : Side) (generation : ℕ) (cuts : List Device)
    (new : Device)
    → IsHeld old side generation → AreCutTries old cuts → IsMadeStore (last_on old cuts) new
    → (address : ℕ) → (state_of new).map address ≡ rescued_map old address
held_through_cuts old side generation cuts new held tries made address =
    let all =
    after_tries cuts old old
    (record { side = side; generation = generation; held = held; same_map = λ a. refl })
    tries in
    search (rules, made_map)

-- ---- from an image as a store leaves it

module _ (old changed : Device) (side : Side) (generation page at : ℕ) (word : Word)
    (cuts : List Device) (new : Device) (live : IsLive old side generation)
    (tries : AreCutTries changed cuts) (made : IsMadeStore (last_on changed cuts) new) where
  -- the map is the one that would be rescued at once
  behind_cuts : ((page ≡ 0 → 1 < at) → IsHeld changed side generation)
      → (page ≡ 0 → at < 2 → cuts ≡ []) → (address : ℕ)
      → (state_of new).map address ≡ rescued_map changed address
  behind_cuts held uncut address =
      let by_held : (page ≡ 0 → 1 < at)
      → (state_of new).map address ≡ rescued_map changed address =
      λ behind.
      held_through_cuts changed side generation cuts new (held behind) tries made address in
      elim (cases_eq _ 0) [
        | inr away ↦ by_held (λ here. absurd (away here))
        | inl first ↦ elim (cases_lt at 2) [
          | inl low ↦ made_map changed new
              (subst (λ all. IsMadeStore (last_on changed all) new) (uncut first low) made) address
          | inr high ↦ by_held (λ here. omega arith)
        ]
      ]

  had : (address : ℕ) → meaning (slots_of (set_of side old)) address ≡ (state_of old).map address
  had address = search state_is

  pub one_word_costs_no_more : PutsInSet old changed side page at word → WentBad at word
      → (page ≡ 0 → at < 2 → (is_written word ≡ true) × IsToldApart old side × (cuts ≡ []))
      → (address : ℕ)
      → ((state_of new).map address ≡ (state_of old).map address)
      ⊎ CostsNewest old new side page at address
  one_word_costs_no_more puts bad told address =
      let found =
      behind_cuts (bad_word_leaves_held old _ _ _ page at word live bad puts)
      (λ first low. (told first low).2) address in
      elim
      ((one_word_costs_its_value _ _ _ generation _ at word live bad puts
      (λ first low. let all = told first low in (all.0, all.1))).1 address) [
        | inl same ↦ inl (found ∙ same ∙ had address)
        | inr loses ↦ search rules
      ]

  pub waiting_word_costs_no_more : PutsInSet old changed (other side) page at word → WentBad at word
      → (page ≡ 0 → at < 2 → IsToldApart old side × (cuts ≡ [])) → (address : ℕ)
      → (state_of new).map address ≡ (state_of old).map address
  waiting_word_costs_no_more puts bad told address =
      (behind_cuts (bad_waiting_word_leaves_held old _ _ _ page at word live bad puts)
      (λ first low. (told first low).1) address)
      ∙ (waiting_word_costs_nothing old _ _ generation page at word live bad puts
      (λ first low. (told first low).0)).1 address
      ∙ had address
