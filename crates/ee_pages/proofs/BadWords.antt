-- What one word that went bad costs.
use Rattle.std.proofs.Common.{◌≡◌, ◌≢◌, ◌⊎◌, inl, inr, ℕ, ◌+◌, ◌-◌, ◌*◌, ◌<◌, Bool, true, false, ◌||◌, cond, is_some, Option, Some, None, List, [], ◌∷◌, ◌++◌, length, take, drop, get_or, set, refl, sym, subst, ap, ◌∙◌, arith, suc, zero}
use Rattle.std.specs.List.{All, list_any}
use Rattle.std.proofs.Math.Seq.{drop-cons}
use Rattle.std.proofs.lemmas.Bool.{cases_eq, cases_lt}
use Rattle.std.proofs.lemmas.List.Elements.{All-cons, All-from_get_or, All-get_or}
use Rattle.std.proofs.lemmas.List.{get_or-set_other, get_or-set_same, set_past, take-append-drop}
use Rattle.ee_flash.specs.Device.{Device}
use Rattle.ee_flash.specs.declared.word.Word.{Word}
use Rattle.ee_flash.specs.declared.word.Word.TheVariants.{Erased, Held, Torn}
use Rattle.ee_codec.specs.Reading.{mark_of, receive_of}
use Rattle.ee_pages.specs.Legal.{IsLive}
use Rattle.ee_pages.specs.Meaning.{latest_in, later_of, meaning, says, value_said}
use Rattle.ee_pages.specs.Page.{is_written, word_in}
use Rattle.ee_pages.specs.Rescue.{has_begun, is_left_behind, named_generation, rescued_map, rescued_side}
use Rattle.ee_pages.specs.RescueLaws.{IsHeld, WentBad, IsToldApart, LosesASet, LosesNewest, PutsInSet, meaning_without}
use Rattle.ee_pages.specs.Sets.{committed_generation, is_mark, other, set_of, slots_of, word_of}
use Rattle.ee_pages.specs.declared.side.Side.{Side}
use Rattle.ee_pages.specs.declared.side.Side.TheVariants.{First, Second}
use Rattle.ee_pages.proofs.Commits.{live_commits}
use Rattle.ee_pages.proofs.InTheSet.{slots-header, slots-slot, with_word_in, word-elsewhere, word-there}
use Rattle.ee_pages.proofs.OtherSet.{live_stays}
use Rattle.ee_pages.proofs.LastSaid.{later-none, latest_in-append}
use Rattle.ee_pages.proofs.SetPrograms.{same_live}
use Rattle.ee_pages.proofs.Slots.{length-set_of, pages-set_of, row_within}
use Rattle.ee_pages.proofs.FirstCommits.{other_twice}
use Rattle.ee_pages.proofs.Rescues.{begun, by_rules, held_is_rescued_side, map_rescued, not_left, unwritten_is_no_mark}

-- ---- a slot that says nothing any more

silent_set : (slots : List Word) (slot : ℕ) (word : Word) (address : ℕ) → says word address ≡ None
    → slot < length slots
    → latest_in (set slots slot word) address
    ≡ latest_in (take slot slots ++ drop (suc slot) slots) address
silent_set [] slot word address silent h = absurd (omega arith)
silent_set (old ∷ slots) zero word address silent h =
    ap (λ said. later_of said (latest_in slots address)) silent
    ∙ later-none (latest_in slots address)
silent_set (old ∷ slots) (suc slot) word address silent h =
    ap (later_of (says old address)) (silent_set slots slot word address silent (omega arith))

either_said : (before here behind : Option (Option ℕ))
    → (later_of before behind ≡ later_of before (later_of here behind))
    ⊎ ((behind ≡ None) × (here ≡ None → ⊥))
either_said before here (Some said) = inl refl
either_said before None None = inl refl
either_said before (Some said) None = inr (refl, λ e. absurd (cc e))

split_said : (slots : List Word) (slot address : ℕ) → slot < length slots
    → latest_in slots address
    ≡ later_of (latest_in (take slot slots) address)
    (later_of (says (get_or slots slot Erased) address)
    (latest_in (drop (suc slot) slots) address))
split_said slots slot address h =
    ap (λ (all : List Word). latest_in all address) (sym (take-append-drop slot slots))
    ∙ latest_in-append (take slot slots) (drop slot slots) address
    ∙ ap
    (λ (rest : List Word).
    later_of (latest_in (take slot slots) address) (latest_in rest address))
    (drop-cons slots slot Erased h)

any_set : {X : Type 0} (p : X → Bool) (xs : List X) (k : ℕ) (y d : X) → p y ≡ p (get_or xs k d)
    → list_any p (set xs k y) ≡ list_any p xs
any_set p [] k y d e = refl
any_set p (x ∷ xs) zero y d e = ap (λ (b : Bool). b || list_any p xs) e
any_set p (x ∷ xs) (suc k) y d e = ap (λ (b : Bool). p x || b) (any_set p xs k y d e)

-- ---- what is told without the words that commit

rule_three_first : (begun committed_first committed_second : Bool) (n m : ℕ)
    → by_rules true begun false true committed_first committed_second n m ≡ Some First
rule_three_first true committed_first committed_second n m = refl
rule_three_first false committed_first committed_second n m = refl

rule_three_second : (begun committed_first committed_second : Bool) (n m : ℕ)
    → by_rules begun true true false committed_first committed_second n m ≡ Some Second
rule_three_second true committed_first committed_second n m = refl
rule_three_second false committed_first committed_second n m = refl

pub told_by_headers : (side : Side) (device : Device) → has_begun (set_of side device) ≡ true
    → is_left_behind (set_of side device) ≡ false → IsToldApart device side
    → rescued_side device ≡ Some side
told_by_headers First device begun left (inl none) = rw (begun, none) refl
told_by_headers First device begun left (inr whole) =
    let rule =
    rule_three_first (has_begun (set_of Second device))
    (is_some (committed_generation (set_of First device)))
    (is_some (committed_generation (set_of Second device)))
    (named_generation (set_of First device)) (named_generation (set_of Second device)) in
    ap
    (λ (b : Bool). by_rules b (has_begun (set_of Second device))
    (is_left_behind (set_of First device)) (is_left_behind (set_of Second device))
    (is_some (committed_generation (set_of First device)))
    (is_some (committed_generation (set_of Second device)))
    (named_generation (set_of First device)) (named_generation (set_of Second device)))
    begun
    ∙ ap
    (λ (l : Bool). by_rules true (has_begun (set_of Second device)) l
    (is_left_behind (set_of Second device))
    (is_some (committed_generation (set_of First device)))
    (is_some (committed_generation (set_of Second device)))
    (named_generation (set_of First device)) (named_generation (set_of Second device))) left
    ∙ ap
    (λ (l : Bool). by_rules true (has_begun (set_of Second device)) false l
    (is_some (committed_generation (set_of First device)))
    (is_some (committed_generation (set_of Second device)))
    (named_generation (set_of First device)) (named_generation (set_of Second device)))
    whole
    ∙ rule
told_by_headers Second device begun left (inl none) = rw (begun, none) refl
told_by_headers Second device begun left (inr whole) =
    let rule =
    rule_three_second (has_begun (set_of First device))
    (is_some (committed_generation (set_of First device)))
    (is_some (committed_generation (set_of Second device)))
    (named_generation (set_of First device)) (named_generation (set_of Second device)) in
    ap
    (λ (b : Bool). by_rules (has_begun (set_of First device)) b
    (is_left_behind (set_of First device)) (is_left_behind (set_of Second device))
    (is_some (committed_generation (set_of First device)))
    (is_some (committed_generation (set_of Second device)))
    (named_generation (set_of First device)) (named_generation (set_of Second device)))
    begun
    ∙ ap
    (λ (l : Bool). by_rules (has_begun (set_of First device)) true
    (is_left_behind (set_of First device)) l
    (is_some (committed_generation (set_of First device)))
    (is_some (committed_generation (set_of Second device)))
    (named_generation (set_of First device)) (named_generation (set_of Second device))) left
    ∙ ap
    (λ (l : Bool). by_rules (has_begun (set_of First device)) true l false
    (is_some (committed_generation (set_of First device)))
    (is_some (committed_generation (set_of Second device)))
    (named_generation (set_of First device)) (named_generation (set_of Second device)))
    whole
    ∙ rule

-- ---- what the header of a set with a word that went bad says

pub neither : (x y : Bool) → (x || y) ≡ false → (x ≡ false) × (y ≡ false)
neither true y e = absurd (cc e)
neither false y e = (refl, e)

none_any : {X : Type 0} (p : X → Bool) (d : X) (xs : List X) → list_any p xs ≡ false
    → All (λ x. p x ≡ false) xs
none_any p d [] none = All-from_get_or (λ x. p x ≡ false) [] d (λ k h. absurd (omega arith))
none_any p d (x ∷ xs) none =
    let rest = neither (p x) (list_any p xs) none in
    All-cons (λ x. p x ≡ false) x xs rest.0 (none_any p d xs rest.1)

any_set_none : {X : Type 0} (p : X → Bool) (xs : List X) (k : ℕ) (y : X) → p y ≡ false
    → list_any p xs ≡ false → list_any p (set xs k y) ≡ false
any_set_none p [] k y e none = refl
any_set_none p (x ∷ xs) zero y e none =
    let rest = neither (p x) (list_any p xs) none in rw (e, rest.1) refl
any_set_none p (x ∷ xs) (suc k) y e none =
    let rest = neither (p x) (list_any p xs) none in
    rw (rest.0, any_set_none p xs k y e rest.1) refl

module _ (pages : List (List Word)) (page at : ℕ) (word : Word)
    (in_range : page < length pages) where
  abbrev changed : List (List Word)
  changed = with_word_in pages page at word

  same_word : (place : ℕ) → (page ≡ 0 → place ≢ at)
      → word_of changed 0 place ≡ word_of pages 0 place
  same_word place apart = elim (cases_eq 0 page) [
    | inl here ↦ word-elsewhere pages page at word 0 place in_range (inr (apart (sym here)))
    | inr away ↦ word-elsewhere pages page at word 0 place in_range (inl away)
  ]

  commit_stays : (page ≡ 0 → 1 < at) → committed_generation changed ≡ committed_generation pages
  commit_stays behind =
      ap (λ (mark : Word). cond (is_mark (mark_of mark)) (receive_of (word_of changed 0 0)) None)
      (same_word 1 (λ here e. omega (arith, e, behind here)))
      ∙ ap
      (λ (receive : Word).
      cond (is_mark (mark_of (word_of pages 0 1))) (receive_of receive) None)
      (same_word 0 (λ here e. omega (arith, e, behind here)))

  third_word : (at < 4 → is_mark (mark_of word) ≡ false)
      → is_mark (mark_of (word_in (get_or pages page []) 3)) ≡ false
      → is_mark (mark_of (word_in (set (get_or pages page []) at word) 3)) ≡ false
  third_word silent before = elim (cases_eq 3 at) [
    | inr away ↦ ap (λ (mark : Word). is_mark (mark_of mark))
        (get_or-set_other (get_or pages page []) at 3 word Erased away)
        ∙ before
    | inl here ↦ elim (cases_lt at (length (get_or pages page []))) [
      | inl within ↦ ap (λ n. is_mark (mark_of (word_in (set (get_or pages page []) at word) n)))
          here
          ∙ ap (λ (mark : Word). is_mark (mark_of mark))
          (get_or-set_same (get_or pages page []) at word Erased within)
          ∙ silent (omega (arith, here))
      | inr past ↦ ap (λ (words : List Word). is_mark (mark_of (word_in words 3)))
          (set_past (get_or pages page []) at word past)
          ∙ before
    ]
  ]

  left_stays : (at < 4 → is_mark (mark_of word) ≡ false) → is_left_behind pages ≡ false
      → is_left_behind changed ≡ false
  left_stays silent none =
      let before =
      All-get_or (λ words. is_mark (mark_of (word_in words 3)) ≡ false) pages page [] in_range
      (none_any (λ words. is_mark (mark_of (word_in words 3))) [] pages none) in
      any_set_none (λ words. is_mark (mark_of (word_in words 3))) pages page _
      (third_word silent before) none

module _ (old new : Device) (side : Side) (generation page at : ℕ) (word : Word)
    (live : IsLive old side generation) (bad : WentBad at word) where
  abbrev mine : List (List Word)
  mine = set_of side old

  -- ---- of the live set

  module _ (puts : PutsInSet old new side page at word) where
    in_set : page < length mine
    in_set = omega (arith, length-set_of side old live.formed, puts.page_in_range)

    pub bad_word_leaves_held : (page ≡ 0 → 1 < at) → IsHeld new side generation
    bad_word_leaves_held behind = record {
      live = same_live side old new
          (ap committed_generation puts.there ∙ commit_stays mine page at word in_set behind)
          puts.same_other
          ∙ live.live;
      not_left =
          ap is_left_behind puts.there
          ∙ left_stays mine page at word in_set bad.no_mark (not_left old side generation live);
    }

    by_held : (page ≡ 0 → 1 < at) → rescued_side new ≡ Some side
    by_held behind =
        let held = bad_word_leaves_held behind in
        held_is_rescued_side new side generation held.live held.not_left

    -- it is begun still, if the word is written
    begun_still : page ≡ 0 → at < 2 → is_written word ≡ true → has_begun (set_of side new) ≡ true
    begun_still first low written =
        let long : length (get_or mine page []) ≡ old.size.words =
        All-get_or (λ words. length words ≡ old.size.words) mine page [] in_set
        (pages-set_of side old live.formed) in
        let within : at < length (get_or mine page []) = omega (arith, long, puts.at_in_range) in
        ap has_begun puts.there ∙ elim (cases_eq 1 at) [
          | inl here ↦ ap (λ n. is_written (word_of (with_word_in mine page at word) 0 n)) here
              ∙ ap (λ n. is_written (word_of (with_word_in mine page at word) n at)) (sym first)
              ∙ ap is_written (word-there mine page at word in_set within) ∙ written
          | inr away ↦ ap is_written (word-elsewhere mine page at word 0 1 in_set (inr away))
              ∙ begun mine generation (live_commits side old generation live.live)
        ]

    by_others : page ≡ 0 → at < 2 → is_written word ≡ true → IsToldApart old side
        → rescued_side new ≡ Some side
    by_others first low written told =
        let left =
        ap is_left_behind puts.there
        ∙ left_stays mine page at word in_set bad.no_mark (not_left old side generation live) in
        told_by_headers side new (begun_still first low written) left (rw puts.same_other told)

    still_rescued : (page ≡ 0 → at < 2 → (is_written word ≡ true) × IsToldApart old side)
        → rescued_side new ≡ Some side
    still_rescued told = elim (cases_eq page 0) [
      | inr away ↦ by_held (λ here. absurd (away here))
      | inl first ↦ elim (cases_lt at 2) [
        | inl low ↦ let both = told first low in by_others first low both.0 both.1
        | inr high ↦ by_held (λ here. omega (arith, high))
      ]
    ]

    module _ (is : rescued_side new ≡ Some side) (address : ℕ) where
      header_costs_nothing : at < 4 → rescued_map new address ≡ meaning (slots_of mine) address
      header_costs_nothing low =
          map_rescued new side is address
          ∙ ap (λ (slots : List Word). meaning slots address)
          (ap slots_of puts.there ∙ slots-header mine page at word low)

      slot_costs_its_value : 3 < at
          → (rescued_map new address ≡ meaning (slots_of mine) address)
          ⊎ LosesNewest old new side page at address
      slot_costs_its_value high =
          let slots = slots_of mine in
          let slot = page * (old.size.words - 4) + (at - 4) in
          let few : at - 4 < old.size.words - 4 = omega (arith, puts.at_in_range, high) in
          let next : suc slot ≡ slot + 1 = omega arith in
          let place : at ≡ 4 + (at - 4) = omega (arith, high) in
          let within : slot < length slots =
          omega (
            arith,
            row_within side old page (at - 4 + 1) live.formed puts.page_in_range
                (omega (arith, few)),
          ) in
          let there = puts.there ∙ ap (λ n. with_word_in mine page n word) place in
          let now : slots_of (set_of side new) ≡ set slots slot word =
          ap slots_of there
          ∙ slots-slot old.size.words mine page (at - 4) slot word
          (pages-set_of side old live.formed) in_set few refl in
          let without : latest_in (set slots slot word) address
          ≡ latest_in (take slot slots ++ drop (slot + 1) slots) address =
          silent_set slots slot word address (bad.silent high address) within
          ∙ ap (λ n. latest_in (take slot slots ++ drop n slots) address) next in
          let map_is : rescued_map new address ≡ meaning_without slots slot address =
          map_rescued new side is address ∙ ap (λ (all : List Word). meaning all address) now
          ∙ ap value_said without in
          let behind = latest_in (drop (slot + 1) slots) address in
          let before = latest_in (take slot slots) address in
          let here = says (get_or slots slot Erased) address in
          let all : latest_in slots address ≡ later_of before (later_of here behind) =
          split_said slots slot address within
          ∙ ap (λ n. later_of before (later_of here (latest_in (drop n slots) address))) next in
          elim (either_said before here behind) [
            | inl same ↦ inl
                (map_is
                ∙ ap value_said
                (latest_in-append (take slot slots) (drop (slot + 1) slots) address ∙ same
                ∙ sym all))
            | inr newest ↦ inr
                (record {
                  in_slot = high;
                  newest = record { says_nothing_later = newest.0; says_something = newest.1 };
                  map_is = map_is;
                })
          ]

    pub one_word_costs_its_value
        : (page ≡ 0 → at < 2 → (is_written word ≡ true) × IsToldApart old side)
        → (rescued_side new ≡ Some side)
        × ((address : ℕ)
        → (rescued_map new address ≡ meaning (slots_of mine) address)
        ⊎ LosesNewest old new side page at address)
    one_word_costs_its_value told =
        let is = still_rescued told in (
          is,
          λ address. elim (cases_lt at 4) [
            | inl low ↦ inl (header_costs_nothing is address low)
            | inr high ↦ slot_costs_its_value is address (omega (arith, high))
          ],
        )

  -- ---- of the set that waits

  module _ (puts : PutsInSet old new (other side) page at word) where
    abbrev theirs : List (List Word)
    theirs = set_of (other side) old

    among_them : page < length theirs
    among_them = omega (arith, length-set_of (other side) old live.formed, puts.page_in_range)

    same_mine : set_of side new ≡ mine
    same_mine =
        subst (λ (set : Side). set_of set new ≡ set_of set old) (other_twice side) puts.same_other

    left_as_before : is_left_behind (set_of side new) ≡ false
    left_as_before = ap is_left_behind same_mine ∙ not_left old side generation live

    held_still
        :
        (committed_generation (with_word_in theirs page at word)
        ≡ committed_generation theirs)
        ⊎ (committed_generation (with_word_in theirs page at word) ≡ None)
        → IsHeld new side generation
    held_still after =
        let commits : (committed_generation (set_of (other side) new) ≡ committed_generation theirs)
        ⊎ (committed_generation (set_of (other side) new) ≡ None) =
        rw puts.there after in
        record {
          live = live_stays side old new generation same_mine commits live.live;
          not_left = left_as_before;
        }

    live_still
        :
        (committed_generation (with_word_in theirs page at word)
        ≡ committed_generation theirs)
        ⊎ (committed_generation (with_word_in theirs page at word) ≡ None)
        → rescued_side new ≡ Some side
    live_still after =
        let held = held_still after in
        held_is_rescued_side new side generation held.live held.not_left

    pub bad_waiting_word_leaves_held : (page ≡ 0 → 1 < at) → IsHeld new side generation
    bad_waiting_word_leaves_held behind =
        held_still (inl (commit_stays theirs page at word among_them behind))

    commits_nothing : page ≡ 0 → at < 2 → has_begun theirs ≡ false
        → committed_generation (with_word_in theirs page at word) ≡ None
    commits_nothing first low unbegun =
        let long : length (get_or theirs page []) ≡ old.size.words =
        All-get_or (λ words. length words ≡ old.size.words) theirs page [] among_them
        (pages-set_of (other side) old live.formed) in
        let within : at < length (get_or theirs page []) = omega (arith, long, puts.at_in_range) in
        let no : is_mark (mark_of (word_of (with_word_in theirs page at word) 0 1)) ≡ false =
        elim (cases_eq 1 at) [
          | inl here ↦ ap (λ n. is_mark (mark_of (word_of (with_word_in theirs page at word) 0 n)))
              here
              ∙ ap (λ n. is_mark (mark_of (word_of (with_word_in theirs page at word) n at)))
              (sym first)
              ∙ ap (λ (there : Word). is_mark (mark_of there))
              (word-there theirs page at word among_them within)
              ∙ bad.no_mark (omega (arith, low))
          | inr away ↦ ap (λ (there : Word). is_mark (mark_of there))
              (word-elsewhere theirs page at word 0 1 among_them (inr away))
              ∙ unwritten_is_no_mark (word_of theirs 0 1) unbegun
        ] in
        ap
        (λ (whole : Bool).
        cond whole (receive_of (word_of (with_word_in theirs page at word) 0 0)) None) no

    marked_still : at < 2 → is_left_behind theirs ≡ true → rescued_side new ≡ Some side
    marked_still low marked =
        let third : word_in (set (get_or theirs page []) at word) 3
        ≡ word_in (get_or theirs page []) 3 =
        get_or-set_other (get_or theirs page []) at 3 word Erased
        (λ e. omega (arith, e, low)) in
        let there =
        any_set (λ words. is_mark (mark_of (word_in words 3))) theirs page _ []
        (ap (λ (mark : Word). is_mark (mark_of mark)) third) in
        let all : is_left_behind (set_of (other side) new) ≡ true =
        ap is_left_behind puts.there ∙ there ∙ marked in
        told_by_headers side new
        (ap has_begun same_mine
        ∙ begun mine generation (live_commits side old generation live.live)) left_as_before
        (inr all)

    pub waiting_word_costs_nothing : (page ≡ 0 → at < 2 → IsToldApart old side)
        → (rescued_side new ≡ Some side)
        × ((address : ℕ) → rescued_map new address ≡ meaning (slots_of mine) address)
    waiting_word_costs_nothing told =
        let is : rescued_side new ≡ Some side = elim (cases_eq page 0) [
          | inr away ↦ live_still
              (inl (commit_stays theirs page at word among_them (λ here. absurd (away here))))
          | inl first ↦ elim (cases_lt at 2) [
            | inr high ↦ live_still
                (inl (commit_stays theirs page at word among_them (λ here. omega (arith, high))))
            | inl low ↦ elim (told first low) [
              | inl unbegun ↦ live_still (inr (commits_nothing first low unbegun))
              | inr marked ↦ marked_still low marked
            ]
          ]
        ] in (
          is,
          λ address. map_rescued new side is address
              ∙ ap (λ (pages : List (List Word)). meaning (slots_of pages) address) same_mine,
        )

-- ---- where that is not told

abbrev word_of_element : ℕ → ℕ → Word
word_of_element address value = Held (value * 4294967296 + address)

-- the set that waits, with a torn mark, and the live one, whose active mark can't be read
abbrev waiting : List (List Word)
waiting =
    (Held 0xAAAAAAAA00000001 ∷ Held 0xAAAAAAAAAAAAAAAA ∷ Erased ∷ Torn ∷ word_of_element 1 10
    ∷ word_of_element 1 11 ∷ [])
    ∷ []

abbrev alive : List (List Word)
alive =
    (Held 0xAAAAAAAA00000002 ∷ Held 0xAAAAAAAAAAAAAAAA ∷ Erased ∷ Erased ∷ word_of_element 1 12
    ∷ Erased ∷ [])
    ∷ []

pub one_word_can_cost_a_set : LosesASet
one_word_can_cost_a_set = record {
  waiting = waiting;
  alive = alive;
  is_live = refl;
  had = refl;
  wrong = refl;
  has = refl;
}
