-- How the entries of an index are gone over in order.
use Rattle.std.proofs.Common.{◌≡◌, ◌≢◌, inl, inr, ℕ, ◌<◌, Bool, true, false, Option, Some, None, MatchOption, nat_lt, is_some, List, [], ◌∷◌, ◌++◌, get_or, refl, sym, subst, ap, ◌∙◌, append-nil, arith, rules}
use Rattle.std.proofs.lemmas.Bool.{cases_eq}
use Rattle.std.proofs.lemmas.Grind.{common_steps}
use Rattle.std.proofs.lemmas.List.Elements.{All-head, All-tail}
use Rattle.std.proofs.lemmas.Map.Keys.{sorted_head, sorted_tail}
use Rattle.std.specs.List.{AllByRecursion}
use Rattle.std.specs.List.Sorted.{IsStrictlySortedBy}
use Rattle.std.specs.Map.{keys_of}
use Rattle.std.specs.Ordering.{nat_cmp}
use Rattle.std.specs.declared.cmp.Ordering.TheVariants.{Less}
use Rattle.ee_codec.specs.Words.{IsAddress}
use Rattle.ee_flash.specs.declared.word.Word.{Word}
use Rattle.ee_flash.specs.declared.word.Word.TheVariants.{Erased}
use Rattle.ee_pages.specs.Meaning.{Map, meaning, says}
use Rattle.ee_pages.specs.LiveOrder.{IsNextLive, above_of}
use Rattle.ee_index.specs.Entries.{AreAbove, AreInOrder}
use Rattle.ee_index.specs.Index.{AreHidden, IsIndex, IsLeft, IsNextShown, PassesHidden, shown_index, shown_slot, slot_for}
use Rattle.ee_index.proofs.Indexing.{Stands, nothing_if, stands_if}

-- ---- entries in order

pub put_there : (first : ℕ × ℕ) (rest : List (ℕ × ℕ)) (address : ℕ) → first.0 ≡ address
    → slot_for (first ∷ rest) address ≡ Some first.1
put_there first rest address same = search rules

pub put_elsewhere : (first : ℕ × ℕ) (rest : List (ℕ × ℕ)) (address : ℕ) → first.0 ≢ address
    → slot_for (first ∷ rest) address ≡ slot_for rest address
put_elsewhere first rest address apart = search rules

pub held_above : (named : ℕ) (entries : List (ℕ × ℕ))
    → AllByRecursion (λ key. nat_cmp named key ≡ Less) (keys_of entries) → (address : ℕ)
    → is_some (slot_for entries address) ≡ true → named < address
held_above named [] above address held = absurd (cc held)
held_above named (first ∷ rest) above address held = elim (cases_eq first.0 address) [
  | inl same ↦ search rules
  | inr apart ↦ held_above named rest above.1 address
      (sym (ap is_some (put_elsewhere first rest address apart)) ∙ held)
]

pub absent_to : (first : ℕ × ℕ) (rest : List (ℕ × ℕ))
    → IsStrictlySortedBy nat_cmp (keys_of (first ∷ rest)) → (address : ℕ)
    → is_some (slot_for rest address) ≡ true → first.0 < address
absent_to first rest sorted = search (rules, held_above, sorted_head)

pub none_unless : (held : Option ℕ) → (is_some held ≡ true → ⊥) → held ≡ None
none_unless None _ = refl
none_unless (Some _) none = absurd (none refl)

-- ---- what is seen while addresses are hidden

shown_none : (shown : ℕ → Bool) (index : Map) (address : ℕ) → index address ≡ None
    → shown_index shown index address ≡ None
shown_none shown _ _ e = ap (shown_slot shown) e

pub shown_here : (shown : ℕ → Bool) (index : Map) (address number : ℕ) → index address ≡ Some number
    → shown number ≡ true → shown_index shown index address ≡ Some number
shown_here shown index address number e is = search rules

pub shown_hidden : (shown : ℕ → Bool) (index : Map) (address number : ℕ)
    → index address ≡ Some number → shown number ≡ false → shown_index shown index address ≡ None
shown_hidden shown index address number e is = search rules

-- ---- one entry further

module _ (slots : List Word) (shown : ℕ → Bool) (after : Option ℕ) (first : ℕ × ℕ)
    (rest : List (ℕ × ℕ)) (left : IsLeft slots shown after (first ∷ rest)) where
  pub above_first : above_of after < first.0
  above_first = left.behind first.0 (ap is_some (put_there first rest first.0 refl))

  rest_behind : (address : ℕ) → is_some (slot_for rest address) ≡ true → first.0 < address
  rest_behind = absent_to first rest left.ordered

  rest_ordered : IsStrictlySortedBy nat_cmp (keys_of rest)
  rest_ordered = sorted_tail nat_cmp first.0 (keys_of rest) left.ordered

  no_more : slot_for rest first.0 ≡ None
  no_more = search (rules, none_unless, rest_behind)

  -- it is hidden
  pub left_behind_hidden : shown first.1 ≡ false → IsLeft slots shown after rest
  left_behind_hidden hides = search (
    rules,
    rest_ordered,
    above_first,
    rest_behind,
    cases_eq,
    shown_none,
    no_more,
    shown_hidden,
    put_there,
    put_elsewhere,
  )

  -- or it is the next
  pub left_behind_next : IsLeft slots shown (Some first.0) rest
  left_behind_next = search (rules, rest_ordered, rest_behind, put_elsewhere, above_first)

  pub next_stands : shown first.1 ≡ true → Stands slots first.0 first.1
  next_stands is = search (rules, shown_here, put_there, stands_if, above_first)

  pub none_before : (address : ℕ) → above_of after < address → address < first.0
      → meaning slots address ≡ None
  none_before address high low =
      search (rules, put_elsewhere, none_unless, rest_behind, nothing_if, shown_none)

-- ---- the next entry that is shown

-- a reader passes hidden entries, one after another
module _ (shown : ℕ → Bool) (entries : List (ℕ × ℕ)) where
  pub passes_none : PassesHidden shown entries entries
  passes_none = ([], (λ k none h. absurd (omega (arith, h))), refl)

  pub passes_one : (here left : List (ℕ × ℕ)) (entry : ℕ × ℕ) → PassesHidden shown entries here
      → here ≡ entry ∷ left → shown entry.1 ≡ false → PassesHidden shown entries left
  passes_one here left entry (passed, hide, are) is hides = (
    passed ++ (entry ∷ []),
    grind (arith, common_steps),
    grind (arith, common_steps),
  )

  -- up to one that is shown, or to the end
  pub shown_there : (here left : List (ℕ × ℕ)) (found : ℕ × ℕ) → PassesHidden shown entries here
      → here ≡ found ∷ left → shown found.1 ≡ true → IsNextShown shown entries (Some found) left
  shown_there _ left _ (passed, hide, are) is shows =
      (shows, (passed, hide, are ∙ ap (λ (left : List (ℕ × ℕ)). passed ++ left) is))

-- so many slots are used
pub next_used : (entries left : List (ℕ × ℕ)) (found : ℕ × ℕ) (fill used : ℕ) → fill ≡ used
    → IsNextShown (λ number. nat_lt number fill) entries (Some found) left
    → IsNextShown (λ number. nat_lt number used) entries (Some found) left
next_used entries left found fill used e next = search rules

-- behind entries that are hidden
left_behind_passed : (slots : List Word) (shown : ℕ → Bool) (after : Option ℕ)
    (passed rest : List (ℕ × ℕ))
    → AreHidden shown passed → IsLeft slots shown after (passed ++ rest)
    → IsLeft slots shown after rest
left_behind_passed _ _ _ [] _ _ left = left
left_behind_passed slots shown after (first ∷ passed) rest hide left =
    left_behind_passed slots shown after passed rest
    (All-tail (λ (entry : ℕ × ℕ). shown entry.1 ≡ false) first passed hide)
    (left_behind_hidden slots shown after first (passed ++ rest) left
    (All-head (λ (entry : ℕ × ℕ). shown entry.1 ≡ false) first passed hide))

module _ (slots : List Word) (shown : ℕ → Bool) (after : Option ℕ) (entries left : List (ℕ × ℕ))
    (so_far : IsLeft slots shown after entries) where
  -- where a reader stands before it gives the next entry
  before_next : (found : ℕ × ℕ) → IsNextShown shown entries (Some found) left
      → IsLeft slots shown after (found ∷ left)
  before_next found (_, (passed, hide, are)) =
      left_behind_passed slots shown after passed (found ∷ left) hide
      (subst (λ (entries : List (ℕ × ℕ)). IsLeft slots shown after entries) are so_far)

  pub shown_stands : (found : ℕ × ℕ) → IsNextShown shown entries (Some found) left
      → Stands slots found.0 found.1
  shown_stands found next = search (rules, next_stands, before_next)

  pub shown_next : (found : ℕ × ℕ) (value : ℕ) → IsNextShown shown entries (Some found) left
      → ((named said : ℕ) → says (get_or slots found.1 Erased) named ≡ Some (Some said)
      → value ≡ said)
      → IsNextLive (meaning slots) (above_of after) (Some (found.0, value))
  shown_next found value next is =
      let before = before_next found next in
      let here = shown_stands found next in (
        above_first slots shown after found left before,
        grind (arith, common_steps),
        none_before slots shown after found left before,
      )

  pub shown_left : (found : ℕ × ℕ) → IsNextShown shown entries (Some found) left
      → IsLeft slots shown (Some found.0) left
  shown_left found next = search (rules, left_behind_next, before_next)

  pub none_shown : IsNextShown shown entries None left
      → IsNextLive (meaning slots) (above_of after) None
  none_shown hide address high =
      let rest =
      left_behind_passed slots shown after entries [] hide
      (subst (λ (entries : List (ℕ × ℕ)). IsLeft slots shown after entries)
      (sym (append-nil entries)) so_far) in
      search rules

-- ---- before the first

pub stands_proper : (slots : List Word) (address number : ℕ) → Stands slots address number
    → IsAddress address
stands_proper slots address number here = search rules

pub left_first : (slots : List Word) (shown : ℕ → Bool) (entries : List (ℕ × ℕ))
    → IsStrictlySortedBy nat_cmp (keys_of entries)
    → ((address : ℕ) → is_some (slot_for entries address) ≡ true → IsAddress address)
    → IsIndex slots (shown_index shown (slot_for entries)) → IsLeft slots shown None entries
left_first slots shown entries ordered proper indexes = search rules

-- ---- before the first above an address

-- these are the entries of the addresses above `after`, or all
abbrev pub IsPart : Option ℕ → List (ℕ × ℕ) → List (ℕ × ℕ) → Type 0
IsPart after entries part =
    MatchOption after (part ≡ entries) (λ address. AreAbove address entries part)

module _ (entries part : List (ℕ × ℕ)) where
  part_ordered : (after : Option ℕ) → IsPart after entries part → AreInOrder entries
      → AreInOrder part
  part_ordered None is ordered = search rules
  part_ordered (Some _) is ordered = is.ordered

  part_same : (after : Option ℕ) → IsPart after entries part → (address : ℕ)
      → above_of after < address → slot_for part address ≡ slot_for entries address
  part_same None is address high = search rules
  part_same (Some _) is address high = is.same address high

  part_above : (after : Option ℕ) → IsPart after entries part → (address : ℕ) → 0 < address
      → is_some (slot_for part address) ≡ true → above_of after < address
  part_above None _ _ high _ = high
  part_above (Some _) is address _ held = is.only address held

  pub first_above : (after : Option ℕ) (first : ℕ × ℕ) (rest : List (ℕ × ℕ))
      → IsPart after entries part → AreInOrder entries → part ≡ first ∷ rest → 0 < first.0
      → IsNextLive (slot_for entries) (above_of after) (Some first)
  first_above after first rest is ordered begins proper =
      (high, sym (part_same after is first.0 high) ∙ here, between)
    where
      here : slot_for part first.0 ≡ Some first.1
      here = ap (λ (part : List (ℕ × ℕ)). slot_for part first.0) begins
          ∙ put_there first rest first.0 refl

      high : above_of after < first.0
      high = part_above after is first.0 proper (ap is_some here)

      between : (address : ℕ) → above_of after < address → address < first.0
          → slot_for entries address ≡ None
      between address above low =
          sym (part_same after is address above)
          ∙ ap (λ (part : List (ℕ × ℕ)). slot_for part address) begins
          ∙ put_elsewhere first rest address (λ e. omega (arith, low, e))
          ∙ none_unless (slot_for rest address)
          (λ held. omega (
            arith,
            low,
            absent_to first rest
                (subst (λ (entries : List (ℕ × ℕ)). AreInOrder entries) begins
                (part_ordered after is ordered)) address held,
          ))
