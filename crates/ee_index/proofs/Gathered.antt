-- What the slots say is gathered from the newest down, and put in order.
use Rattle.std.specs.Prelude.{◌==◌}
use Rattle.std.proofs.Common.{◌≡◌, ℕ, ◌+◌, ◌<◌, Bool, Option, Some, None, nat_lt, List, [], ◌∷◌, ◌++◌, length, get_or, refl, sym, ap, ◌∙◌, arith, rules}
use Rattle.std.proofs.lemmas.Bool.{cases_eq}
use Rattle.std.proofs.lemmas.Bool.Decides.{nat_tests}
use Rattle.std.proofs.lemmas.Grind.{common_steps}
use Rattle.std.proofs.lemmas.List.Kept.{IsStrictlySortedBy-dedup}
use Rattle.std.specs.Cmp.{IsTotalOrder, unsigned_ties}
use Rattle.std.specs.List.{AllByRecursion, dedup, dedup_from, filter}
use Rattle.std.specs.List.Sorted.{IsSortedByKey, IsStableByKey, IsStrictlySortedBy, ties}
use Rattle.std.specs.Map.{keys_of}
use Rattle.std.specs.Ordering.{is_lt, nat_cmp}
use Rattle.std.specs.declared.cmp.Ordering.{Ordering}
use Rattle.ee_flash.specs.Device.{Device}
use Rattle.ee_flash.specs.declared.word.Word.{Word}
use Rattle.ee_flash.specs.declared.word.Word.TheVariants.{Erased}
use Rattle.ee_codec.specs.Reading.{slot_of}
use Rattle.ee_codec.specs.declared.slot.Slot.{Slot}
use Rattle.ee_codec.specs.declared.slot.Slot.TheVariants.{Free, Spoiled, Element, Forgotten, Foreign}
use Rattle.ee_pages.specs.Layout.{IsLayout}
use Rattle.ee_pages.specs.Meaning.{Map}
use Rattle.ee_pages.specs.Sets.{set_of, slots_of}
use Rattle.ee_pages.specs.declared.find.Layout.{Layout}
use Rattle.ee_index.specs.Entries.{AreInOrder, entries_said}
use Rattle.ee_index.specs.Index.{IsIndex, index_with_slot, said_at, shown_index, shown_slot, slot_for}
use Rattle.ee_index.proofs.Indexing.{IndexesTo, enters, indexes_all, indexes_none}
use Rattle.ee_index.proofs.IndexReaders.{put_elsewhere, put_there}

-- ---- from the newest slot down

-- of two slots, the first that there is
abbrev first_slot : Option ℕ → Option ℕ → Option ℕ
first_slot None second = second
first_slot (Some slot) second = Some slot

slot_for-append : (front back : List (ℕ × ℕ)) (address : ℕ)
    → slot_for (front ++ back) address ≡ first_slot (slot_for front address) (slot_for back address)
slot_for-append [] _ _ = refl
slot_for-append (first ∷ rest) back address =
    search (rules, cases_eq, put_there, put_elsewhere, (slot_for-append rest back address))

-- the slot that is gathered, if it is shown, or else the one below
abbrev over_slot : (ℕ → Bool) → Option ℕ → Option ℕ → Option ℕ
over_slot shown None below = below
over_slot shown (Some number) below = shown_slot shown (Some number)

over_two : (shown : ℕ → Bool) (slot more below : Option ℕ)
    → over_slot shown (first_slot slot more) below
    ≡ over_slot shown slot (over_slot shown more below)
over_two _ None _ _ = refl
over_two _ (Some _) _ _ = refl

-- what gathered entries tell over an index of the slots below
abbrev pub told_over : ℕ → List (ℕ × ℕ) → Map → Map
told_over fill entries index address =
    over_slot (λ number. nat_lt number fill) (slot_for entries address) (index address)

-- over each index of the first slots they are one of all
abbrev pub IndexesFrom : List Word → ℕ → ℕ → List (ℕ × ℕ) → Type 0
IndexesFrom slots fill count entries =
    (index : Map) → IndexesTo slots count index → IsIndex slots (told_over fill entries index)

module _ (fill count : ℕ) (low : count < fill) where
  one_told : (slot : Slot) (index : Map) (address : ℕ)
      → told_over fill (entries_said slot count fill) index address
      ≡ index_with_slot slot count index address
  one_told (Element named value) index address = search rules
  one_told (Forgotten named value) index address = search rules
  one_told Free _ _ = refl
  one_told Spoiled _ _ = refl
  one_told Foreign _ _ = refl

  pub gathers : (slots : List Word) (behind : ℕ) (entries more : List (ℕ × ℕ)) → count + 1 ≡ behind
      → count < length slots
      → more ≡ entries ++ entries_said (slot_of (get_or slots count Erased)) count fill
      → IndexesFrom slots fill behind entries → IndexesFrom slots fill count more
  gathers slots behind entries more next within is kept index below address =
      let slot = slot_of (get_or slots count Erased) in
      let after = index_with_slot slot count index in
      let shown = λ (number : ℕ). nat_lt number fill in
      let told : told_over fill more index address ≡ told_over fill entries after address =
      search (rules, slot_for-append, over_two, one_told) in
      ap (λ (held : Option ℕ). said_at slots held address) told
      ∙ kept after (rw (← next) (enters slots count index after within (λ named. refl) below))
      address

pub gathered_none : (device : Device) (layout : Layout) (count : ℕ) (entries : List (ℕ × ℕ))
    → IsLayout device layout → count ≡ layout.fill → entries ≡ []
    → IndexesFrom (slots_of (set_of layout.side device)) layout.fill count entries
gathered_none device layout count entries found full none index below = search (rules, indexes_all)

pub gathered_all : (slots : List Word) (fill count : ℕ) (entries : List (ℕ × ℕ)) → count ≡ 0
    → IndexesFrom slots fill count entries
    → IsIndex slots (shown_index (λ number. nat_lt number fill) (slot_for entries))
gathered_all slots fill count entries none kept address =
    let told = kept (slot_for []) (rw none (indexes_none slots [] refl)) address in
    search rules

-- ---- put in order

abbrev slot_in_first : List (ℕ × ℕ) → Option ℕ
slot_in_first [] = None
slot_in_first (first ∷ rest) = Some first.1

-- the first entry of an address has its slot
slot_of_first : (same : ℕ × ℕ → Bool) (address : ℕ)
    → ((entry : ℕ × ℕ) → same entry ≡ (entry.0 == address)) → (entries : List (ℕ × ℕ))
    → slot_for entries address ≡ slot_in_first (filter same entries)
slot_of_first _ _ _ [] = refl
slot_of_first same address is (first ∷ rest) =
    search (rules, cases_eq, put_there, put_elsewhere, (slot_of_first same address is rest))

abbrev by_address : ℕ × ℕ → ℕ × ℕ → Bool
by_address one other = is_lt (nat_cmp one.0 other.0)

tie_is : (address : ℕ) (entry : ℕ × ℕ) → ties by_address (address, 0) entry ≡ (entry.0 == address)
tie_is address entry = grind (arith, common_steps, nat_tests)

-- a stable sort keeps the first entry of each address in front
pub first_sorted : (old new : List (ℕ × ℕ))
    → IsStableByKey (λ (entry : ℕ × ℕ). entry.0) nat_cmp old new → (address : ℕ)
    → slot_for new address ≡ slot_for old address
first_sorted old new stable address =
    slot_of_first (ties by_address (address, 0)) address (tie_is address) new
    ∙ ap slot_in_first (stable (address, 0))
    ∙ sym (slot_of_first (ties by_address (address, 0)) address (tie_is address) old)

abbrev pub same_address : ℕ × ℕ → ℕ × ℕ → Bool
same_address one other = one.0 == other.0

module _ (kept first : ℕ × ℕ) (rest : List (ℕ × ℕ)) (address : ℕ) where
  one_less : first.0 ≡ kept.0
      → slot_for (kept ∷ rest) address ≡ slot_for (kept ∷ first ∷ rest) address
  one_less same = search rules

  one_more : (behind : List (ℕ × ℕ)) → slot_for behind address ≡ slot_for (first ∷ rest) address
      → slot_for (kept ∷ behind) address ≡ slot_for (kept ∷ first ∷ rest) address
  one_more behind alike = search rules

-- of each run of an address its first entry stays
first_stays : (kept : ℕ × ℕ) (entries : List (ℕ × ℕ)) (address : ℕ)
    → slot_for (dedup_from same_address kept entries) address ≡ slot_for (kept ∷ entries) address
first_stays _ [] _ = refl
first_stays kept (first ∷ rest) address = search (
  rules,
  cases_eq,
  one_less,
  one_more,
  (first_stays kept rest address),
  (first_stays first rest address),
)

pub first_kept : (entries : List (ℕ × ℕ)) (address : ℕ)
    → slot_for (dedup same_address entries) address ≡ slot_for entries address
first_kept [] _ = refl
first_kept (first ∷ rest) address = first_stays first rest address

-- and so they rise
abbrev address_cmp : ℕ × ℕ → ℕ × ℕ → Ordering
address_cmp one other = nat_cmp one.0 other.0

address_order : IsTotalOrder address_cmp
address_order = search rules

all_addresses : (P : ℕ → Type 0) (entries : List (ℕ × ℕ))
    → AllByRecursion (λ (entry : ℕ × ℕ). P entry.0) entries → AllByRecursion P (keys_of entries)
all_addresses P [] _ = tt
all_addresses P (_ ∷ rest) all = (all.0, all_addresses P rest all.1)

addresses_rise : (entries : List (ℕ × ℕ)) → IsStrictlySortedBy address_cmp entries
    → AreInOrder entries
unfolding IsStrictlySortedBy
addresses_rise [] _ = tt
addresses_rise (first ∷ rest) sorted = search (rules, all_addresses, (addresses_rise rest sorted.1))

pub kept_rise : (entries : List (ℕ × ℕ))
    → IsSortedByKey (λ (entry : ℕ × ℕ). entry.0) nat_cmp entries
    → AreInOrder (dedup same_address entries)
kept_rise entries sorted =
    addresses_rise (dedup same_address entries)
    (IsStrictlySortedBy-dedup address_order (λ one other. unsigned_ties one.0 other.0) entries
    sorted)
