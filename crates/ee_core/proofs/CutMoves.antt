-- What is drawn where power was cut in filling a set, and in committing it.
use Rattle.ee_core.proofs.Words.{rules, ◌≡◌, suc, zero, append-nil, inl, inr, ℕ, ◌+◌, ◌-◌, ◌<◌, ◌≤◌, true, List, [], ◌∷◌, ◌++◌, length, refl, sym, subst, ap, ◌∙◌, arith, append_assoc, length-append, cases_lt, lt-ltb, get_or_append_left, get_or_past, le-div, All, All-drop, All-take}
use Rattle.ee_core.proofs.Sets.{Device, IsFormed, Size, Word, Erased, slots_before, first_page, other, page_of_slot, place_of_slot, Layout, Side, First, Second, is_blank, Active, Receive, Map}
use Rattle.ee_core.proofs.Calls.{FormatsPartly, not_blank_pages, Wears, AddsWords, Holds, SetsMark, opened_set, AddsPartly, FillsPartly, IsDrawnPartly, PutsPartly, SetsPartly, IsDrawn, blank_picture, element_at, elements_to, filled_set, is_used, marked_to, picture_of, retired_pages}
use Rattle.ee_core.proofs.Cuts.{IsOnTheWay, drawn_between, mark_drawn_partly, put_apart_partly, put_partly}
use Rattle.ee_core.proofs.Drawings.{drawn_both, put_apart}
use Rattle.ee_core.proofs.FilledSets.{near, one_word_more, opens_further}
use Rattle.ee_core.specs.Transfers.{OpensForSlot}
use Rattle.ee_core.proofs.MovedSets.{all_marked, blank_drawn, committed, first_opened, first_page_of, opens_blank, same_retired}
use Rattle.ee_core.proofs.CopiedWords.{one_further}

page_later : (size : Size) (n m : ℕ) → 0 < size.words - 4 → n ≤ m
    → page_of_slot size n ≤ page_of_slot size m
page_later size n m some h = search (rules, le-div)

-- ---- a set that is being filled is on the way

-- with more words, and as many pages open or more
opened_front : (size : Size) (generation last later : ℕ) (words more : List Word) (page at : ℕ)
    → last ≤ later
    → IsOnTheWay Erased (opened_set size generation later (words ++ more) page at)
    (opened_set size generation last words page at)
opened_front size _ last later words more page at h = elim (cases_lt 3 at) [
  | inl slot ↦ elim (cases_lt _ _) [
    | inl earlier ↦ inr
        (rw (lt-ltb 3 at slot)
        (sym (get_or_append_left words more Erased (slots_before size page at) earlier)))
    | inr past ↦ inl (rw (lt-ltb 3 at slot) (get_or_past _ _ _ past))
  ]
  | inr low ↦ search rules
]

-- to the set that is live afterwards
opened_way : (size : Size) (generation : ℕ) (words : List Word) (page at : ℕ)
    → IsOnTheWay Erased (filled_set size generation words page at)
    (opened_set size generation (page_of_slot size (length words - 1)) words page at)
opened_way _ _ _ _ at = search rules

committed_way : (size : Size) (generation : ℕ) (words : List Word) (page at : ℕ)
    → IsOnTheWay Erased (filled_set size generation words page at)
    (committed size generation words page at)
committed_way size generation words page at = search (rules, opened_way)

-- ---- a set that was filled in part

-- is part of what it is filled with in the end
pub partly_longer : (old new : Device) (side : Side) (generation count : ℕ) (more rest : List Word)
    → IsFormed new → AddsPartly old new side generation count more
    → AddsPartly old new side generation count (more ++ rest)
partly_longer _ new side generation _ more rest formed adds = record {
  new_pages = λ words long holds.
      let all = words ++ more in
      let before =
      page_later new.size (length all - 1) (length (all ++ rest) - 1) (omega arith)
      (omega (arith, length-append all rest)) in
      let longer =
      drawn_between _ new _ _ _ _
      (λ page at _ _. (
        inl refl,
        opened_front new.size generation (page_of_slot new.size (length all - 1))
            (page_of_slot new.size (length (all ++ rest) - 1)) all rest page at before,
      ))
      (adds.new_pages words long holds) in
      subst (λ found. FillsPartly new (other side) generation found) (append_assoc words more rest)
      longer;
}

-- more words, and then some in part
pub adds_then : (old mid new : Device) (side : Side) (generation count : ℕ)
    (more further : List Word)
    → AddsWords old mid side generation count more
    → AddsPartly mid new side generation (count + length more) further
    → AddsPartly old new side generation count (more ++ further)
adds_then _ _ new side generation _ more further first second = record {
  new_pages = λ words long holds.
      subst (λ all. FillsPartly new (other side) generation all) (append_assoc words more further)
      (second.new_pages (words ++ more) (length-append words more ∙ ap (λ n. n + length more) long)
      (first.new_pages words long holds));
}

-- ---- one word more

-- cut in the receive word of its page
pub receive_partly : (old new : Device) (side : Side) (generation count : ℕ) (word : Word)
    → IsFormed old → new.size ≡ old.size → page_of_slot old.size count < old.size.pages
    → SetsPartly (first_page old.size (other side) + page_of_slot old.size count)
    (Receive generation) old new
    → AddsPartly old new side generation count (word ∷ [])
receive_partly old new side generation count word formed sizes h sets = record {
  new_pages = λ words long holds.
      let k = page_of_slot old.size count in
      let all = words ++ (word ∷ []) in
      let some : 0 < old.size.words - 4 = omega arith in
      let drawn =
      mark_drawn_partly _ _ _ k (Receive generation) _ formed sizes h
      (subst
      (λ n. IsDrawn (other side) old
      (opened_set old.size generation (page_of_slot old.size (n - 1)) words))
      long holds) sets in
      let fills =
      drawn_between _ new _ _ _ _
      (λ page at _ _. (
        opened_front old.size generation (page_of_slot old.size (count - 1)) k words (word ∷ [])
            page at (page_later old.size (count - 1) count some (omega arith)),
        subst (λ found. IsOnTheWay Erased (opened_set old.size generation k all page at) found)
            (sym (opens_further old.size _ _ k _ _ at (near old.size _ some)))
            (opened_front old.size generation k k words (word ∷ []) page at (omega arith)),
      )) drawn in
      let there =
      subst
      (λ n. IsDrawnPartly (other side) new blank_picture
      (opened_set old.size generation (page_of_slot old.size n) all))
      (omega (arith, length-append words (word ∷ []))) fills in
      subst
      (λ size. IsDrawnPartly (other side) new blank_picture
      (opened_set size generation (page_of_slot size (length all - 1)) all)) (sym sizes)
      there;
}

-- or in itself, in a page that is open
pub word_partly : (old new : Device) (side : Side) (generation count : ℕ) (word : Word)
    → IsFormed old → new.size ≡ old.size → page_of_slot old.size count < old.size.pages
    → place_of_slot old.size count < old.size.words
    → PutsPartly (first_page old.size (other side) + page_of_slot old.size count)
    (place_of_slot old.size count) word old new
    → (words : List Word) → length words ≡ count
    → IsDrawn (other side) old (opened_set old.size generation (page_of_slot old.size count) words)
    → FillsPartly new (other side) generation (words ++ (word ∷ []))
word_partly old new side generation count word _ sizes h inside puts words long before =
    let k = page_of_slot old.size count in
    let all = words ++ (word ∷ []) in
    let fills =
    drawn_between _ new _ _ _ _
    (λ page at _ within. (
      opened_front old.size generation k k words (word ∷ []) page at (omega arith),
      inr
          (one_word_more old.size _ k _ _ _ _ at long
          (omega (arith, ap (λ size. size.words) sizes))),
    )) (put_partly _ _ _ k _ _ _ sizes before h inside puts) in
    let there =
    subst
    (λ n. IsDrawnPartly (other side) new blank_picture
    (opened_set old.size generation (page_of_slot old.size n) all))
    (omega (arith, length-append words (word ∷ []), long)) fills in
    subst
    (λ size. IsDrawnPartly (other side) new blank_picture
    (opened_set size generation (page_of_slot size (length all - 1)) all)) (sym sizes)
    there

-- ---- the set as a whole

pub filled_partly : (side : Side) (new : Device) (generation : ℕ) (words : List Word)
    → FillsPartly new side generation words
    → IsDrawnPartly side new blank_picture (filled_set new.size generation words)
filled_partly _ new generation words fills = search (rules, drawn_between, opened_way)

-- cut in the mark that commits it
pub commit_partly : (side : Side) (old new : Device) (generation : ℕ) (words : List Word)
    → IsFormed old → new.size ≡ old.size → SetsPartly (first_page old.size side) Active old new
    → Holds old side generation words
    → IsDrawnPartly side new blank_picture (filled_set old.size generation words)
commit_partly side old new generation words formed sizes sets holds =
    let there = subst (λ n. SetsPartly n Active old new) (omega arith) sets in
    let before = opened_set old.size generation (page_of_slot old.size (length words - 1)) words in
    drawn_between _ new _ _ _ _
    (λ page at _ _.
    (opened_way old.size generation words page at, committed_way old.size generation words page at))
    (mark_drawn_partly _ _ _ 0 Active _ formed sizes (omega arith) holds there)

-- or in a mark behind that
pub marked_partly : (side : Side) (mid new : Device) (generation last : ℕ) (words : List Word)
    → new.size ≡ mid.size → IsDrawn side mid (committed mid.size generation words)
    → last ≡ page_of_slot mid.size (length words - 1)
    → IsDrawnPartly side new (picture_of side mid) (marked_to last (picture_of side mid))
    → IsDrawnPartly side new blank_picture (filled_set mid.size generation words)
marked_partly _ mid new generation last words sizes held last_is drawn =
    search (rules, drawn_between, committed_way, all_marked)

-- the first mark of blank pages
pub open_partly : (side : Side) (old new : Device) (generation : ℕ) (words : List Word)
    → IsFormed old → new.size ≡ old.size → IsDrawn side old blank_picture
    → SetsPartly (first_page old.size side) (Receive generation) old new
    → FillsPartly new side generation words
open_partly side old new generation words formed sizes all sets =
    search (rules, drawn_between, first_opened, opened_front, page_later, mark_drawn_partly)

-- ---- a format

pub format_cut : (start old new : Device) → Wears (not_blank_pages start) start new → IsFormed old
    → new.size ≡ old.size → All (λ page. is_blank page ≡ true) old.image
    → SetsPartly 0 (Receive 1) old new → FormatsPartly start new
format_cut _ old new wear formed sizes all sets = record {
  wear = wear;
  first_set = search (filled_partly, open_partly, blank_drawn, All-take);
  second_set = λ page at h within.
      put_apart_partly Second _ _ 0 0 _ sizes (first_page_of _ formed) sets page at h within
      ∙ blank_drawn Second _ formed (All-drop (λ page. is_blank page ≡ true) _ _ all) page at
      (omega (arith, ap (λ size. size.pages) sizes))
      (omega (arith, ap (λ size. size.words) sizes));
}

pub format_cut_then : (start old mid new : Device) → Wears (not_blank_pages start) start new
    → IsFormed old → IsFormed mid → mid.size ≡ old.size → new.size ≡ mid.size
    → All (λ page. is_blank page ≡ true) old.image → SetsMark 0 (Receive 1) old mid
    → SetsPartly 0 Active mid new → FormatsPartly start new
format_cut_then _ old mid new wear formed mid_formed first_sizes second_sizes all receives active =
    record {
      wear = wear;
      first_set =
          subst (λ size. IsDrawnPartly First new blank_picture (filled_set size 1 []))
          (sym second_sizes)
          (commit_partly First mid new 1 [] mid_formed second_sizes active
          (opens_blank First _ _ 1 formed first_sizes
          (All-take (λ page. is_blank page ≡ true) old.size.pages _ all) receives));
      second_set = λ page at h within.
          drawn_both Second old mid new first_sizes second_sizes
          (put_apart Second _ _ 0 0 _ first_sizes (first_page_of _ formed) receives)
          (put_apart_partly Second _ _ 0 1 _ second_sizes (first_page_of _ mid_formed) active) page
          at h within
          ∙ blank_drawn Second _ formed
          (All-drop (λ page. is_blank page ≡ true) old.size.pages _ all) page at
          (omega (
            arith,
            ap (λ (size : Size). size.pages) second_sizes,
            ap (λ (size : Size). size.pages) first_sizes,
          ))
          (omega (
            arith,
            ap (λ (size : Size). size.words) second_sizes,
            ap (λ (size : Size). size.words) first_sizes,
          ));
    }

-- ---- a transfer

-- the word behind the receive word of its page
pub stage_partly : (old mid new : Device) (layout : Layout) (count : ℕ) (word : Word)
    → OpensForSlot old mid layout count → IsFormed mid → new.size ≡ mid.size
    → page_of_slot mid.size count < mid.size.pages → place_of_slot mid.size count < mid.size.words
    → PutsPartly (first_page mid.size (other layout.side) + page_of_slot mid.size count)
    (place_of_slot mid.size count) word mid new
    → AddsPartly old new layout.side (layout.generation + 1) count (word ∷ [])
stage_partly old mid new layout count word first formed sizes h inside puts = record {
  new_pages = λ words long holds.
      let side = other layout.side in
      let generation = layout.generation + 1 in
      let open_now =
      subst (λ size. IsDrawn side mid (opened_set size generation (page_of_slot size count) words))
      (sym first.keeps.same_size)
      (first.opens words long
      (subst
      (λ n. IsDrawn side old
      (opened_set old.size generation (page_of_slot old.size (n - 1)) words))
      long holds)) in
      word_partly mid new layout.side generation count word formed sizes h inside puts words long
      open_now;
}

-- the elements up to an address come first
pub elements_front : (map : Map) (n m : ℕ) → n ≤ m
    → (rest : List Word) × (elements_to map m ≡ elements_to map n ++ rest)
elements_front map n zero h =
    ([], ap (elements_to map) (omega arith) ∙ sym (append-nil (elements_to map n)))
elements_front map n (suc m) h = elim (cases_lt n (suc m)) [
  | inr last ↦ search rules
  | inl more ↦
      let front = elements_front map n m (omega arith) in
      let next = element_at (suc m) (map (suc m)) in (
        front.0 ++ next,
        one_further _ m ∙ ap (λ words. words ++ next) front.1
            ∙ append_assoc (elements_to map n) front.0 next,
      )
]

-- cut in a mark of the set that was left
pub retires_partly : (side : Side) (old mid new : Device) → IsFormed old → IsFormed mid
    → mid.size ≡ old.size → new.size ≡ mid.size → IsDrawn side mid (picture_of side old)
    → IsDrawnPartly side new (picture_of side mid)
    (retired_pages (is_used side mid) (picture_of side mid))
    → IsDrawnPartly side new (picture_of side old)
    (retired_pages (is_used side old) (picture_of side old))
retires_partly _ _ mid new old_formed formed first_sizes second_sizes same drawn =
    search (rules, drawn_between, same_retired)
