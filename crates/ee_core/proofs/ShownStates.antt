-- What the pictures say of the states of the pages.
use Rattle.ee_core.proofs.Words.{rules, ◌≡◌, inl, inr, ℕ, ◌+◌, ◌-◌, ◌<◌, Bool, true, false, cond, not, Option, Some, None, is_some, List, [], ◌∷◌, length, refl, sym, subst, ap, ◌∙◌, arith, suc, zero, length-append, ◌==◌, ◌&&◌, zero-div, cases_Bool, cases_lt, ext_get_or}
use Rattle.ee_core.proofs.Sets.{Device, page_at, word_at, Size, page_count, Word, Erased, Held, Torn, length-page_at, IsLegal, IsLive, Change, Forget, Map, Put, changed_by, map_after, live_in, live_to, is_blank, is_written, state_of_words, first_page, live_of, other, page_of_slot, Side, First, Second, Mark, live_to-zero, change_counts, blank_word, live_to-suc}
use Rattle.ee_core.proofs.Calls.{IsLowestPending, IsSameBut, last_used, ShowsMarks, IsDrawn, OfLive, Picture, element_at, elements_to, filled_set, is_used, marked_word, marked_to, moved_words, picture_of, retired_pages, state_of}
use Rattle.ee_pages.specs.declared.state.State.TheVariants.{Erased as Unused, Erasing}
use Rattle.ee_core.specs.Shown.{ShowsAppended, ShowsMoved, is_left}
use Rattle.ee_core.specs.PageStates.{MovedWordsAreLive, PicturesTellImages, StatesAfterAppend, StatesAfterClean, StatesAfterFormat, StatesAfterOpening, StatesAfterTransfer, filled_state, marked_state, state_at}
use Rattle.ee_core.proofs.CopiedMaps.{changed_by-other, forget-at, put_last, same_counts}
use Rattle.ee_core.proofs.CopiedWords.{no_elements, one_further}
use Rattle.ee_core.proofs.Drawings.{with_word-elsewhere}
use Rattle.ee_core.proofs.SetPages.{page_of_set}

-- what holds of the live set, named
of_live : (Shows : Side → ℕ → Type 0) (device : Device) (side : Side) (generation : ℕ)
    → OfLive device Shows → live_of device ≡ Some (side, generation) → Shows side generation
of_live Shows _ _ generation found live = search rules

live_here : (device : Device) (side : Side) (generation : ℕ) → IsLegal device
    → live_of device ≡ Some (side, generation) → IsLive device side generation
live_here device _ generation legal live = search rules

unwritten : (written rest : Bool) → (not written && rest) ≡ true → written ≡ false
unwritten true _ e = absurd (cc e)
unwritten false _ e = refl

-- no page of a live set may be erased
not_retired : (device : Device) (side : Side) (generation page : ℕ) → IsLive device side generation
    → page < device.size.pages → is_written (picture_of side device page 3) ≡ false
not_retired _ _ _ page live h = search (rules, page_of_set, unwritten)

marked-is_written : (mark : Mark) (word : Word) → is_written (marked_word mark word) ≡ true
marked-is_written _ Erased = refl
marked-is_written _ (Held _) = refl
marked-is_written _ Torn = refl

-- a page's state after the marks up to this one
marked_shown : (side : Side) (old new : Device) (last page : ℕ)
    → ((at : ℕ) → at < 4
    → picture_of side new page at ≡ marked_to last (picture_of side old) page at)
    → is_written (picture_of side old page 3) ≡ false
    → state_at side new page ≡ marked_state side old last page
marked_shown side old new last page words free = search (rules, marked-is_written)

-- of a set that was filled
filled_shown : (side : Side) (device : Device) (size : Size) (generation : ℕ) (words : List Word)
    (page : ℕ)
    → ((at : ℕ) → at < 4
    → picture_of side device page at ≡ filled_set size generation words page at)
    → state_at side device page ≡ filled_state (page_of_slot size (length words - 1)) page
filled_shown side device size _ words page drawn = search rules

-- of a page that is as before
same_shown : (side : Side) (old new : Device) (page : ℕ)
    → ((at : ℕ) → at < 4 → picture_of side new page at ≡ picture_of side old page at)
    → state_at side new page ≡ state_at side old page
same_shown _ _ _ page words = search rules

retired_shown : (side : Side) (device : Device) (page : ℕ)
    → is_written (picture_of side device page 3) ≡ true → state_at side device page ≡ Erasing
retired_shown _ _ _ written = rw written refl

blank_shown : (side : Side) (device : Device) (page : ℕ)
    → ((at : ℕ) → at < 4 → picture_of side device page at ≡ Erased)
    → state_at side device page ≡ Unused
blank_shown _ _ _ words = search rules

pub states_after_append_lem : StatesAfterAppend
states_after_append_lem old change new side generation page store appends live h =
    let shows =
    of_live (λ set n. ShowsAppended old change new set) old side generation appends.image
    live in
    let is = live_here old side generation store.legal live in
    let now : page < new.size.pages =
    omega (arith, ap (λ size. size.pages) appends.goes_on.same_size) in
    let last = page_of_slot old.size (state_of old).fill in (
      marked_shown side old new last page (λ at low.
          shows.live_pages page at now
          (omega (
            arith,
            low,
            is.formed.within_limits.some_words,
            ap (λ (size : Size). size.words) appends.goes_on.same_size,
          ))
          ∙ with_word-elsewhere _ _ _ (marked_to last (picture_of side old)) _ at
          (inr (λ e. omega arith)))
          (not_retired old side generation page is h),
      same_shown (other side) old new page
          (λ at low. shows.old_pages page at now
          (omega (
            arith,
            low,
            is.formed.within_limits.some_words,
            ap (λ (size : Size). size.words) appends.goes_on.same_size,
          ))),
    )

-- as many words as addresses
element_counts : (address : ℕ) (value : Option ℕ)
    → length (element_at address value) ≡ cond (is_some value) 1 0
element_counts _ None = refl
element_counts _ (Some _) = refl

words_counted : (map : Map) (n : ℕ) → length (elements_to map n) ≡ live_to map n
words_counted _ zero = ap length (no_elements _) ∙ sym (live_to-zero _)
words_counted map (suc n) =
    ap length (one_further _ n)
    ∙ length-append (elements_to map n) (element_at (suc n) (map (suc n)))
    ∙ ap (λ k. k + length (element_at (suc n) (map (suc n)))) (words_counted map n)
    ∙ ap (λ k. live_to map n + k) (element_counts (suc n) (map (suc n)))
    ∙ sym (live_to-suc _ n)

pub moved_words_are_live_lem : MovedWordsAreLive
moved_words_are_live_lem [] map _ = words_counted map 65534
moved_words_are_live_lem (Put address value ∷ changes) map apart =
    let others = map_after (Forget address) map in
    let after = changed_by changes others in
    let rest = moved_words_are_live_lem changes others apart.2 in
    let one =
    (change_counts (Put address value) after apart.0)
    ∙ ap (λ held. live_in after + cond (is_some held) 0 1)
    (changed_by-other changes others address apart.1 ∙ forget-at map address _ refl) in
    let same = same_counts _ _ (put_last _ map address value apart.1) in
    omega arith
moved_words_are_live_lem (Forget address ∷ changes) map apart =
    moved_words_are_live_lem changes (map_after (Forget address) map) apart.2

-- a page that is left and may not be erased is blank
left_blank : (changes : List Change) (side : Side) (device : Device) (page : ℕ)
    → is_left changes side device page ≡ false → is_used side device page ≡ false
left_blank [] _ _ _ e = e
left_blank (change ∷ []) _ _ _ e = absurd (cc e)
left_blank (first ∷ _ ∷ _) _ _ _ e = e

not_used : (blank : Bool) → not blank ≡ false → blank ≡ true
not_used true e = refl
not_used false e = absurd (cc e)

blank_state : (words : List Word) → is_blank words ≡ true → state_of_words words ≡ Unused
blank_state _ blank = search blank_word

-- where a page may not be erased, its words stay
kept_word : (waits : ℕ → Bool) (picture : Picture) (page at : ℕ) → waits page ≡ false
    → retired_pages waits picture page at ≡ picture page at
kept_word _ _ _ at e = search rules

pub states_after_transfer_lem : StatesAfterTransfer
states_after_transfer_lem old changes new side generation page store moves proper live h =
    let shows =
    of_live (λ set n. ShowsMoved old changes new set n) old side generation moves.image live in
    let now : page < new.size.pages =
    omega (arith, ap (λ size. size.pages) moves.goes_on.same_size) in
    let is = live_here old side generation store.legal live in
    let inside : 4 < new.size.words =
    omega (arith, ap (λ (size : Size). size.words) moves.goes_on.same_size) in
    let fill =
    ap (λ state. state.fill) moves.state_is
    ∙ sym (moved_words_are_live_lem changes (state_of old).map proper) in (
      filled_shown (other side) new old.size (generation + 1)
          (moved_words changes (state_of old).map) page
          (λ at low. shows.new_pages page at now (omega arith))
          ∙ ap (λ n. filled_state (page_of_slot old.size (n - 1)) page) (sym fill),
      elim (cases_Bool (is_left changes side old page)) [
        | inl left ↦
            search (rules, retired_shown, marked-is_written)
        | inr stays ↦
            search (rules, same_shown, kept_word, blank_state, not_used, left_blank)
      ],
    )

-- one page waits below the others
lowest_is : (device : Device) (first second : ℕ) → IsLowestPending device first
    → IsLowestPending device second → first ≡ second
lowest_is _ first second one two = elim (cases_lt _ _) [
  | inl below ↦ absurd (two.none_lower first below one.waits)
  | inr from ↦ elim (cases_lt _ _) [
    | inl above ↦ absurd (one.none_lower second above two.waits)
    | inr to ↦ omega arith
  ]
]

clean_state : (old new : Device) (lowest page : ℕ) → is_blank (page_at new lowest) ≡ true
    → IsSameBut lowest old new
    → state_of_words (page_at new page)
    ≡ cond (page == lowest) Unused (state_of_words (page_at old page))
clean_state old new lowest page blank others = search (rules, blank_state)

pub states_after_clean_lem : StatesAfterClean
states_after_clean_lem old new lowest page erases is =
    let same = lowest_is old erases.lowest.page lowest erases.lowest.lowest is in
    clean_state old new lowest page
    (subst (λ n. is_blank (page_at new n) ≡ true) same erases.lowest.blank)
    (subst (λ n. IsSameBut n old new) same erases.lowest.others)

-- where a page is blank, it is not marked
not_waiting : (blank : Bool) → blank ≡ true → (picture : Picture) (page at : ℕ)
    → retired_pages (λ p. not blank) picture page at ≡ picture page at
not_waiting _ e _ _ at =
    rw e
    (elim (cases_Bool (at == 3))
    [ inl three ↦ rw three refl | inr other_place ↦ rw other_place refl ])

pub states_after_opening_lem : StatesAfterOpening
states_after_opening_lem old new side generation page opens live h =
    let shows = of_live (λ set n. ShowsMarks old new set) old side generation opens.image live in
    let is = live_here old side generation opens.legal live in
    let now : page < new.size.pages =
    omega (arith, ap (λ size. size.pages) opens.goes_on.same_size) in
    let inside : 4 < new.size.words = omega arith in
    let words = page_at old (first_page old.size (other side) + page) in (
      marked_shown side old new (last_used old side) page
          (λ at low. shows.live_pages page at now (omega arith))
          (not_retired old side generation page is h),
      elim (cases_Bool (is_blank words)) [
        | inl blank ↦
            rw blank (blank_shown (other side) new page (λ at low.
            shows.old_pages page at now (omega arith)
            ∙ not_waiting (is_blank words) blank (picture_of (other side) old) page at
            ∙ blank_word _ at blank))
        | inr written ↦
            search (rules, retired_shown, marked-is_written)
      ],
    )

pub states_after_format_lem : StatesAfterFormat
states_after_format_lem _ _ _ formatted h = search (rules, zero-div, filled_shown, blank_shown)

-- the words of a page of the device are those of a page of one of its sets
page_of_either : (old new : Device) (n at : ℕ) → new.size ≡ old.size → n < page_count old.size
    → at < old.size.words → ((side : Side) → IsDrawn side new (picture_of side old))
    → word_at new n at ≡ word_at old n at
page_of_either old new n at sizes h within drawn =
    let inside : at < new.size.words = omega (arith, ap (λ size. size.words) sizes) in
    elim (cases_lt n old.size.pages) [
      | inl first ↦
          let e : 0 + n ≡ n = omega arith in
          ap (λ k. word_at new k at) (sym e)
          ∙ drawn First n at (omega (arith, ap (λ size. size.pages) sizes)) inside
          ∙ ap (λ k. word_at old k at) e
      | inr second ↦
          let k = n - old.size.pages in
          let now : n ≡ new.size.pages + (n - old.size.pages) =
          omega (arith, ap (λ size. size.pages) sizes) in
          ap (λ p. word_at new p at) now ∙ drawn Second (n - old.size.pages) at (omega arith) inside
          ∙ ap (λ p. word_at old p at) (omega arith)
    ]

pub pictures_tell_images_lem : PicturesTellImages
pictures_tell_images_lem old new formed new_formed sizes drawn =
    let counts = ap page_count sizes in
    let widths = ap (λ size. size.words) sizes in
    ext_get_or [] new.image old.image (omega arith) (λ n h.
    let before : n < page_count old.size = omega arith in
    let long = length-page_at _ n new_formed (omega arith) in
    let long_before = length-page_at _ n formed before in
    ext_get_or Erased (page_at new n) (page_at old n) (omega arith) (λ at within.
    page_of_either old new n at sizes before (omega arith) drawn))
