-- What a cut step leaves of the words, and how that goes together over a call.
use Rattle.ee_core.proofs.Words.{rules, ◌≡◌, ◌≢◌, ◌⊎◌, inl, inr, ℕ, ◌+◌, ◌<◌, ◌≤◌, true, List, set, refl, sym, subst, ap, ◌∙◌, arith}
use Rattle.ee_core.proofs.Sets.{Device, IsFormed, page_at, word_at, page_count, Step, Program, Erase, IsCutIn, IsPartlyErased, IsUntouched, Word, Erased, Held, is_blank, is_marked, marking, place_of_mark, first_page, other, Side, Mark, erased_word, IsPageOf}
use Rattle.ee_core.proofs.Calls.{IsSameBut, PutsWord, ErasesPartly, IsDrawnPartly, IsPartlyDone, PutsPartly, SetsPartly, IsDrawn, Picture, marked_word, picture_of, picture_with_word, WearsTo, not_blank_from}
use Rattle.ee_core.proofs.Drawings.{marked-erased, put_apart, put_drawn, with_mark, with_word-elsewhere, with_word-there}
use Rattle.ee_core.proofs.Marks.{place_below}

-- ---- a word

held_new : (value : ℕ) (word : Word) → word ≡ Erased → Held value ≢ word
held_new _ _ is same = cc (is, same)

-- a word that is put into a page, whatever else changed
image_puts : (page at : ℕ) (word : Word) (old new : Device) → IsFormed old
    → page < page_count old.size → at < old.size.words
    → new.image ≡ set old.image page (set (page_at old page) at word)
    → PutsWord page at word old new
image_puts page at word old _ formed h inside is = search rules

same_image : (page at : ℕ) (word : Word) (old new : Device) → new.image ≡ old.image
    → PutsPartly page at word old new
same_image _ _ _ _ new same = search rules

pub nothing_put : (page at : ℕ) (word : Word) (old new : Device) → new ≡ old
    → PutsPartly page at word old new
nothing_put page at word old new same = search (rules, same_image)

-- a program that was cut
pub program_partly : (page at value : ℕ) (old new : Device) → IsFormed old
    → page < page_count old.size → at < old.size.words → word_at old page at ≡ Erased
    → IsCutIn (Program page at value) old new ⊎ IsUntouched old new
    → PutsPartly page at (Held value) old new
program_partly page at value old new _ h _ _ (inr untouched) =
    nothing_put page at (Held value) old new untouched.same
program_partly page at value old new formed h inside erased (inl cut) = elim cut.image [
  | inl same ↦ same_image page at (Held value) old new same
  | inr (inl held) ↦
      search (rules, image_puts)
  | inr (inr torn) ↦
      search (rules, image_puts, held_new)
]

-- marking that was cut
pub mark_partly : (page : ℕ) (mark : Mark) (old new : Device) → IsFormed old
    → page < page_count old.size → (is_marked old page mark ≡ true → new ≡ old)
    → IsCutIn (marking page mark) old new ⊎ IsUntouched old new → SetsPartly page mark old new
mark_partly page mark old new formed h present cut =
    search (rules, nothing_put, marked-erased, program_partly, place_below, erased_word)

-- said of another spelling of the place and the number
pub program_partly_at : (page at value : ℕ) (old new : Device) (p k n : ℕ) → IsFormed old
    → p < page_count old.size → k < old.size.words → page ≡ p → at ≡ k → value ≡ n
    → word_at old p k ≡ Erased → IsCutIn (Program page at value) old new ⊎ IsUntouched old new
    → PutsPartly p k (Held n) old new
program_partly_at _ at value old new p k n formed h inside page_is at_is value_is erased cut =
    search (rules, program_partly)

pub cut_size : (step : Step) (old new : Device) → IsCutIn step old new ⊎ IsUntouched old new
    → new.size ≡ old.size
cut_size _ _ _ (inl cut) = cut.same_size
cut_size _ _ _ (inr untouched) = ap (λ device. device.size) untouched.same

-- at another spelling of the page
pub mark_partly_at : (page p : ℕ) (mark : Mark) (old new : Device) → IsFormed old
    → p < page_count old.size → page ≡ p → (is_marked old page mark ≡ true → new ≡ old)
    → IsCutIn (marking page mark) old new ⊎ IsUntouched old new → SetsPartly p mark old new
mark_partly_at page p mark old new formed h is present cut =
    subst (λ n. SetsPartly n mark old new) is
    (mark_partly page mark old new formed (subst (λ n. n < page_count old.size) (sym is) h)
    present cut)

-- the word that is there now
pub puts_now : (page at : ℕ) (word : Word) (old new : Device) → PutsPartly page at word old new
    → PutsWord page at (word_at new page at) old new
puts_now _ _ _ _ _ puts = record { there = refl; elsewhere = puts.elsewhere }

-- ---- pictures

-- in a page of the set
pub put_partly : (side : Side) (old new : Device) (k at : ℕ) (word : Word) (picture : Picture)
    → new.size ≡ old.size → IsDrawn side old picture → k < old.size.pages → at < old.size.words
    → PutsPartly (first_page old.size side + k) at word old new
    → IsDrawnPartly side new picture (picture_with_word k at word picture)
put_partly side old new k at word picture sizes drawn in_set inside puts page place h within =
    let now = word_at new (first_page old.size side + k) at in
    let there =
    put_drawn _ old _ k at now picture sizes drawn
    (puts_now (first_page old.size side + k) at word old new puts) page place h within in
    search (rules, with_word-elsewhere, with_word-there)

pub mark_drawn_partly : (side : Side) (old new : Device) (k : ℕ) (mark : Mark) (picture : Picture)
    → IsFormed old → new.size ≡ old.size → k < old.size.pages → IsDrawn side old picture
    → SetsPartly (first_page old.size side + k) mark old new
    → IsDrawnPartly side new picture (with_mark k mark picture)
mark_drawn_partly side old new k mark picture formed sizes h drawn sets =
    let at = place_of_mark mark in
    let inside : at < old.size.words = omega (arith, place_below mark) in
    put_partly side old new k at (marked_word mark (picture k at)) picture sizes drawn h inside
    (subst (λ was. PutsPartly (first_page old.size side + k) at (marked_word mark was) old new)
    (drawn k at h inside) sets)

-- in a page of the other set
pub put_apart_partly : (side : Side) (old new : Device) (page at : ℕ) (word : Word)
    → new.size ≡ old.size → IsPageOf old.size (other side) page → PutsPartly page at word old new
    → IsDrawn side new (picture_of side old)
put_apart_partly _ old new page at word sizes of puts = search (put_apart, puts_now)

-- a word on the way of a call: as before, or as the whole call leaves it
abbrev pub IsOnTheWay : Word → Word → Word → Type 0
IsOnTheWay old whole word = (word ≡ old) ⊎ (word ≡ whole)

-- a cut between two such words is one between the ends
pub between : (old whole from to new : Word) → IsOnTheWay old whole from → IsOnTheWay old whole to
    → IsPartlyDone from to new → IsPartlyDone old whole new
between _ _ _ _ _ (inl is) _ (inl same) = inl (same ∙ is)
between _ _ _ _ _ (inr is) _ (inl same) = inr (inl (same ∙ is))
between _ _ _ _ _ _ (inl is) (inr (inl same)) = inl (same ∙ is)
between _ _ _ _ _ _ (inr is) (inr (inl same)) = inr (inl (same ∙ is))
between _ _ _ _ _ (inl is) (inr ends) (inr (inr torn)) =
    inr (inr (torn.0, λ e. torn.1 (ends ∙ e ∙ sym is)))
between _ _ _ _ _ (inr is) (inl ends) (inr (inr torn)) =
    inr (inr (torn.0, λ e. torn.1 (ends ∙ sym e ∙ sym is)))
between _ _ _ _ _ (inl is) (inl ends) (inr (inr torn)) = absurd (torn.1 (ends ∙ sym is))
between _ _ _ _ _ (inr is) (inr ends) (inr (inr torn)) = absurd (torn.1 (ends ∙ sym is))

pub drawn_between : (side : Side) (device : Device) (old whole from to : Picture)
    → ((page at : ℕ) → page < device.size.pages → at < device.size.words
    → IsOnTheWay (old page at) (whole page at) (from page at)
    × IsOnTheWay (old page at) (whole page at) (to page at))
    → IsDrawnPartly side device from to → IsDrawnPartly side device old whole
drawn_between side device old whole from to way drawn page at h within = search (rules, between)

-- nothing of the call is done, or all
pub drawn_before : (side : Side) (device : Device) (old whole : Picture) → IsDrawn side device old
    → IsDrawnPartly side device old whole
drawn_before _ _ _ _ drawn page at h within = inl (drawn page at h within)

pub drawn_whole : (side : Side) (device : Device) (old whole : Picture) → IsDrawn side device whole
    → IsDrawnPartly side device old whole
drawn_whole _ _ _ _ drawn page at h within = inr (inl (drawn page at h within))

-- ---- an erase

-- an erase that was cut
pub erase_partly : (page : ℕ) (old new : Device)
    → IsCutIn (Erase page) old new ⊎ IsUntouched old new
    → IsPartlyErased (page_at old page) (page_at new page)
erase_partly _ _ _ (inl cut) = cut.image.0
erase_partly page _ _ (inr untouched) = record { as_long = search rules; each = search rules }

-- in a look over pages, where those before it are blank and the others as before
pub erases_partly : (first page : ℕ) (pages : List (List Word)) (old mid new : Device)
    → WearsTo page (not_blank_from first pages) old new → first ≤ page
    → ((k : ℕ) → first ≤ k → k < page → is_blank (page_at mid k) ≡ true)
    → ((k : ℕ) → (k < first) ⊎ (page ≤ k) → page_at mid k ≡ page_at old k) → IsSameBut page mid new
    → IsPartlyErased (page_at mid page) (page_at new page) → ErasesPartly first pages old new
erases_partly _ page _ _ mid new wear from blank rest others partly = search rules
