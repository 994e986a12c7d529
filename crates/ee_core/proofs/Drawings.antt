-- Pictures of sets: what a word that is put into a page, or a mark that is set, leaves of them.
use Rattle.ee_core.proofs.Words.{rules, ◌≡◌, ◌≢◌, ◌⊎◌, inl, inr, ℕ, ◌+◌, ◌<◌, Bool, true, false, refl, ap, ◌∙◌, ◌==◌, ◌&&◌, nat_lt, if◌then◌else◌, cases_Bool, eq-eqb, lt-ltb, ne_eqb}
use Rattle.ee_core.proofs.Sets.{Device, IsFormed, page_count, device_after, with_word_programmed, Word, Erased, Held, Torn, IsPageOf, is_marked, is_written, marking, number_of_mark, place_of_mark, first_page, other, Side, Mark, Active, Erasing, Valid}
use Rattle.ee_core.proofs.Calls.{IsSameSet, PutsWord, SetsMark, IsDrawn, Picture, marked_word, marked_to, picture_of, retired_pages, picture_with_word}
use Rattle.ee_core.proofs.SetPages.{apart, same_page}
use Rattle.ee_core.proofs.Marks.{place_below}

-- a set that stands as it was, through two calls
pub drawn_both : (side : Side) (old mid new : Device) → mid.size ≡ old.size → new.size ≡ mid.size
    → IsDrawn side mid (picture_of side old) → IsDrawn side new (picture_of side mid)
    → IsDrawn side new (picture_of side old)
drawn_both _ _ _ _ _ second_sizes first second page at h within = search rules

pub drawn_same : (side : Side) (device : Device) → IsDrawn side device (picture_of side device)
drawn_same _ _ _ _ h _ = refl

-- the same pages are drawn alike
pub same_drawn : (side : Side) (old new : Device) → new.size ≡ old.size → IsSameSet side old new
    → IsDrawn side new (picture_of side old)
same_drawn _ _ _ sizes same _ at h _ = search (rules, same_page)

-- as another picture shows it
pub drawn_as : (side : Side) (device : Device) (first second : Picture) → IsDrawn side device first
    → ((page at : ℕ) → page < device.size.pages → at < device.size.words
    → first page at ≡ second page at)
    → IsDrawn side device second
drawn_as _ _ _ _ drawn same page at h within = drawn page at h within ∙ same page at h within

pub with_word-there : (k at : ℕ) (word : Word) (picture : Picture) (page place : ℕ) → page ≡ k
    → place ≡ at → picture_with_word k at word picture page place ≡ word
with_word-there k at _ _ page place here there = rw (eq-eqb page k here, eq-eqb place at there) refl

pub with_word-elsewhere : (k at : ℕ) (word : Word) (picture : Picture) (page place : ℕ)
    → (page ≢ k) ⊎ (place ≢ at)
    → picture_with_word k at word picture page place ≡ picture page place
with_word-elsewhere k _ _ _ page _ (inl apart) = rw (ne_eqb page k apart) refl
with_word-elsewhere k at _ _ page place (inr apart) = elim (cases_Bool (page == k)) [
  | inl here ↦ rw (here, ne_eqb place at apart) refl
  | inr away ↦ rw away refl
]

-- a word is put into a page of the set
pub put_drawn : (side : Side) (old new : Device) (k at : ℕ) (word : Word) (picture : Picture)
    → new.size ≡ old.size → IsDrawn side old picture
    → PutsWord (first_page old.size side + k) at word old new
    → IsDrawn side new (picture_with_word k at word picture)
put_drawn side old new k at word picture sizes drawn puts page place h within =
    search (rules, with_word-elsewhere, with_word-there)

-- a word is put into a page of the other set
pub put_apart : (side : Side) (old new : Device) (page at : ℕ) (word : Word) → new.size ≡ old.size
    → IsPageOf old.size (other side) page → PutsWord page at word old new
    → IsDrawn side new (picture_of side old)
put_apart _ _ _ _ _ word sizes of puts k place h within = search (rules, apart)

-- the mark is set, where it was not
abbrev pub with_mark : ℕ → Mark → Picture → Picture
with_mark k mark picture =
    picture_with_word k (place_of_mark mark) (marked_word mark (picture k (place_of_mark mark)))
    picture

pub mark_drawn : (side : Side) (old new : Device) (k : ℕ) (mark : Mark) (picture : Picture)
    → IsFormed old → new.size ≡ old.size → k < old.size.pages → IsDrawn side old picture
    → SetsMark (first_page old.size side + k) mark old new
    → IsDrawn side new (with_mark k mark picture)
mark_drawn side old new k mark picture formed sizes h drawn sets =
    search (rules, put_drawn, place_below)

-- a word that is written already stays
pub marked-written : (mark : Mark) (word : Word) → is_written word ≡ true
    → marked_word mark word ≡ word
marked-written _ Erased e = absurd (cc e)
marked-written _ (Held _) e = refl
marked-written _ Torn e = refl

pub marked-erased : (mark : Mark) (word : Word) → is_written word ≡ false
    → marked_word mark word ≡ Held (number_of_mark mark)
marked-erased _ Erased e = refl
marked-erased _ (Held _) e = absurd (cc e)
marked-erased _ Torn e = absurd (cc e)

-- a program puts its word
pub program_puts : (page at value : ℕ) (old : Device) → IsFormed old → page < page_count old.size
    → at < old.size.words
    → PutsWord page at (Held value) old (with_word_programmed page at value old)
program_puts page at value old formed h inside = search rules

-- said of another spelling of the place and the number
pub put_there : (page at value : ℕ) (old new : Device) (p k n : ℕ) → IsFormed old
    → p < page_count old.size → k < old.size.words → page ≡ p → at ≡ k → value ≡ n
    → new ≡ with_word_programmed page at value old → PutsWord p k (Held n) old new
put_there _ _ _ _ _ p k n formed h inside page_is at_is value_is done = search (rules, program_puts)

pub same_size_of : (page at value : ℕ) (old new : Device)
    → new ≡ with_word_programmed page at value old → new.size ≡ old.size
same_size_of _ _ _ _ _ done = ap (λ device. device.size) done

-- and marking sets its mark
pub sets_mark : (page : ℕ) (mark : Mark) (old new : Device) → IsFormed old
    → page < page_count old.size → (is_marked old page mark ≡ true → new ≡ old)
    → (is_marked old page mark ≡ false → new ≡ device_after (marking page mark) old)
    → SetsMark page mark old new
sets_mark page mark old _ formed h present done =
    search (rules, marked-written, program_puts, place_below, marked-erased)

-- at another spelling of the page
pub sets_mark_at : (page p : ℕ) (mark : Mark) (old new : Device) → IsFormed old
    → p < page_count old.size → page ≡ p → (is_marked old page mark ≡ true → new ≡ old)
    → (is_marked old page mark ≡ false → new ≡ device_after (marking page mark) old)
    → SetsMark p mark old new
sets_mark_at page p mark old new formed h is present done = search (rules, sets_mark)

-- the valid marks of the pages before this one
abbrev pub valid_to : ℕ → Picture → Picture
valid_to last picture page at =
    if (at == 2) && nat_lt page last then marked_word Valid (picture page at) else picture page at

pub valid_none : (picture : Picture) (page at : ℕ) → picture page at ≡ valid_to 0 picture page at
valid_none _ page at = search rules

-- one page more
pub valid_more : (k : ℕ) (picture : Picture) (page at : ℕ)
    → with_mark k Valid (valid_to k picture) page at ≡ valid_to (k + 1) picture page at
valid_more k picture page at = search (rules, with_word-elsewhere, with_word-there)

-- with the mark of the page in use, all marks up to it are set
pub active_last : (k : ℕ) (picture : Picture) (page at : ℕ)
    → with_mark k Active (valid_to k picture) page at ≡ marked_to k picture page at
active_last k picture page at = search (rules, with_word-elsewhere, with_word-there)

-- where those marks are written, the set is drawn with them
pub valid_drawn : (side : Side) (device : Device) (k : ℕ)
    → ((page : ℕ) → page < k → is_marked device (first_page device.size side + page) Valid ≡ true)
    → IsDrawn side device (valid_to k (picture_of side device))
valid_drawn side device k written page at h _ = search (rules, marked-written)

pub marks_drawn : (side : Side) (device : Device) (k : ℕ)
    → ((page : ℕ) → page < k → is_marked device (first_page device.size side + page) Valid ≡ true)
    → is_marked device (first_page device.size side + k) Active ≡ true
    → IsDrawn side device (marked_to k (picture_of side device))
marks_drawn side device k written active page at h within =
    search (rules, valid_drawn, marked-written)

-- one page more may be erased, or is blank
pub retired_more : (k : ℕ) (waits : ℕ → Bool) (picture : Picture) (page at : ℕ) → waits k ≡ true
    → with_mark k Erasing (retired_pages (λ p. nat_lt p k && waits p) picture) page at
    ≡ retired_pages (λ p. nat_lt p (k + 1) && waits p) picture page at
retired_more k waits picture page at waiting = search (rules, with_word-elsewhere, with_word-there)

pub retired_past : (k : ℕ) (waits : ℕ → Bool) (picture : Picture) (page at : ℕ) → waits k ≡ false
    → retired_pages (λ p. nat_lt p k && waits p) picture page at
    ≡ retired_pages (λ p. nat_lt p (k + 1) && waits p) picture page at
retired_past k waits _ page _ passed = search rules

pub retired_none : (waits : ℕ → Bool) (picture : Picture) (page at : ℕ)
    → picture page at ≡ retired_pages (λ p. nat_lt p 0 && waits p) picture page at
retired_none _ _ page at = search rules

pub retired_all : (last : ℕ) (waits : ℕ → Bool) (picture : Picture) (page at : ℕ) → page < last
    → retired_pages (λ p. nat_lt p last && waits p) picture page at
    ≡ retired_pages waits picture page at
retired_all last _ _ page _ h = rw (lt-ltb page last h) refl
