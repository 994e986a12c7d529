-- What a cut leaves, word for word, of a call that would leave a picture.
use Rattle.std.specs.Prelude.{◌≡◌, ◌≢◌, ◌<◌, ◌≤◌, ◌⊎◌, ℕ, ◌+◌, ◌-◌, true, Result, OnErr, OnOk, List, ◌++◌, length}
use Rattle.ee_flash.specs.Device.{Device, page_at, word_at}
use Rattle.ee_flash.specs.Step.{IsPartlyErased}
use Rattle.ee_flash.specs.declared.word.Word.{Word}
use Rattle.ee_flash.specs.declared.word.Word.TheVariants.{Torn}
use Rattle.ee_pages.specs.Page.{is_blank, is_marked, place_of_mark}
use Rattle.ee_pages.specs.declared.side.Side.{Side}
use Rattle.ee_pages.specs.declared.state.Mark.{Mark}
use Rattle.ee_pages.specs.Sets.{other, page_of_slot}
use Rattle.ee_core.specs.CallSteps.{Holds, IsSameBut, KeepsMarks, SetsMark, Stays, opened_set}
use Rattle.ee_core.specs.Picture.{IsDrawn, Picture, blank_picture, filled_set, is_used, marked_word, picture_of, retired_pages}
use Rattle.ee_core.specs.State.{Wears, WearsTo, not_blank_from, not_blank_in}

-- A word, when power was cut in a call that programs words: it is as before, or as the whole call
-- leaves it, or torn, where the whole call would have changed it.
abbrev pub IsPartlyDone : Word → Word → Word → Type 0
IsPartlyDone old whole new = (new ≡ old) ⊎ (new ≡ whole) ⊎ ((new ≡ Torn) × (whole ≢ old))

-- So is each word of the set, which was drawn as the first picture and would be
-- drawn as the second.
abbrev pub IsDrawnPartly : Side → Device → Picture → Picture → Type 0
IsDrawnPartly side device old whole =
    (page at : ℕ) → page < device.size.pages → at < device.size.words
    → IsPartlyDone (old page at) (whole page at) (picture_of side device page at)

-- Power was cut in erasing pages by rising number: those of these that are not blank, where the
-- first has this number. It was cut at one of them, which has worn, as those of them before it
-- have, and no other has. The pages before it are blank; in it each word is as before, erased or
-- torn; and each other page is as before.
pub record ErasesPartly (first : ℕ) (pages : List (List Word)) (old new : Device) : Type 0 where
  pub page : ℕ
  pub wear : WearsTo page (not_blank_from first pages) old new
  pub before : (lower : ℕ) → first ≤ lower → lower < page → is_blank (page_at new lower) ≡ true
  pub here : IsPartlyErased (page_at old page) (page_at new page)
  pub others : (other : ℕ) → (other < first) ⊎ (page < other)
      → page_at new other ≡ page_at old other

-- Power was cut in a transfer, behind its erases: each page of the other set that was not blank has
-- worn, and no other page; in that set each word is erased, as the whole transfer leaves it, or
-- torn; in the set that was live each mark that its page may be erased, if that isn't blank, is as
-- before, set or torn, and each other word is as before.
pub record MovesPartly (old new : Device) (side : Side) (generation : ℕ) (words : List Word)
    : Type 0 where
  pub wear : Wears (not_blank_in (other side) old) old new
  pub new_pages : IsDrawnPartly (other side) new blank_picture
      (filled_set old.size (generation + 1) words)
  pub old_pages : IsDrawnPartly side new (picture_of side old)
      (retired_pages (is_used side old) (picture_of side old))

-- ---- the parts of a call

-- in a transfer, before a mark of the set that was live
pub record MovesMapPartly (old new : Device) (side : Side) (generation : ℕ) (words : List Word)
    : Type 0 where
  pub wear : Wears (not_blank_in (other side) old) old new
  pub new_pages : IsDrawnPartly (other side) new blank_picture
      (filled_set old.size (generation + 1) words)
  pub live_pages : IsDrawn side new (picture_of side old)

-- power was cut in programming this word, and each other word is as before
pub record PutsPartly (page at : ℕ) (word : Word) (old new : Device) : Type 0 where
  pub there : IsPartlyDone (word_at old page at) word (word_at new page at)
  pub elsewhere : (other_page place : ℕ) → (other_page ≢ page) ⊎ (place ≢ at)
      → word_at new other_page place ≡ word_at old other_page place

-- a set that is filled with these words: each of its words is erased, as in the set
-- that is filled, or torn
abbrev pub FillsPartly : Device → Side → ℕ → List Word → Type 0
FillsPartly device side generation words =
    IsDrawnPartly side device blank_picture
    (opened_set device.size generation (page_of_slot device.size (length words - 1)) words)

-- power was cut in adding words to the other set, which held so many
pub record AddsPartly (old new : Device) (side : Side) (generation count : ℕ) (more : List Word)
    : Type 0 where
  pub new_pages : (words : List Word) → length words ≡ count
      → Holds old (other side) generation words
      → FillsPartly new (other side) generation (words ++ more)

-- in setting a mark
abbrev pub SetsPartly : ℕ → Mark → Device → Device → Type 0
SetsPartly page mark old new =
    PutsPartly page (place_of_mark mark) (marked_word mark (word_at old page (place_of_mark mark)))
    old new

-- Setting a mark of this page ends so: beside the live set no page is changed but this one, and no
-- mark is lost. It is set, or power was cut, and it wasn't set before.
pub record MarksOnePage {T E : Type 0} (result : Result T E) (old new : Device) (side : Side)
    (generation page : ℕ) (mark : Mark) : Type 0 where
  pub stays : Stays old new side generation
  pub others : IsSameBut page old new
  pub marks : KeepsMarks old new
  pub marked : OnOk result (is_marked new page mark ≡ true)
  pub sets : OnOk result (SetsMark page mark old new)
  pub begun : OnErr result (SetsPartly page mark old new)
  pub fails : OnErr result (¬ (is_marked old page mark ≡ true))
