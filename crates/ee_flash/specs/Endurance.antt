-- How long a flash device lasts, whoever takes its steps: a program needs an erased word, and only
-- erases give back such words. Each law is proved by the function of its name.
use Rattle.std.specs.Prelude.{◌<◌, ◌≤◌, ℕ, ◌+◌, ◌*◌, ◌-◌, ◌/◌, ◌==◌, Bool, true, false, List, [], ◌∷◌}
use Rattle.std.specs.List.{count_by, sum_by}
use Rattle.ee_flash.specs.Size.{Size, page_count}
use Rattle.ee_flash.specs.Device.{Device, IsFormed, IsOn}
use Rattle.ee_flash.specs.Step.{Step, Program, Erase, device_after}
use Rattle.ee_flash.specs.Laws.{CanTake}
use Rattle.ee_flash.specs.declared.word.Word.{Word}
use Rattle.ee_flash.specs.declared.word.Word.TheVariants.{Erased, Held, Torn}

-- ---- steps

-- each step can be taken when it comes, and is taken whole
abbrev pub CanTakeAll : List Step → Device → Type 0
CanTakeAll [] device = Unit {0}
CanTakeAll (step ∷ steps) device = CanTake step device × CanTakeAll steps (device_after step device)

-- a device that is on takes these steps, one after another
pub record AreTaken (steps : List Step) (device : Device) : Type 0 where
  pub formed : IsFormed device
  pub on : IsOn device
  pub can : CanTakeAll steps device

abbrev pub is_program : Step → Bool
is_program (Program page at value) = true
is_program (Erase page) = false

-- how many of the steps program a word
abbrev pub programs : List Step → ℕ
programs steps = count_by is_program steps

abbrev pub is_erase : Step → Bool
is_erase (Program page at value) = false
is_erase (Erase page) = true

-- how many of them erase a page
abbrev pub erases : List Step → ℕ
erases steps = count_by is_erase steps

abbrev pub is_erase_of : ℕ → Step → Bool
is_erase_of page (Program other at value) = false
is_erase_of page (Erase other) = other == page

-- how many of them erase this page
abbrev pub erases_of : ℕ → List Step → ℕ
erases_of page steps = count_by (is_erase_of page) steps

-- ---- words

abbrev pub is_erased : Word → Bool
is_erased Erased = true
is_erased (Held value) = false
is_erased Torn = false

-- how many words of a device are erased
abbrev pub erased_words : Device → ℕ
erased_words device = sum_by (λ page. count_by is_erased page) device.image

-- all words of a device of this size
abbrev pub word_count : Size → ℕ
word_count size = page_count size * size.words

-- ---- laws

-- No more words are programmed than were erased at the start, and the words of a
-- page for each erase.
abbrev pub ProgramsNeedErases : Type 0
ProgramsNeedErases =
    (steps : List Step) (device : Device) → AreTaken steps device
    → programs steps ≤ erased_words device + device.size.words * erases steps

-- So many erases of the most worn page no way of programming so many words comes without: the words
-- of the whole device can be programmed once before any, and once more for each. It is ⌈programs /
-- words of the device⌉ - 1, and 0 for no program.
abbrev pub least_wear : Size → ℕ → ℕ
least_wear size programs = (programs - 1) / word_count size

-- Where a word at the least is programmed for each of so many changes, some page is erased so
-- often.
abbrev pub SomePageWears : Type 0
SomePageWears =
    (changes : ℕ) (steps : List Step) (device : Device) → AreTaken steps device
    → changes ≤ programs steps
    → (page : ℕ) × (page < page_count device.size)
    × (least_wear device.size changes ≤ erases_of page steps)
