-- What a page says of itself.
use Rattle.std.specs.Prelude.{ℕ, Bool, true, false, not, if◌then◌else◌, List, slice_index_or}
use Rattle.std.specs.List.{list_any}
use Rattle.ee_flash.specs.Device.{Device, word_at}
use Rattle.ee_flash.specs.Step.{Step, Program}
use Rattle.ee_flash.specs.declared.word.Word.{Word}
use Rattle.ee_flash.specs.declared.word.Word.TheVariants.{Erased, Torn}
use Rattle.ee_codec.specs.Words.{mark_number, receive}
use Rattle.ee_pages.specs.declared.state.Mark.{Mark}
use Rattle.ee_pages.specs.declared.state.Mark.TheVariants as marks
use Rattle.ee_pages.specs.declared.state.State.{State}
use Rattle.ee_pages.specs.declared.state.State.TheVariants as states

-- something was programmed into the word, whole or torn
abbrev pub is_written : Word → Bool
is_written Erased = false
is_written word = true

-- a program of the word, or an erase of its page, was cut
abbrev pub is_torn : Word → Bool
is_torn Torn = true
is_torn word = false

-- the word at a place of a page, erased past the end
abbrev pub word_in : List Word → ℕ → Word
word_in words at = slice_index_or words at Erased

-- nothing was programmed into the page since it was erased as a whole
abbrev pub is_blank : List Word → Bool
is_blank words = not (list_any is_written words)

-- a page's state is named by the last word of its header that is written
abbrev pub state_of_words : List Word → State
state_of_words words =
    if is_written (word_in words 3) then states.Erasing
    else (if is_written (word_in words 2) then states.Valid
    else (if is_written (word_in words 1) then states.Active
    else (if is_written (word_in words 0) then states.Receive else states.Erased)))

-- the place of a mark in its page's header
abbrev pub place_of_mark : Mark → ℕ
place_of_mark (marks.Receive generation) = 0
place_of_mark marks.Active = 1
place_of_mark marks.Valid = 2
place_of_mark marks.Erasing = 3

-- the number that a mark is spelled by
abbrev pub number_of_mark : Mark → ℕ
number_of_mark (marks.Receive generation) = receive generation
number_of_mark mark = mark_number

-- the step that programs a mark
abbrev pub marking : ℕ → Mark → Step
marking page mark = Program page (place_of_mark mark) (number_of_mark mark)

-- the word of the mark is written already, whole or torn
abbrev pub is_marked : Device → ℕ → Mark → Bool
is_marked device page mark = is_written (word_at device page (place_of_mark mark))
