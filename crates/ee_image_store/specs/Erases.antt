-- How much erasing a store has done and still has to do.
use Rattle.std.specs.Prelude.{◌≡◌, ◌+◌, ℕ, List}
use Rattle.std.specs.List.{sum_by}
use Rattle.ee_flash.specs.Device.{Device}
use Rattle.ee_flash.specs.Size.{Size}
use Rattle.ee_core.specs.State.{WearRises, state_of}
use Rattle.ee_interface.specs.declared.script.answer.Answer.{Answer}
use Rattle.ee_interface.specs.declared.script.answer.Answer.TheVariants.{Moved}

-- how many pages an answer leaves to be erased: those of a set for a move, and none for any other
abbrev pub erases_left_by : Size → Answer → ℕ
erases_left_by size Moved = size.pages
erases_left_by size answer = 0

-- and how many all answers together do
abbrev pub erases_of_all : Size → List Answer → ℕ
erases_of_all size answers = sum_by (erases_left_by size) answers

-- So many pages came to be erased, at once or later: those that were erased between, as the wear of
-- each page tells, and those that wait now are together as many more than those that waited before.
pub record ErasesRise (pages : ℕ) (old new : Device) : Type 0 where
  pub erased : ℕ
  pub wear : WearRises erased old new
  pub rise : erased + (state_of new).pending ≡ (state_of old).pending + pages
