-- Lists of steps: what they say, and what they leave when they are played in order.
use Rattle.std.specs.Prelude.{◌≡◌, ℕ, ◌==◌, ◌&&◌, if◌then◌else◌, List, map, take}
use Rattle.ee_flash.specs.Device.{all_ones}
use Rattle.ee_flash.specs.Step.{Step, Program, Erase}
use Rattle.ee_flash.specs.declared.word.Word.{Word}
use Rattle.ee_flash.specs.declared.word.Word.TheVariants.{Erased, Held}
use Rattle.ee_web.specs.declared.listing.ListedStep.{ListedStep}

-- the step that is listed so: an erase of the page where its place is all ones, and else a program
abbrev pub step_listed_so : ListedStep → Step
step_listed_so listed =
    if listed.place
    == all_ones then Erase listed.page else Program listed.page listed.place listed.value

-- an erase is listed with the value 0
abbrev pub IsZeroIfErase : ListedStep → Type 0
IsZeroIfErase listed = listed.place ≡ all_ones → listed.value ≡ 0

-- the first so many of the listed steps
unfoldable pub steps_of : ℕ → List ListedStep → List Step
steps_of count listed = map step_listed_so (take count listed)

-- what a step leaves of a word that was this one
abbrev pub left_by : Step → ℕ → ℕ → Word → Word
left_by (Program changed place value) page at word =
    if (changed == page) && (place == at) then Held value else word
left_by (Erase changed) page at word = if changed == page then Erased else word
