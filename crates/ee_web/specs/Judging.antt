-- Which words a rescue finds bad: each word of the set that is rescued has a flag.
use Rattle.std.specs.Prelude.{◌≡◌, ◌<◌, ◌⊎◌, ℕ, ◌*◌, ◌/◌, ◌%◌, if◌then◌else◌, Option, Some, None, List, length, get_or}
use Rattle.ee_flash.specs.Device.{Device}
use Rattle.ee_flash.specs.Size.{Size}
use Rattle.ee_pages.specs.Rescue.{bad_words, is_bad, rescued_side}
use Rattle.ee_pages.specs.Sets.{set_of}
use Rattle.ee_pages.specs.declared.side.Side.{Side}
use Rattle.ee_pages.specs.declared.side.Side.TheVariants.{First, Second}
use Rattle.ee_web.specs.Answers.{status_of}
use Rattle.ee_web.specs.Mirror.{MirrorFits, Mirror, device_in}
use Rattle.ee_web.specs.declared.answer.Answer.{Answer}
use Rattle.ee_web.specs.declared.answer.Answer.TheVariants.{Done, NothingBegun, WrongShape}
use Rattle.ee_web.specs.declared.judging.JudgedResult.{JudgedResult}

-- the number of a set
abbrev pub number_of_side : Side → ℕ
number_of_side First = 0
number_of_side Second = 1

-- 1 where the word in this place of the set is bad, else 0
abbrev pub bad_flag : Device → Side → ℕ → ℕ
bad_flag device side place =
    if is_bad device.size (set_of side device) (place / device.size.words)
    (place % device.size.words) then 1 else 0

-- so many words has a set
abbrev pub set_words : Size → ℕ
set_words size = size.pages * size.words

-- each word of the set has its flag, page after page
pub record AreFlagged (device : Device) (side : Side) (flags : List ℕ) : Type 0 where
  pub as_many : length flags ≡ set_words device.size
  pub flags_are : (place : ℕ) → place < length flags
      → get_or flags place 0 ≡ bad_flag device side place

-- what the caller is told
abbrev pub judged_result : Answer → ℕ → ℕ → JudgedResult
judged_result answer set bad = record { status = status_of answer; set = set; bad = bad }

-- the words of the set that is rescued are judged, or no set is begun
abbrev pub JudgesSet : Device → Option Side → JudgedResult → List ℕ → List ℕ → Type 0
JudgesSet device None result old new = (result ≡ judged_result NothingBegun 0 0) × (new ≡ old)
JudgesSet device (Some side) result old new =
    (result ≡ judged_result Done (number_of_side side) (bad_words device))
    × AreFlagged device side new

abbrev pub JudgesWords : Device → JudgedResult → List ℕ → List ℕ → Type 0
JudgesWords device result old new = JudgesSet device (rescued_side device) result old new

-- What the export says: the mirror has another shape or there are not as many flags as a set has
-- words, and no flag is written; or it is what the judgement finds.
abbrev pub Judges : Size → JudgedResult → Mirror → List ℕ → List ℕ → Type 0
Judges size result mirror old new =
    ((result ≡ judged_result WrongShape 0 0)
    × ¬ (MirrorFits size mirror × (length old ≡ set_words size)) × (new ≡ old))
    ⊎ (MirrorFits size mirror × (length old ≡ set_words size)
    × JudgesWords (device_in size mirror) result old new)
