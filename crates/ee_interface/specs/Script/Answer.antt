-- The answers of a report, and how each is written on its line.
use Rattle.std.specs.Prelude.{◌≡◌, ◌++◌, ℕ, List, decimal, codes, flat_map}
use Rattle.ee_text.specs.Line.{line_of}
use Rattle.ee_interface.specs.declared.script.answer.Answer.{Answer}
use Rattle.ee_interface.specs.declared.script.answer.Answer.TheVariants.{Appended, Moved, Full, Spent, Cleaned, Idle, Value, NoValue, Absent, Armed, Cut, Off, Opened}

-- what its line says, without the line feed
abbrev pub wording : Answer → List ℕ
wording Appended = codes "ok"
wording Moved = codes "moved"
wording Full = codes "full"
wording Spent = codes "spent"
wording Cleaned = codes "clean"
wording Idle = codes "idle"
wording (Value value) = decimal value
wording NoValue = codes "none"
wording Absent = codes "absent"
wording Armed = codes "armed"
wording Cut = codes "cut"
wording Off = codes "off"
wording Opened = codes "open"

-- one line for each answer
abbrev pub report : List Answer → List ℕ
report answers = flat_map (λ answer. line_of (wording answer)) answers

-- what stood there, and behind it a front of the text, perhaps nothing of it
pub record GrowsByFront (old text new : List ℕ) : Type 0 where
  pub front : List ℕ
  pub back : List ℕ
  pub text_is : text ≡ front ++ back
  pub new_is : new ≡ old ++ front
