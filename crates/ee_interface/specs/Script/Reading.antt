-- What comes of a script that a reader gives. What the reader has left to give is seen before and
-- after, where it is known.
use Rattle.std.specs.Prelude.{◌≡◌, ◌⊎◌, ◌<◌, ◌^◌, ℕ, Option, List, ◌++◌, length}
use Rattle.std.specs.Io.KnownBytes.{Consumes, IsAtEnd}
use Rattle.ee_interface.specs.declared.script.command.Command.{Command}
use Rattle.ee_interface.specs.declared.script.answer.Answer.{Answer}
use Rattle.ee_interface.specs.declared.script.session.ScriptFault.TheVariants.{BadLine, Memory}
use Rattle.ee_interface.specs.declared.script.session.StreamFault.{StreamFault}
use Rattle.ee_interface.specs.declared.script.session.StreamFault.TheVariants.{Read, Script}
use Rattle.ee_interface.specs.Script.Script.{AreCommands, IsFirstBadCommandLine, script}
use Rattle.ee_interface.specs.Script.Session.{Goes, IsUnfinished, Progress}
use Rattle.ee_interface.specs.Script.Fault.{IsFault}
use Rattle.ee_interface.specs.Script.Whole.{IsAnswered}

-- ---- a session

-- the reader gave this text, whose bytes a u64 counts, and it was judged
pub record TakesText {S : Type 0} (step : S → Command → Answer → S → Type 0) (old : Progress S)
    (before after : Option (List ℕ)) (new : Progress S) : Type 0 where
  pub text : List ℕ
  pub given : Consumes before after text
  pub countable : length text < 2 ^ 64
  pub went : Goes step old text new

-- Why it is not fed to the end. A read failed, or there were too many: all that was given before
-- was judged, and what no line feed ended yet is less than a line. Or what was given has a fault.
abbrev pub StopsReading : {S : Type 0} → (S → Command → Answer → S → Type 0) → Progress S
    → Option (List ℕ) → Option (List ℕ) → StreamFault → Type 0
StopsReading {S} step old before after Read =
    (held : Progress S) × TakesText step old before after held × IsUnfinished held.unfinished
StopsReading step old before after (Script fault) =
    (text : List ℕ) × Consumes before after text × (length text < 2 ^ 64) × IsFault old text fault

-- ---- a whole script

-- The reader gave a script and had no more, and the report has the answers to it.
pub record IsStreamAnswered {S : Type 0} (step : S → Command → Answer → S → Type 0) (old : S)
    (before after : Option (List ℕ)) (new : S) (reported : List ℕ) : Type 0 where
  pub text : List ℕ
  pub given : Consumes before after text
  pub ended : IsAtEnd after
  pub answered : IsAnswered step old text new reported

-- each line that the text ends is good, and what follows the last of them is less than a line
pub record IsGoodSoFar (text : List ℕ) : Type 0 where
  pub commands : List Command
  pub unfinished : List ℕ
  pub proper : AreCommands commands
  pub text_is : text ≡ script commands ++ unfinished
  pub short : IsUnfinished unfinished

-- line n is the first bad one, whatever follows
abbrev pub IsBadAlready : List ℕ → ℕ → Type 0
IsBadAlready text n = (more : List ℕ) → IsFirstBadCommandLine (text ++ more) n

-- What was met first, behind a text that the reader gave: a read that failed, with no bad line
-- judged before it; a line that is bad whatever follows; a bad line at the end; or memory ran out.
abbrev pub IsMet : Option (List ℕ) → List ℕ → StreamFault → Type 0
IsMet after text Read = IsGoodSoFar text
IsMet after text (Script (BadLine n)) =
    IsBadAlready text n ⊎ (IsAtEnd after × IsFirstBadCommandLine text n)
IsMet after text (Script Memory) = Unit {0}

-- why what a reader gives isn't answered to its end
pub record IsStreamFault (before after : Option (List ℕ)) (fault : StreamFault) : Type 0 where
  pub text : List ℕ
  pub given : Consumes before after text
  pub met : IsMet after text fault
