-- What a session has done so far, and what a piece of the script adds to it.
use Rattle.std.specs.Prelude.{◌≡◌, ◌≢◌, ℕ, ◌+◌, ◌^◌, ◌-◌, min, ◌≤◌, List, [], ◌∷◌, ◌++◌, length}
use Rattle.ee_text.specs.Line.{IsLine}
use Rattle.ee_interface.specs.declared.script.command.Command.{Command}
use Rattle.ee_interface.specs.declared.script.answer.Answer.{Answer}
use Rattle.ee_interface.specs.Script.Script.{script, AreCommands, NoLine}
use Rattle.ee_interface.specs.Script.Answer.{report}
use Rattle.ee_interface.specs.Script.Run.{Run}

-- a session between two pieces: what serves it, the report, how many lines were judged (no further
-- than a u64 counts), and the line that no line feed ended yet
pub record Progress (S : Type 0) : Type 0 where
  pub server : S
  pub report : List ℕ
  pub lines : ℕ
  pub unfinished : List ℕ

-- a count that stops at the greatest u64
abbrev pub saturating_count : ℕ → ℕ
saturating_count n = min n (2 ^ 64 - 1)

-- less than a line: no line feed, and no more bytes than the longest good line has before it
pub record IsUnfinished (text : List ℕ) : Type 0 where
  pub one_line : IsLine text
  pub short : length text ≤ 24

-- The piece was judged: with what was unfinished before, it is the lines of some commands and what
-- is unfinished now; the report grew by the answers to them, which what serves may give.
pub record Goes {S : Type 0} (step : S → Command → Answer → S → Type 0) (old : Progress S)
    (piece : List ℕ) (new : Progress S) : Type 0 where
  pub commands : List Command
  pub answers : List Answer
  pub proper : AreCommands commands
  pub text_is : old.unfinished ++ piece ≡ script commands ++ new.unfinished
  pub report_is : new.report ≡ old.report ++ report answers
  pub run : Run step old.server commands answers new.server
  pub lines_are : saturating_count new.lines ≡ saturating_count (old.lines + length commands)

-- The command of a line was answered; the report grew by the answer, and what is unfinished stays.
pub record Answered {S : Type 0} (step : S → Command → Answer → S → Type 0) (old : Progress S)
    (command : Command) (new : Progress S) : Type 0 where
  pub answer : Answer
  pub stepped : step old.server command answer new.server
  pub report_is : new.report ≡ old.report ++ report (answer ∷ [])
  pub lines_are : new.lines ≡ saturating_count (old.lines + 1)
  pub unfinished_is : new.unfinished ≡ old.unfinished

-- A bad line was met in the piece, and n is its number: whatever follows the piece, no
-- good line stands there.
pub record MeetsBadLine {S : Type 0} (old : Progress S) (piece : List ℕ) (n : ℕ) : Type 0 where
  pub good : List Command
  pub rest : List ℕ
  pub proper : AreCommands good
  pub text_is : old.unfinished ++ piece ≡ script good ++ rest
  pub goes_on : rest ≢ []
  pub bad : (more : List ℕ) → NoLine (rest ++ more)
  pub number : n ≡ saturating_count (old.lines + length good + 1)

-- The script ended behind a line feed: this served it, and this is the report.
pub record EndsScript {S : Type 0} (old : Progress S) (server : S) (reported : List ℕ)
    : Type 0 where
  pub nothing_left : old.unfinished ≡ []
  pub server_is : server ≡ old.server
  pub report_is : reported ≡ old.report
