-- What answering a whole script gives.
use Rattle.std.specs.Prelude.{◌≡◌, ℕ, List}
use Rattle.ee_interface.specs.declared.script.command.Command.{Command}
use Rattle.ee_interface.specs.declared.script.answer.Answer.{Answer}
use Rattle.ee_interface.specs.declared.script.session.ScriptFault.{ScriptFault}
use Rattle.ee_interface.specs.declared.script.session.ScriptFault.TheVariants.{BadLine, Memory}
use Rattle.ee_interface.specs.Script.Script.{IsScript, IsFirstBadCommandLine}
use Rattle.ee_interface.specs.Script.Answer.{report}
use Rattle.ee_interface.specs.Script.Run.{Run}

-- The text is a script, and the report has the answers that what takes these steps gave to its
-- commands, from old to new.
pub record IsAnswered {S : Type 0} (step : S → Command → Answer → S → Type 0) (old : S)
    (text : List ℕ) (new : S) (reported : List ℕ) : Type 0 where
  pub commands : List Command
  pub answers : List Answer
  pub is_script : IsScript text commands
  pub run : Run step old commands answers new
  pub report_is : reported ≡ report answers

-- why the text isn't answered: its first bad line, or want of memory
abbrev pub IsScriptFault : List ℕ → ScriptFault → Type 0
IsScriptFault text (BadLine n) = IsFirstBadCommandLine text n
IsScriptFault text Memory = Unit {0}
