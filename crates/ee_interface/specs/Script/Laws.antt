-- What holds of every text: it is read in one way.
use Rattle.std.specs.Prelude.{◌≡◌, ◌⊎◌, ℕ, List}
use Rattle.ee_interface.specs.declared.script.command.Command.{Command}
use Rattle.ee_interface.specs.Script.Script.{IsScript, IsFirstBadCommandLine}

-- a text is the script of these commands and no others
abbrev pub OneScript : Type 0
OneScript =
    (text : List ℕ) (commands others : List Command)
    → IsScript text commands → IsScript text others → commands ≡ others

-- no other line is the first bad one
abbrev pub OneFirstBadLine : Type 0
OneFirstBadLine =
    (text : List ℕ) (m n : ℕ) → IsFirstBadCommandLine text m → IsFirstBadCommandLine text n → m ≡ n

-- a script has no bad line
abbrev pub ScriptsAreGood : Type 0
ScriptsAreGood =
    (text : List ℕ) (commands : List Command) (n : ℕ) → IsScript text commands
    → IsFirstBadCommandLine text n → ⊥

-- every text is a script of some commands, or has a first bad line
abbrev pub EachTextIsJudged : Type 0
EachTextIsJudged =
    (text : List ℕ)
    → ((commands : List Command) × IsScript text commands)
    ⊎ ((n : ℕ) × IsFirstBadCommandLine text n)
