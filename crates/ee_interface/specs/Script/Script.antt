-- A script is the lines of its commands, and nothing else.
use Rattle.std.specs.Prelude.{◌≡◌, ◌≢◌, ℕ, ◌+◌, List, [], ◌++◌, length, flat_map}
use Rattle.std.specs.List.{AllByRecursion}
use Rattle.ee_interface.specs.declared.script.command.Command.{Command}
use Rattle.ee_text.specs.Line.{line_of}
use Rattle.ee_interface.specs.Script.Command.{IsCommand, command_text}

-- the text of a script with these commands: a line for each
abbrev pub script : List Command → List ℕ
script commands = flat_map (λ command. line_of (command_text command)) commands

abbrev pub AreCommands : List Command → Type 0
AreCommands commands = AllByRecursion IsCommand commands

-- the text is the script of these commands
pub record IsScript (text : List ℕ) (commands : List Command) : Type 0 where
  pub proper : AreCommands commands
  pub text_is : text ≡ script commands

-- the line of no good command stands at the front of the text
abbrev pub NoLineOf : (Command → Type 0) → List ℕ → Type 0
NoLineOf IsGood text =
    (command : Command) (more : List ℕ) → IsGood command
    → text ≢ line_of (command_text command) ++ more

-- Line n is the first bad one: the lines of good commands before it are one fewer, and after them
-- the text goes on, but not with such a line. A line that isn't ended by a line feed is bad too.
pub record IsFirstBadLineOf (IsGood : Command → Type 0) (text : List ℕ) (n : ℕ) : Type 0 where
  pub good : List Command
  pub rest : List ℕ
  pub proper : AllByRecursion IsGood good
  pub text_is : text ≡ script good ++ rest
  pub goes_on : rest ≢ []
  pub bad : NoLineOf IsGood rest
  pub number : n ≡ length good + 1

-- where each command is good
abbrev pub NoLine : List ℕ → Type 0
NoLine text = NoLineOf IsCommand text

abbrev pub IsFirstBadCommandLine : List ℕ → ℕ → Type 0
IsFirstBadCommandLine text n = IsFirstBadLineOf IsCommand text n
