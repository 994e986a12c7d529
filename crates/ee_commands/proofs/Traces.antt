-- The trace of a script, line by line.
use Rattle.std.specs.List.{AllByRecursion}
use Rattle.std.proofs.Common.{◌≡◌, ◌≢◌, ℕ, ◌+◌, ◌<◌, ◌≤◌, List, [], ◌∷◌, ◌++◌, length, length-append, refl, sym, ap, arith, true, false, ◌==◌, rules}
use Rattle.std.proofs.lemmas.Grind.{common_steps}
use Rattle.std.proofs.lemmas.List.{append-nil}
use Rattle.ee_check.specs.declared.change.Change.{Change}
use Rattle.ee_check.specs.declared.change.Change.TheVariants as change
use Rattle.ee_text.specs.Line.{line_of}
use Rattle.ee_interface.specs.declared.script.command.Command.{Command}
use Rattle.ee_interface.specs.declared.script.command.Command.TheVariants.{Write, Read, Forget, Clean, Arm, PowerOn}
use Rattle.ee_interface.specs.Script.Command.{command_text}
use Rattle.ee_interface.specs.Script.Script.{IsFirstBadLineOf, NoLineOf, script}
use Rattle.ee_interface.proofs.ScriptLemmas.Public.{no_bad_line, one_bad_line}
use Rattle.ee_commands.specs.Planning.{IsTrace, IsTraceCommand}
use Rattle.ee_image_store.specs.Trace.{trace_of}

-- The lines of some commands were read off the text, and so much is left; their writes
-- are the trace so far.
pub record HasRead (text rest : List ℕ) (trace : List Change) (lines : ℕ) : Type 0 where
  pub commands : List Command
  pub proper : AllByRecursion IsTraceCommand commands
  pub text_is : text ≡ script commands ++ rest
  pub trace_is : trace ≡ trace_of commands
  pub lines_are : lines ≡ length commands

pub nothing_read : (text : List ℕ) (trace : List Change) → trace ≡ [] → HasRead text text trace 0
nothing_read text trace empty =
    record { commands = []; proper = tt; text_is = refl; trace_is = empty; lines_are = refl }

trace_of-append : (commands more : List Command)
    → trace_of (commands ++ more) ≡ trace_of commands ++ trace_of more
trace_of-append [] more = refl
trace_of-append (Write address value ∷ commands) more =
    ap (λ l. change.Write address ∷ l) (trace_of-append commands more)
trace_of-append (Forget address ∷ commands) more =
    ap (λ l. change.Forget address ∷ l) (trace_of-append commands more)
trace_of-append (Read address ∷ commands) more = trace_of-append commands more
trace_of-append (Clean ∷ commands) more = trace_of-append commands more
trace_of-append (Arm fuse ∷ commands) more = trace_of-append commands more
trace_of-append (PowerOn ∷ commands) more = trace_of-append commands more

script_append : (commands : List Command) (command : Command) (rest : List ℕ)
    → script commands ++ (line_of (command_text command) ++ rest)
    ≡ script (commands ++ command ∷ []) ++ rest
script_append [] command rest =
    ap (λ l. l ++ rest) (sym (append-nil (line_of (command_text command))))
script_append (first ∷ commands) command rest =
    grind (arith, common_steps, (script_append commands command rest))

proper_append : (commands : List Command) (command : Command)
    → AllByRecursion IsTraceCommand commands → IsTraceCommand command
    → AllByRecursion IsTraceCommand (commands ++ command ∷ [])
proper_append [] command proper one = (one, tt)
proper_append (first ∷ commands) command proper one =
    (proper.0, proper_append commands command proper.1 one)

-- one line more is read
pub one_line_more : (text rest more : List ℕ) (old new : List Change) (lines number : ℕ)
    (command : Command)
    → HasRead text rest old lines → number ≡ lines + 1
    → IsTraceCommand command × (rest ≡ line_of (command_text command) ++ more)
    → new ≡ old ++ trace_of (command ∷ []) → HasRead text more new number
one_line_more text rest more old new lines number command read counted found pushed =
    search (rules, length-append, proper_append, script_append, trace_of-append)

-- a line has its line feed at least
pub line_is_longer : (rest more : List ℕ) (command : Command)
    → rest ≡ line_of (command_text command) ++ more → length more + 1 ≤ length rest
line_is_longer rest more command e =
    omega (
      arith,
      ap length e,
      length-append (line_of (command_text command)) more,
      length-append (command_text command) (10 ∷ []),
    )

pub bad_line : (text rest : List ℕ) (trace : List Change) (lines number : ℕ)
    → HasRead text rest trace lines → number ≡ lines + 1 → rest ≢ [] → NoLineOf IsTraceCommand rest
    → IsFirstBadLineOf IsTraceCommand text number
bad_line text rest trace lines number read counted goes_on bad = search (rules, goes_on)

pub all_read : (text rest : List ℕ) (trace : List Change) (lines : ℕ)
    → HasRead text rest trace lines → rest ≡ [] → IsTrace text trace
all_read text rest trace lines read empty = search (rules, append-nil)

-- ---- one first bad line

pub one_first_bad_line : (text : List ℕ) (m n : ℕ) → IsFirstBadLineOf IsTraceCommand text m
    → IsFirstBadLineOf IsTraceCommand text n → m ≡ n
one_first_bad_line = one_bad_line IsTraceCommand (λ command is. is.0)

-- a trace's script has none
pub traces_are_good : (text : List ℕ) (trace : List Change) (n : ℕ) → IsTrace text trace
    → IsFirstBadLineOf IsTraceCommand text n → ⊥
traces_are_good text trace n is =
    no_bad_line IsTraceCommand (λ command good. good.0) text is.commands n is.proper is.text_is

-- ---- how much is left

-- what is left, as its length tells
pub goes_on : (rest : List ℕ) → false ≡ (length rest == 0) → rest ≢ []
goes_on rest h1 = search rules

pub some_left : (rest : List ℕ) → false ≡ (length rest == 0) → 0 < length rest
some_left rest h1 = search rules

is_zero : (n : ℕ) → true ≡ (n == 0) → n ≡ 0
is_zero n e = grind (arith, common_steps)

pub nothing_left : (rest : List ℕ) → true ≡ (length rest == 0) → rest ≡ []
nothing_left [] e = refl
nothing_left (byte ∷ rest) e = absurd (let none = is_zero (length (byte ∷ rest)) e in omega arith)
