-- What a whole script gives, from what one piece and the end give.
use Rattle.std.proofs.Common.{◌≡◌, ◌≢◌, ℕ, ◌+◌, ◌<◌, ◌≤◌, ◌^◌, ◌⊎◌, ◌++◌, List, [], ◌∷◌, length, refl, sym, ◌∙◌, ap, subst, arith, inl, inr, rules}
use Rattle.std.proofs.lemmas.Grind.{common_steps}
use Rattle.std.proofs.lemmas.List.{append-nil}
use Rattle.ee_interface.specs.declared.script.command.Command.{Command}
use Rattle.ee_interface.specs.declared.script.answer.Answer.{Answer}
use Rattle.ee_interface.specs.declared.script.session.ScriptFault.{ScriptFault}
use Rattle.ee_interface.specs.declared.script.session.ScriptFault.TheVariants.{BadLine, Memory}
use Rattle.ee_interface.specs.Script.Script.{script, IsFirstBadCommandLine}
use Rattle.ee_interface.specs.Script.Run.{Run}
use Rattle.ee_interface.specs.Script.Session.{Progress, Goes, EndsScript, MeetsBadLine, saturating_count}
use Rattle.ee_interface.specs.Script.Fault.{IsFault, EndsBadly}
use Rattle.ee_interface.specs.Script.Whole.{IsAnswered, IsScriptFault}
use Rattle.ee_interface.specs.Script.Reading.{IsBadAlready}
use Rattle.ee_interface.proofs.ScriptLemmas.Reading.{one_first_bad_line_lem, scripts_are_good_lem}
use Rattle.ee_interface.proofs.ScriptLemmas.Steps.{no_front}

-- a session that nothing was fed to
abbrev pub started : {S : Type 0} → S → Progress S
started server = record { server = server; report = []; lines = 0; unfinished = [] }

-- a script has at least as many bytes as lines
length-script : (commands : List Command) → length commands ≤ length (script commands)
length-script [] = omega arith
length-script (command ∷ commands) = grind (arith, common_steps, (length-script commands))

some_left : (rest : List ℕ) → rest ≢ [] → 0 < length rest
some_left rest h1 = grind (arith, common_steps)

-- the lines of a text that a u64 measures can be counted in a u64
number_counts : (text rest : List ℕ) (good : List Command) (n : ℕ) → length text < 2 ^ 64
    → text ≡ script good ++ rest → rest ≢ [] → n ≡ saturating_count (length good + 1)
    → n ≡ length good + 1
number_counts text rest good n small text_is goes_on e =
    grind (arith, common_steps, length-script, some_left)

-- a bad line that a session met is the first bad one, whatever follows
pub bad_already : {S : Type 0} (server : S) (text : List ℕ) (n : ℕ) → length text < 2 ^ 64
    → MeetsBadLine (started server) text n → IsBadAlready text n
bad_already server text n small met = grind (arith, common_steps, no_front, number_counts)

pub fault_in_script : {S : Type 0} (server : S) (text : List ℕ) (fault : ScriptFault)
    → length text < 2 ^ 64 → IsFault (started server) text fault → IsScriptFault text fault
fault_in_script server text (BadLine n) small met =
    subst (λ l. IsFirstBadCommandLine l n) (append-nil text)
    (bad_already server text n small met [])
fault_in_script server text Memory small met = tt

pub fault_at_end : {S : Type 0} (step : S → Command → Answer → S → Type 0) (server : S)
    (text : List ℕ) (last : Progress S) (fault : ScriptFault)
    → length text < 2 ^ 64 → Goes step (started server) text last → EndsBadly last fault
    → IsScriptFault text fault
fault_at_end step server text last fault h1 h2 h3 = search (rules, number_counts)

-- a bad line is the one that is named
pub named : (text : List ℕ) (fault : ScriptFault) (n : ℕ) → IsFirstBadCommandLine text n
    → IsScriptFault text fault → (fault ≡ BadLine n) ⊎ (fault ≡ Memory)
named text (BadLine m) n bad is = inl (ap BadLine (one_first_bad_line_lem text m n is bad))
named text Memory n bad is = inr refl

-- and what is answered has none
pub none_passed : {S : Type 0} (step : S → Command → Answer → S → Type 0) (old new : S)
    (text reported : List ℕ) (n : ℕ)
    → IsFirstBadCommandLine text n → IsAnswered step old text new reported → ⊥
none_passed step old new text reported n bad answered =
    scripts_are_good_lem text answered.commands n answered.is_script bad

-- a session that ends behind a line feed has answered the whole
pub answered : {S : Type 0} (step : S → Command → Answer → S → Type 0) (server : S) (text : List ℕ)
    (last : Progress S) (new : S) (reported : List ℕ)
    → Goes step (started server) text last → EndsScript last new reported
    → IsAnswered step server text new reported
answered {S} step server text last new reported went ended = record {
  commands = went.commands;
  answers = went.answers;
  is_script = record {
    proper = went.proper;
    text_is =
        went.text_is ∙ ap (λ rest. script went.commands ++ rest) ended.nothing_left
        ∙ append-nil (script went.commands);
  };
  run = subst (λ (s : S). Run step server went.commands went.answers s) (sym ended.server_is)
      went.run;
  report_is = ended.report_is ∙ went.report_is;
}
