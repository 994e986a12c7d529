-- The faults of a piece, as the code names them.
use Rattle.std.proofs.Common.{◌≡◌, ◌≢◌, ◌<◌, ℕ, ◌+◌, ◌++◌, List, [], length, refl, sym, ap, ◌∙◌, append_assoc, subst, rules}
use Rattle.ee_text.specs.Line.{IsLine, line_of}
use Rattle.ee_interface.specs.declared.script.command.Command.{Command}
use Rattle.ee_interface.specs.declared.script.answer.Answer.{Answer}
use Rattle.ee_interface.specs.declared.script.session.ScriptFault.{ScriptFault}
use Rattle.ee_interface.specs.declared.script.session.ScriptFault.TheVariants.{BadLine, Memory}
use Rattle.ee_interface.specs.Script.Command.{IsCommand, command_text}
use Rattle.ee_interface.specs.Script.Script.{NoLine}
use Rattle.ee_interface.specs.Script.Session.{Progress, Goes, saturating_count}
use Rattle.ee_interface.specs.Script.Fault.{IsFault}
use Rattle.ee_interface.proofs.ScriptLemmas.Steps.{goes_nowhere, goes_on, meets_at_feed, meets_when_long, meets_later, meets_before, meets_within}

pub fault_at_feed : {S : Type 0} (old : Progress S) (bytes : List ℕ) (fault : ScriptFault)
    → IsLine (old.unfinished ++ bytes)
    → ((command : Command) → IsCommand command → old.unfinished ++ bytes ≢ command_text command)
    → fault ≡ BadLine (saturating_count (old.lines + 1)) → IsFault old (line_of bytes) fault
fault_at_feed old bytes fault line none e =
    subst (IsFault old (line_of bytes)) (sym e) (meets_at_feed old bytes line none)

pub fault_when_long : {S : Type 0} (old : Progress S) (bytes : List ℕ) (fault : ScriptFault)
    → IsLine (old.unfinished ++ bytes) → 24 < length old.unfinished + length bytes
    → fault ≡ BadLine (saturating_count (old.lines + 1)) → IsFault old bytes fault
fault_when_long old bytes fault line long e =
    subst (IsFault old bytes) (sym e) (meets_when_long old bytes line long)

pub fault_within : {S : Type 0} (old : Progress S) (bytes line tail : List ℕ) (fault : ScriptFault)
    → IsLine old.unfinished → IsLine line → bytes ≡ line_of line ++ tail
    → NoLine (old.unfinished ++ bytes) → fault ≡ BadLine (saturating_count (old.lines + 1))
    → IsFault old bytes fault
fault_within old bytes line tail fault before lacks cut none e =
    subst (IsFault old bytes) (sym e) (meets_within old bytes line tail before lacks cut none)

-- a fault in what comes next is a fault in the whole piece
pub fault_later : {S : Type 0} (step : S → Command → Answer → S → Type 0) (old mid : Progress S)
    (front back : List ℕ) (fault : ScriptFault)
    → Goes step old front mid → IsFault mid back fault → IsFault old (front ++ back) fault
fault_later step old mid front back (BadLine n) first second =
    meets_later step old mid front back n first second
fault_later step old mid front back Memory first second = tt

pub fault_before : {S : Type 0} (old : Progress S) (front back : List ℕ) (fault : ScriptFault)
    → IsFault old front fault → IsFault old (front ++ back) fault
fault_before old front back fault h1 = search (rules, meets_before)

-- so many of a piece's bytes were judged, and the rest are left
pub record HasJudged {S : Type 0} (step : S → Command → Answer → S → Type 0) (old : Progress S)
    (piece rest : List ℕ) (now : Progress S) : Type 0 where
  pub front : List ℕ
  pub piece_is : piece ≡ front ++ rest
  pub went : Goes step old front now

pub judged_none : {S : Type 0} (step : S → Command → Answer → S → Type 0) (old : Progress S)
    (piece : List ℕ)
    → HasJudged step old piece piece old
judged_none step old piece = record { front = []; piece_is = refl; went = goes_nowhere step old }

pub judged_line : {S : Type 0} (step : S → Command → Answer → S → Type 0) (old mid new : Progress S)
    (piece rest line behind : List ℕ)
    → HasJudged step old piece rest mid → rest ≡ line ++ behind → Goes step mid line new
    → HasJudged step old piece behind new
judged_line step old mid new piece rest line behind judged cut went = record {
  front = judged.front ++ line;
  piece_is =
      judged.piece_is ∙ ap (λ text. judged.front ++ text) cut
      ∙ sym (append_assoc judged.front line behind);
  went = goes_on step old mid new judged.front line judged.went went;
}

-- the rest of a piece is an unfinished line
pub judged_all : {S : Type 0} (step : S → Command → Answer → S → Type 0) (old mid new : Progress S)
    (piece rest : List ℕ)
    → HasJudged step old piece rest mid → Goes step mid rest new → Goes step old piece new
judged_all step old mid new piece rest judged went = search (rules, goes_on)

pub fault_at_last : {S : Type 0} (step : S → Command → Answer → S → Type 0) (old mid : Progress S)
    (piece rest : List ℕ) (fault : ScriptFault)
    → HasJudged step old piece rest mid → IsFault mid rest fault → IsFault old piece fault
fault_at_last step old mid piece rest fault judged met =
    subst (λ text. IsFault old text fault) (sym judged.piece_is)
    (fault_later step old mid judged.front rest fault judged.went met)
