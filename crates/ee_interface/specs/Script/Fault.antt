-- Why a session stopped.
use Rattle.std.specs.Prelude.{◌≡◌, ◌≢◌, ℕ, ◌+◌, List, []}
use Rattle.ee_interface.specs.declared.script.session.ScriptFault.{ScriptFault}
use Rattle.ee_interface.specs.declared.script.session.ScriptFault.TheVariants.{BadLine, Memory}
use Rattle.ee_interface.specs.Script.Script.{NoLine}
use Rattle.ee_interface.specs.Script.Session.{Progress, MeetsBadLine, saturating_count}

-- in a piece: at a bad line, or for want of memory
abbrev pub IsFault : {S : Type 0} → Progress S → List ℕ → ScriptFault → Type 0
IsFault old piece (BadLine n) = MeetsBadLine old piece n
IsFault old piece Memory = Unit {0}

-- at the end: in the middle of a line
abbrev pub EndsBadly : {S : Type 0} → Progress S → ScriptFault → Type 0
EndsBadly old (BadLine n) =
    (old.unfinished ≢ []) × NoLine old.unfinished × (n ≡ saturating_count (old.lines + 1))
EndsBadly old Memory = ⊥
