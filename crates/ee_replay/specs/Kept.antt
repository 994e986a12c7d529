-- What an image keeps of the changes of a script, whatever is cut in it.
use Rattle.std.specs.Prelude.{◌≡◌, ◌⊎◌, ◌==◌, ◌++◌, ℕ, Bool, false, Option, Some, None, List, ◌∷◌, length}
use Rattle.std.specs.List.{All}
use Rattle.ee_pages.specs.Meaning.{Change, Map, Put, map_after}
use Rattle.ee_pages.specs.Meaning as meaning
use Rattle.ee_pages.specs.Pending.{address_of}
use Rattle.ee_core.specs.Changes.{HasChange}
use Rattle.ee_interface.specs.declared.script.command.Command.{Command}
use Rattle.ee_interface.specs.declared.script.command.Command.TheVariants.{Write, Read, Forget}
use Rattle.ee_interface.specs.declared.script.answer.Answer.{Answer}
use Rattle.ee_interface.specs.declared.script.answer.Answer.TheVariants.{Appended, Moved, Value, NoValue, Cut}
use Rattle.ee_interface.specs.Script.Run.{Run}

-- A change answered `ok` or `moved` is made; one in which power is cut is made or not; no other is.
abbrev pub KeepsChange : Change → Map → Answer → Map → Type 0
KeepsChange change old Appended new = new ≡ map_after change old
KeepsChange change old Moved new = new ≡ map_after change old
KeepsChange change old Cut new = (new ≡ old) ⊎ (new ≡ map_after change old)
KeepsChange change old answer new = new ≡ old

-- what a read is answered is what the map has
abbrev pub IsReadIn : Map → ℕ → Answer → Type 0
IsReadIn map address (Value value) = map address ≡ Some value
IsReadIn map address NoValue = map address ≡ None
IsReadIn map address answer = Unit {0}

-- The image means the one map before a line that is answered so, and the other behind it.
abbrev pub Keeps : Map → Command → Answer → Map → Type 0
Keeps old (Write address value) answer new = KeepsChange (Put address value) old answer new
Keeps old (Forget address) answer new = KeepsChange (meaning.Forget address) old answer new
Keeps old (Read address) answer new = IsReadIn old address answer × (new ≡ old)
Keeps old command answer new = new ≡ old

-- the change that was answered as made
abbrev pub change_answered : Command → Answer → Option Change
change_answered (Write address value) Appended = Some (Put address value)
change_answered (Write address value) Moved = Some (Put address value)
change_answered (Forget address) Appended = Some (meaning.Forget address)
change_answered (Forget address) Moved = Some (meaning.Forget address)
change_answered command answer = None

-- the line asks for a change of the address
abbrev pub command_asks_change_of : ℕ → Command → Bool
command_asks_change_of address (Write named value) = named == address
command_asks_change_of address (Forget named) = named == address
command_asks_change_of address command = false

-- A change that was answered stays, whatever is cut later, and however often: where no later line
-- asks for a change of its address, the image has it in the end.
abbrev pub AnAnsweredChangeStays : Type 0
AnAnsweredChangeStays =
    (before later : List Command) (said answers : List Answer) (command : Command) (answer : Answer)
    (change : Change) (old new : Map)
    → Run Keeps old (before ++ command ∷ later) (said ++ answer ∷ answers) new
    → length before ≡ length said
    → change_answered command answer ≡ Some change
    → All (λ one. command_asks_change_of (address_of change) one ≡ false) later
    → HasChange change new
