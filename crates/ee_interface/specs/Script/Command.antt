-- The commands of a script, and how each is spelled on its line.
use Rattle.std.specs.Prelude.{◌<◌, ◌+◌, ◌^◌, ℕ, List, [], ◌∷◌, decimal, codes}
use Rattle.ee_codec.specs.Words.{IsAddress, IsValue}
use Rattle.ee_flash.specs.declared.fuse.Tear.{Tear}
use Rattle.ee_flash.specs.declared.fuse.Tear.TheVariants.{Nothing, Done, Torn, Mixed}
use Rattle.ee_text.specs.Field.{joined_fields}
use Rattle.ee_interface.specs.declared.script.command.Command.{Command}
use Rattle.ee_interface.specs.declared.script.command.Command.TheVariants.{Write, Read, Forget, Clean, Arm, PowerOn}

-- its address is proper and its value fits, and the number of the step that is cut fits 64 bits
abbrev pub IsCommand : Command → Type 0
IsCommand (Write address value) = IsAddress address × IsValue value
IsCommand (Read address) = IsAddress address
IsCommand (Forget address) = IsAddress address
IsCommand Clean = Unit {0}
IsCommand (Arm fuse) = fuse.after + 1 < 2 ^ 64
IsCommand PowerOn = Unit {0}

-- the letter of a tear
abbrev pub letter : Tear → List ℕ
letter Nothing = codes "n"
letter Done = codes "d"
letter Torn = codes "t"
letter Mixed = codes "m"

-- what its line says: its fields in a row
abbrev pub command_text : Command → List ℕ
command_text (Write address value) =
    joined_fields (codes "w" ∷ decimal address ∷ decimal value ∷ [])
command_text (Read address) = joined_fields (codes "r" ∷ decimal address ∷ [])
command_text (Forget address) = joined_fields (codes "f" ∷ decimal address ∷ [])
command_text Clean = codes "c"
command_text (Arm fuse) =
    joined_fields (codes "x" ∷ decimal (fuse.after + 1) ∷ letter fuse.tear ∷ [])
command_text PowerOn = codes "p"
