-- What a spelled line looks like: one line, and short.
use Rattle.std.proofs.Common.{◌≡◌, ℕ, ◌<◌, ◌≤◌, ◌+◌, ◌^◌, ◌++◌, List, ◌∷◌, length, arith, inl, length-append, sym, ◌∙◌, rules}
use Rattle.std.specs.Fmt.{decimal}
use Rattle.std.proofs.lemmas.Fmt.{length-decimal-le}
use Rattle.ee_flash.specs.declared.fuse.Tear.{Tear}
use Rattle.ee_text.specs.Field.{IsField, Lacks}
use Rattle.ee_text.proofs.Public.{Lacks-append, Lacks-decimal, first_place}
use Rattle.ee_interface.specs.declared.script.command.Command.{Command}
use Rattle.ee_interface.specs.declared.script.command.Command.TheVariants.{Write, Read, Forget, Clean, Arm, PowerOn}
use Rattle.ee_interface.specs.Script.Command.{IsCommand, letter, command_text}

-- a letter is one byte, and no line feed
Lacks-letter : (tear : Tear) → Lacks 10 (letter tear)
Lacks-letter tear = search rules

length-letter : (tear : Tear) → length (letter tear) ≡ 1
length-letter tear = search rules

-- no spelling has a line feed
pub Lacks-spelling : (command : Command) → IsCommand command → Lacks 10 (command_text command)
Lacks-spelling command h1 = search (rules, Lacks-append, Lacks-decimal, Lacks-letter)

-- no spelling has more than 24 bytes
pub length-spelling : (command : Command) → IsCommand command → length (command_text command) ≤ 24
length-spelling (Write address value) h =
    let a : length (decimal address) ≤ 5 =
    length-decimal-le 5 address (omega arith) (omega arith) (omega arith) in
    let v : length (decimal value) ≤ 10 =
    length-decimal-le 10 value (omega arith) (omega arith) (omega arith) in
    simp length-append (omega arith)
length-spelling (Read address) h = search (rules, length-decimal-le)
length-spelling (Forget address) h = search (rules, length-decimal-le)
length-spelling Clean h = omega arith
length-spelling (Arm fuse) h =
    let n : length (decimal (fuse.after + 1)) ≤ 20 =
    length-decimal-le 20 (fuse.after + 1) (omega arith) (omega arith) h in
    let t : length (letter fuse.tear) ≡ 1 = length-letter fuse.tear in
    simp length-append (omega arith)
length-spelling PowerOn h = omega arith

-- a text that spells a step and a tear is cut at the first space, and its front is the step
pub cut_behind_step : (text field tail behind : List ℕ) (step : ℕ) (tear : Tear) → IsField field
    → text ≡ field ++ 32 ∷ tail → step < 2 ^ 64
    → text ≡ decimal step ++ 32 ∷ (letter tear ++ behind)
    → (field ≡ decimal step) × (tail ≡ letter tear ++ behind)
cut_behind_step text field tail behind step tear in_field cut fits spelled =
    first_place 32 field (decimal step) tail (letter tear ++ behind) in_field
    (Lacks-decimal 32 step (inl (omega arith)) fits) (sym cut ∙ spelled)
