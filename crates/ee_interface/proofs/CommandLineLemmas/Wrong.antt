-- The first word that is wrong.
use Rattle.std.proofs.Common.{◌≡◌, ◌∙◌, ◌∷◌, ◌↔◌, ℕ, Bool, false, List, IsTrue, ap, inr, sym, true≢false}
use Rattle.ee_interface.specs.CommandLine.Operands.{IsFirstWrong, IsSpelling, word_fault}
use Rattle.ee_interface.specs.declared.command_line.operands.Operand.{Operand}
use Rattle.ee_interface.specs.declared.command_line.operands.WordFault.{WordFault}
use Rattle.ee_interface.specs.declared.command_line.operands.WordsCause.TheVariants.{Wrong}

-- a word that isn't what it is to be, in front of others
pub wrong_here : (operand : Operand) (word : List ℕ) (operands : List Operand)
    (words : List (List ℕ)) (before : ℕ) (fault : WordFault) (spelled : Bool)
    (all : List Operand) (texts : List (List ℕ))
    → all ≡ operand ∷ operands → texts ≡ word ∷ words
    → (IsTrue spelled ↔ IsSpelling operand word) → spelled ≡ false
    → fault ≡ word_fault operand word
    → IsFirstWrong all texts before (Wrong before operand fault)
wrong_here operand word operands words before fault spelled all texts first second either differs is =
    rw (first, second)
    (inr (λ spells. true≢false (sym (either.1 spells) ∙ differs), ap (λ found. Wrong before operand found) is))
