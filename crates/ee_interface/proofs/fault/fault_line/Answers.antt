use Rattle.std.proofs.Common.{◌≡◌, ◌∙◌, List, ◌++◌, ℕ, ap, append_assoc, codes, rules}
use Rattle.ee_interface.specs.Beside.{AreLineWords, before, behind, beside_text}
use Rattle.ee_interface.specs.Fault.{fault_text}
use Rattle.ee_interface.specs.declared.fault.Fault.{Fault}
use Rattle.ee_interface.proofs.fault.fault_line.Goals as goal

regrouped : (a b c d : List ℕ) → a ++ (b ++ (c ++ d)) ≡ ((a ++ b) ++ c) ++ d
regrouped a b c d = simp append_assoc

-- the parts, one behind another
parts : (fault : Fault) (words line : List ℕ) → AreLineWords fault words
    → line
    ≡ codes "ee: "
    ++ (beside_text (before fault) ++ (words ++ (beside_text (behind fault) ++ codes "\n")))
    → line ≡ fault_text fault
unfolding AreLineWords
parts fault words line are is =
    is
    ∙ ap (λ l. codes "ee: " ++ l)
    (regrouped (beside_text (before fault)) words (beside_text (behind fault)) (codes "\n")
    ∙ ap (λ l. l ++ codes "\n") are)

pub returns : goal.returns
returns g c =
    parts c.args.fault.now c.words-words.result.now _ c.words-words.ensures
    (search rules fits 100 parts 0)
