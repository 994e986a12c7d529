use Rattle.std.proofs.Common.{◌≡◌, ℕ, List, ◌++◌, codes, decimal, append_assoc}
use Rattle.ee_interface.specs.Beside.{AreLineWords}
use Rattle.ee_interface.specs.declared.fault.Fault.TheVariants.{ValueOutOfRange}
use Rattle.ee_interface.proofs.fault.Fault.words.Goals as goal

regrouped : (a b c d : List ℕ) → a ++ (b ++ c ++ d) ≡ a ++ b ++ c ++ d
regrouped a b c d = simp append_assoc

between : (entry min max : ℕ)
    → AreLineWords (ValueOutOfRange entry min max) (codes " out of range ")
unfolding AreLineWords
between entry min max =
    regrouped (codes "values entry " ++ decimal entry ++ codes " out of range ") (decimal min)
    (codes " ") (decimal max)

pub returns-in-ValueOutOfRange : goal.returns-in-ValueOutOfRange
returns-in-ValueOutOfRange c = rw c.in-ValueOutOfRange.is (between _ _ _)
