-- What is told of each number, one number further.
use Rattle.std.proofs.Common.{◌≡◌, ◌+◌, ℕ, List, ◌++◌, refl, sym, arith, add-one}
use Rattle.std.proofs.lemmas.Grind.{common_steps}
use Rattle.std.proofs.lemmas.List.{append-nil}
use Rattle.ee_image_store.specs.Told.{each_below}

more_below : (n : ℕ) (text : ℕ → List ℕ) → each_below (n + 1) text ≡ each_below n text ++ text n
unfolding each_below
more_below n text = rw add-one refl

pub told_none : (text : ℕ → List ℕ) (old : List ℕ) → old ≡ old ++ each_below 0 text
unfolding each_below
told_none text old = sym (append-nil old)

-- one number more
pub told_more : (n : ℕ) (text : ℕ → List ℕ) (old out new : List ℕ) → out ≡ old ++ each_below n text
    → new ≡ out ++ text n → new ≡ old ++ each_below (n + 1) text
told_more n text old out new so_far written = grind (arith, common_steps, more_below)
