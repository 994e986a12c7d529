-- What a report tells of each number.
use Rattle.std.specs.Prelude.{ℕ, zero, suc, List, [], ◌++◌}

-- what there is to say of each number below this one, by rising number
unfoldable pub each_below : ℕ → (ℕ → List ℕ) → List ℕ
each_below zero text = []
each_below (suc number) text = each_below number text ++ text number
