-- The live addresses as a table of all addresses, which says of each whether it is live.
use Rattle.std.specs.Prelude.{ℕ, ◌+◌, Bool, true, false, List, [], ◌∷◌}

-- the live addresses, ascending, of a table whose first entry is that of n
unfoldable pub addresses_from : ℕ → List Bool → List ℕ
addresses_from n [] = []
addresses_from n (true ∷ table) = n ∷ addresses_from (n + 1) table
addresses_from n (false ∷ table) = addresses_from (n + 1) table
