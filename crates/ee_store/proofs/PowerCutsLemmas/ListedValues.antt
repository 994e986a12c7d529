-- A map that has the values of a list, looked up one after another.
use Rattle.std.proofs.Common.{◌≡◌, ℕ, ◌+◌, ◌<◌, ◌++◌, true, false, not, Option, Some, None, List, [], ◌∷◌, length, take, get_or, arith, suc, zero, rules}
use Rattle.std.specs.Option.{option_eq}
use Rattle.std.proofs.Math.Dec.{eqb}
use Rattle.std.proofs.lemmas.List.{take_more}
use Rattle.ee_pages.specs.Meaning.{Map}
use Rattle.ee_core.specs.Puts.{HasAll}
use Rattle.ee_core.specs.declared.change.Put as listed

-- whether a value that was looked up is the one in the list
pub same_value : (found : Option ℕ) (value : ℕ) → false ≡ not (option_eq eqb found (Some value))
    → found ≡ Some value
same_value None value told = absurd (cc told)
same_value (Some other) value told = search rules

pub other_value : (found : Option ℕ) (value : ℕ) → true ≡ not (option_eq eqb found (Some value))
    → found ≡ Some value → ⊥
other_value found value told same = search rules

has_more : (map : Map) (puts : List listed.Put) (put : listed.Put) → HasAll puts map
    → map put.address ≡ Some put.value → HasAll (puts ++ put ∷ []) map
has_more _ [] _ _ new = (new, tt)
has_more map (_ ∷ puts) put there new = (there.0, has_more map puts put there.1 new)

-- one value more
pub has_one_more : (map : Map) (puts : List listed.Put) (place : ℕ) (put : listed.Put)
    → HasAll (take place puts) map → place < length puts → put ≡ get_or puts place put
    → map put.address ≡ Some put.value → HasAll (take (place + 1) puts) map
has_one_more map puts place put there within is new =
    let more : take (place + 1) puts ≡ take place puts ++ put ∷ [] = search (rules, take_more) in
    search (rules, has_more)

-- the value of one entry
pub has_at : (map : Map) (puts : List listed.Put) (place : ℕ) (put : listed.Put) → HasAll puts map
    → place < length puts → put ≡ get_or puts place put → map put.address ≡ Some put.value
has_at map [] place put there within is = absurd (omega (arith, within))
has_at map (first ∷ puts) zero put there within is = search rules
has_at map (first ∷ puts) (suc place) put there within is =
    has_at map puts place put there.1 (omega (arith, within)) is
