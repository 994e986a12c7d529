-- How many addresses a change can make live.
use Rattle.std.proofs.Common.{ℕ, ◌+◌, ◌≤◌, Bool, cond, List, [], ◌∷◌, false, length, true, arith, rules}
use Rattle.std.specs.declared.cmp.Ordering.{Ordering}
use Rattle.std.specs.declared.cmp.Ordering.TheVariants.{Less, Equal, Greater}
use Rattle.std.specs.Ordering.{nat_cmp, match_ordering}
use Rattle.std.specs.BTreeSet.{insert_key}
use Rattle.std.specs.Set.{remove_key}
use Rattle.ee_check.specs.declared.change.Change.{Change}
use Rattle.ee_check.specs.Live.{live_after_one}

at_most_one_more : (o : Ordering) (k x : ℕ) (xs more : List ℕ) → length more ≤ length xs + 1
    → length (match_ordering o (k ∷ x ∷ xs) (x ∷ xs) (x ∷ more)) ≤ length (x ∷ xs) + 1
at_most_one_more Less k x xs more h1 = omega arith
at_most_one_more Equal k x xs more h1 = omega arith
at_most_one_more Greater k x xs more h1 = omega arith

insert_key-le : (xs : List ℕ) (k : ℕ) → length (insert_key nat_cmp xs k) ≤ length xs + 1
insert_key-le [] k = omega arith
insert_key-le (x ∷ xs) k =
    at_most_one_more (nat_cmp k x) k x xs (insert_key nat_cmp xs k) (insert_key-le xs k)

no_more : (b : Bool) (x : ℕ) (xs fewer : List ℕ) → length fewer ≤ length xs
    → length (cond b xs (x ∷ fewer)) ≤ length (x ∷ xs)
no_more true x xs fewer h1 = omega arith
no_more false x xs fewer h1 = omega arith

pub remove_key-le : (test : ℕ → Bool) (xs : List ℕ) → length (remove_key test xs) ≤ length xs
remove_key-le test [] = omega arith
remove_key-le test (x ∷ xs) = no_more (test x) x xs (remove_key test xs) (remove_key-le test xs)

-- one more at most
pub changed-le : (live : List ℕ) (change : Change)
    → length (live_after_one live change) ≤ length live + 1
changed-le live change = search (rules, insert_key-le, remove_key-le)
