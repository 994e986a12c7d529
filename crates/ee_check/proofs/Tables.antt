-- A table of all addresses: what it is to set an entry, and how many addresses it has.
use Rattle.std.proofs.Common.{◌≡◌, ℕ, ◌+◌, ◌<◌, ◌≤◌, Bool, true, false, not, zero, suc, List, [], ◌∷◌, length, get_or, set, replicate, refl, sym, ap, ◌∙◌, arith, rules}
use Rattle.std.proofs.lemmas.Grind.{common_steps}
use Rattle.std.proofs.lemmas.List.{length-replicate}
use Rattle.std.proofs.lemmas.List.Sums.{sum_by-cons, sum_by-set}
use Rattle.std.specs.List.{sum_by}
use Rattle.std.specs.declared.cmp.Ordering.TheVariants.{Less, Equal, Greater}
use Rattle.std.specs.Ordering.{nat_cmp}
use Rattle.std.specs.BTreeMap.{is_at}
use Rattle.std.specs.BTreeSet.{insert_key}
use Rattle.std.specs.Set.{remove_key}
use Rattle.ee_check.specs.declared.change.Change.{Change}
use Rattle.ee_check.specs.declared.change.Change.TheVariants.{Write, Forget}
use Rattle.ee_check.specs.Live.{live_after_one}
use Rattle.ee_check.specs.Table.{addresses_from}
use mir.Val.{bool_byte}

-- ---- two numbers

pub smaller : (a b : ℕ) → a < b → nat_cmp a b ≡ Less
smaller a b h = grind (arith, common_steps)

pub same : (a b : ℕ) → a ≡ b → nat_cmp a b ≡ Equal
same a b h = grind (arith, common_steps)

pub greater : (a b : ℕ) → b < a → nat_cmp a b ≡ Greater
greater a b h = grind (arith, common_steps)

-- ---- an entry is set

-- a number below all of the table comes first
insert_below : (k n : ℕ) (table : List Bool) → k < n
    → insert_key nat_cmp (addresses_from n table) k ≡ k ∷ addresses_from n table
unfolding addresses_from
insert_below k n [] h = refl
insert_below k n (true ∷ table) h = rw (smaller k n h) refl
insert_below k n (false ∷ table) h = insert_below k (n + 1) table (omega arith)

-- and isn't there to be removed
remove_below : (k n : ℕ) (table : List Bool) → k < n
    → remove_key (is_at (nat_cmp k)) (addresses_from n table) ≡ addresses_from n table
unfolding addresses_from
remove_below k n [] h = refl
remove_below k n (true ∷ table) h =
    rw (smaller k n h) (ap (λ l. n ∷ l) (remove_below k (n + 1) table (omega arith)))
remove_below k n (false ∷ table) h = remove_below k (n + 1) table (omega arith)

-- an entry that is set inserts its address
set_inserts : (k n i : ℕ) (table : List Bool) → k ≡ n + i → i < length table
    → addresses_from n (set table i true) ≡ insert_key nat_cmp (addresses_from n table) k
unfolding addresses_from
set_inserts k n i [] e h = absurd (omega arith)
set_inserts k n zero (true ∷ table) e h = rw (same k n (omega arith)) refl
set_inserts k n zero (false ∷ table) e h =
    ap (λ a. a ∷ addresses_from (n + 1) table) (let s : n ≡ k = omega arith in s)
    ∙ sym (insert_below k (n + 1) table (omega arith))
set_inserts k n (suc i) (true ∷ table) e h =
    rw (greater k n (omega arith))
    (ap (λ l. n ∷ l) (set_inserts k (n + 1) i table (omega arith) (omega arith)))
set_inserts k n (suc i) (false ∷ table) e h =
    set_inserts k (n + 1) i table (omega arith) (omega arith)

-- and one that is cleared removes it
clear_removes : (k n i : ℕ) (table : List Bool) → k ≡ n + i → i < length table
    → addresses_from n (set table i false) ≡ remove_key (is_at (nat_cmp k)) (addresses_from n table)
unfolding addresses_from
clear_removes k n i [] e h = absurd (omega arith)
clear_removes k n zero (true ∷ table) e h = rw (same k n (omega arith)) refl
clear_removes k n zero (false ∷ table) e h = sym (remove_below k (n + 1) table (omega arith))
clear_removes k n (suc i) (true ∷ table) e h =
    rw (greater k n (omega arith))
    (ap (λ l. n ∷ l) (clear_removes k (n + 1) i table (omega arith) (omega arith)))
clear_removes k n (suc i) (false ∷ table) e h =
    clear_removes k (n + 1) i table (omega arith) (omega arith)

-- so a write sets the entry of its address
pub set_written : (table : List Bool) (i address : ℕ) (live : List ℕ) (change : Change)
    → i < length table → addresses_from 0 table ≡ live → i ≡ address → change ≡ Write address
    → addresses_from 0 (set table i true) ≡ live_after_one live change
set_written table i address live change h before e is = search (rules, set_inserts)

-- and a forgetting clears it
pub clear_forgotten : (table : List Bool) (i address : ℕ) (live : List ℕ) (change : Change)
    → i < length table → addresses_from 0 table ≡ live → i ≡ address → change ≡ Forget address
    → addresses_from 0 (set table i false) ≡ live_after_one live change
clear_forgotten table i address live change h before e is = search (rules, clear_removes)

-- where no entry is set, there is no address
none_set : (n m : ℕ) → addresses_from n (replicate m false) ≡ []
unfolding addresses_from
none_set n zero = refl
none_set n (suc m) = none_set (n + 1) m

-- a table before any change
pub record IsClear (table : List Bool) (entries : ℕ) : Type 0 where
  pub as_many : length table ≡ entries
  pub none : addresses_from 0 table ≡ []

pub is_clear : (table : List Bool) (entries : ℕ) → table ≡ replicate entries false
    → IsClear table entries
is_clear table entries e = record {
  as_many = ap length e ∙ length-replicate entries false;
  none = ap (addresses_from 0) e ∙ none_set 0 entries;
}

-- ---- how many are set

sum_is : (n : ℕ) (table : List Bool) → length (addresses_from n table) ≡ sum_by bool_byte table
unfolding addresses_from
sum_is n [] = refl
sum_is n (true ∷ table) = let rest = sum_is (n + 1) table in
    let s = sum_by-cons bool_byte true table in omega arith
sum_is n (false ∷ table) = let rest = sum_is (n + 1) table in
    let s = sum_by-cons bool_byte false table in omega arith

pub count-le : (n : ℕ) (table : List Bool) → length (addresses_from n table) ≤ length table
unfolding addresses_from
count-le n [] = omega arith
count-le n (true ∷ table) = let rest = count-le (n + 1) table in omega arith
count-le n (false ∷ table) = let rest = count-le (n + 1) table in omega arith

-- one entry is changed
count_changed : (table : List Bool) (i : ℕ) (was is : Bool) → i < length table
    → was ≡ get_or table i was
    → length (addresses_from 0 (set table i is)) + bool_byte was
    ≡ length (addresses_from 0 table) + bool_byte is
count_changed table i was is h e = search (rules, sum_by-set, sum_is)

pub bit-le : (b : Bool) → bool_byte b ≤ 1
bit-le b = search rules

-- an entry that was not set is counted from now on
pub count_more : (table : List Bool) (i : ℕ) (was : Bool) → i < length table
    → was ≡ get_or table i was
    → length (addresses_from 0 table) + bool_byte (not was)
    ≡ length (addresses_from 0 (set table i true))
count_more table i was h1 h2 = search (rules, count_changed)

-- and one that was set no longer
pub count_less : (table : List Bool) (i : ℕ) (was : Bool) → i < length table
    → was ≡ get_or table i was
    → length (addresses_from 0 (set table i false)) + bool_byte was
    ≡ length (addresses_from 0 table)
count_less table i was h e = let all = count_changed table i was false h e in omega arith
