-- What a walk through the live addresses and through the trace does, one step further.
use Rattle.std.proofs.Common.{◌≡◌, ℕ, ◌+◌, ◌<◌, ◌++◌, List, [], ◌∷◌, length, take, get_or, refl, ◌∙◌, ap, arith, rules}
use Rattle.std.proofs.lemmas.Grind.{common_steps}
use Rattle.std.proofs.lemmas.List.{take_more}
use Rattle.std.specs.declared.cmp.Ordering.TheVariants.{Less, Greater}
use Rattle.std.specs.Ordering.{nat_cmp, ordering_reverse}
use Rattle.std.proofs.lemmas.Cmp.{nat_cmp_total}
use Rattle.std.specs.List.{AllByRecursion}
use Rattle.std.specs.List.Sorted.{IsStrictlySortedBy}
use Rattle.std.specs.BTreeSet.{insert_key}
use Rattle.ee_check.specs.declared.change.Change.{Change}
use Rattle.ee_check.specs.Live.{live_after_one, live_after}

-- ---- addresses in ascending order

last_is_above : (x k : ℕ) (xs ys : List ℕ) → AllByRecursion (λ y. nat_cmp x y ≡ Less) (xs ++ k ∷ ys)
    → nat_cmp x k ≡ Less
last_is_above x k [] ys h = h.0
last_is_above x k (y ∷ xs) ys h = last_is_above x k xs ys h.1

other_way : (x k : ℕ) → nat_cmp x k ≡ Less → nat_cmp k x ≡ Greater
other_way x k h = nat_cmp_total.antisymm k x ∙ ap ordering_reverse h

-- an address above all others is the last one
pub insert_last : (xs ys : List ℕ) (k : ℕ) → IsStrictlySortedBy nat_cmp (xs ++ k ∷ ys)
    → insert_key nat_cmp xs k ≡ xs ++ k ∷ []
unfolding IsStrictlySortedBy
insert_last [] ys k sorted = refl
insert_last (x ∷ xs) ys k sorted =
    rw (other_way x k (last_is_above x k xs ys sorted.0), insert_last xs ys k sorted.1) refl

-- one address more is copied
pub one_copied : (copy rest more live : List ℕ) (k : ℕ) → rest ≡ k ∷ more
    → (copy ++ rest ≡ live) × IsStrictlySortedBy nat_cmp (copy ++ rest)
    → (insert_key nat_cmp copy k ++ more ≡ live)
    × IsStrictlySortedBy nat_cmp (insert_key nat_cmp copy k ++ more)
one_copied copy rest more live k e h = grind (arith, common_steps, insert_last)

-- ---- changes in order

pub live_after-append : (live : List ℕ) (changes more : List Change)
    → live_after live (changes ++ more) ≡ live_after (live_after live changes) more
live_after-append live [] more = refl
live_after-append live (change ∷ changes) more =
    live_after-append (live_after_one live change) changes more

pub live_after_more : (live : List ℕ) (changes : List Change) (i : ℕ) (d : Change)
    → i < length changes
    → live_after live (take (i + 1) changes)
    ≡ live_after_one (live_after live (take i changes)) (get_or changes i d)
live_after_more live changes i d h =
    ap (live_after live) (take_more changes i d h)
    ∙ live_after-append live (take i changes) (get_or changes i d ∷ [])

-- one change more is made
pub one_made : (start live new : List ℕ) (changes : List Change) (i : ℕ) (change : Change)
    → i < length changes → live ≡ live_after start (take i changes)
    → change ≡ get_or changes i change → new ≡ live_after_one live change
    → new ≡ live_after start (take (i + 1) changes)
one_made start live new changes i change h before is made = search (rules, live_after_more)
