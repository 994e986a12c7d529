-- Traces that keep within the slots, and the first change that doesn't fit.
use Rattle.std.proofs.Common.{◌≡◌, ℕ, ◌+◌, ◌<◌, ◌≤◌, List, [], ◌∷◌, ◌++◌, length, refl, subst, arith, rules}
use Rattle.ee_check.specs.declared.change.Change.{Change}
use Rattle.ee_check.specs.declared.change.Change.TheVariants.{Write, Forget}
use Rattle.ee_check.specs.Live.{live_after_one, live_after, KeepsWithin}
use Rattle.ee_check.specs.Schedule.{Situation}
use Rattle.ee_check.proofs.Public.{remove_key-le}
use Rattle.ee_plan.specs.Planner.Plan.{IsFirstNotFitting}

pub keeps_tail : (slots : ℕ) (live : List ℕ) (change : Change) (changes : List Change)
    → KeepsWithin slots live (change ∷ changes)
    → KeepsWithin slots (live_after_one live change) changes
keeps_tail slots live change changes h1 = search rules

pub keeps_more : (slots : ℕ) (live : List ℕ) (change : Change) (changes : List Change)
    → length (live_after_one live change) ≤ slots
    → KeepsWithin slots (live_after_one live change) changes
    → KeepsWithin slots live (change ∷ changes)
keeps_more slots live change changes h1 h2 = search rules

-- a trace that keeps within the slots, and a change more that does
pub keeps_append : (slots : ℕ) (live : List ℕ) (changes more : List Change)
    → KeepsWithin slots live changes → KeepsWithin slots (live_after live changes) more
    → KeepsWithin slots live (changes ++ more)
keeps_append slots live [] more keeps then = then
keeps_append slots live (Write address ∷ changes) more keeps then =
    (keeps.0, keeps_append slots (live_after_one live (Write address)) changes more keeps.1 then)
keeps_append slots live (Forget address ∷ changes) more keeps then =
    keeps_append slots (live_after_one live (Forget address)) changes more keeps then

-- what is behind the front of one that does
pub keeps_back : (slots : ℕ) (live : List ℕ) (changes more : List Change)
    → KeepsWithin slots live (changes ++ more) → KeepsWithin slots (live_after live changes) more
keeps_back slots live [] more keeps = keeps
keeps_back slots live (change ∷ changes) more keeps =
    keeps_back slots (live_after_one live change) changes more
    (keeps_tail slots live change (changes ++ more) keeps)

-- where all fit none is the first that doesn't
pub none_breaks : (start : Situation) (trace : List Change) (n : ℕ)
    → KeepsWithin start.slots start.live trace → IsFirstNotFitting start trace n → ⊥
none_breaks start trace n keeps first = search (rules, keeps_back)

-- two changes that are each the first are one
same_length : (slots : ℕ) (live : List ℕ) (before others rest more : List Change)
    (address other : ℕ)
    → before ++ Write address ∷ rest ≡ others ++ Write other ∷ more → KeepsWithin slots live before
    → KeepsWithin slots live others
    → slots < length (live_after_one (live_after live before) (Write address))
    → slots < length (live_after_one (live_after live others) (Write other))
    → length before ≡ length others
same_length slots live [] [] rest more address other e keeps keep breaks break = refl
same_length slots live [] (change ∷ others) rest more address other e keeps keep breaks break =
    search rules
same_length slots live (change ∷ before) [] rest more address other e keeps keep breaks break =
    search rules
same_length slots live (change ∷ before) (first ∷ others) rest more address other e keeps keep
    breaks break =
    let same : first ≡ change = cc in
    let tails : before ++ Write address ∷ rest ≡ others ++ Write other ∷ more = cc in
    let keep_here : KeepsWithin slots live (change ∷ others) =
    subst (λ c. KeepsWithin slots live (c ∷ others)) same keep in
    let break_here : slots
    < length (live_after_one (live_after (live_after_one live change) others) (Write other)) =
    subst
    (λ c. slots
    < length (live_after_one (live_after (live_after_one live c) others) (Write other)))
    same break in
    let h =
    same_length slots (live_after_one live change) before others rest more address other tails
    (keeps_tail slots live change before keeps)
    (keeps_tail slots live change others keep_here) breaks break_here in
    omega arith

pub one_first : (start : Situation) (trace : List Change) (m n : ℕ)
    → IsFirstNotFitting start trace m → IsFirstNotFitting start trace n → m ≡ n
one_first start trace m n first other = search (rules, same_length)

-- a change after which more addresses are live than there are slots is a write
pub first_breaks : (start : Situation) (trace before rest : List Change) (change : Change) (n : ℕ)
    → trace ≡ before ++ change ∷ rest → KeepsWithin start.slots start.live before
    → length (live_after start.live before) ≤ start.slots
    → start.slots < length (live_after_one (live_after start.live before) change)
    → n ≡ length before + 1 → IsFirstNotFitting start trace n
first_breaks start trace before rest change n h1 h2 h3 h4 h5 = search (rules, remove_key-le)
