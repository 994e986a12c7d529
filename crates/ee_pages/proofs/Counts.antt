-- Addresses in their order: the next live one, and how many there are.
use Rattle.std.proofs.Common.{rules, ◌≡◌, ℕ, ◌+◌, ◌-◌, ◌<◌, ◌≤◌, Some, None, List, [], ◌∷◌, length, is_some, cond, refl, subst, ap, ◌∙◌, arith, suc, zero}
use Rattle.std.proofs.lemmas.List.Elements.{All-head, All-tail}
use Rattle.std.specs.List.{All}
use Rattle.ee_codec.specs.Words.{IsAddress}
use Rattle.ee_pages.specs.Meaning.{Map, live_to}
use Rattle.ee_pages.specs.LiveOrder.{AreLiveThrough, AreNextLive, IsNextLive, last_of}

pub live_to-zero : (map : Map) → live_to map 0 ≡ 0
unfolding live_to
live_to-zero map = refl

pub live_to-suc : (map : Map) (n : ℕ)
    → live_to map (suc n) ≡ live_to map n + cond (is_some (map (suc n))) 1 0
unfolding live_to
live_to-suc map n = refl

-- where none has a value
gap : (map : Map) (n k : ℕ) → ((address : ℕ) → n < address → address ≤ n + k → map address ≡ None)
    → live_to map (n + k) ≡ live_to map n
gap map n zero none = ap (live_to map) (let e : n + 0 ≡ n = omega arith in e)
gap map n (suc k) none =
    let e : n + suc k ≡ suc (n + k) = omega arith in
    let here : map (suc (n + k)) ≡ None = none (suc (n + k)) (omega arith) (omega arith) in
    let rest : live_to map (n + k) ≡ live_to map n =
    gap map n k (λ address low high. none address low (omega arith)) in
    ap (live_to map) e ∙ live_to-suc map (n + k) ∙ rw here (omega (arith, rest))

pub gap_to : (map : Map) (n m : ℕ) → n ≤ m
    → ((address : ℕ) → n < address → address ≤ m → map address ≡ None)
    → live_to map m ≡ live_to map n
gap_to map n m h none =
    let e : m ≡ n + (m - n) = omega arith in
    ap (live_to map) e ∙ gap map n (m - n) (λ address low high. none address low (omega arith))

pub live_to-next : (map : Map) (above address value : ℕ)
    → IsNextLive map above (Some (address, value)) → live_to map address ≡ live_to map above + 1
live_to-next map above address value next =
    let e : address ≡ suc (address - 1) = omega (arith, next.0) in
    let here : map (suc (address - 1)) ≡ Some value = subst (λ n. map n ≡ Some value) e next.1 in
    let before =
    gap_to map above (address - 1) (omega (arith, next.0))
    (λ k low high. next.2 k low (omega (arith, next.0))) in
    ap (live_to map) e ∙ live_to-suc map (address - 1) ∙ rw here (omega (arith, before))

pub live_to-end : (map : Map) (above : ℕ) → above < 65535 → IsNextLive map above None
    → live_to map 65534 ≡ live_to map above
live_to-end map above h none = gap_to map above 65534 (omega arith) (λ k low high. none k low)

-- a batch of live addresses: as many more have a value, each address is at least one further, and
-- the last one is proper
pub live_to-batch : (map : Map) (found : List (ℕ × ℕ)) (above : ℕ) → AreNextLive map above found
    → live_to map (last_of above found) ≡ live_to map above + length found
live_to-batch map [] above next = omega arith
live_to-batch map (first ∷ more) above next =
    let one = live_to-next map above first.0 first.1 next.0 in
    let rest = live_to-batch map more first.0 next.1 in
    omega (arith, one, rest)

pub last_rises : (map : Map) (found : List (ℕ × ℕ)) (above : ℕ) → AreNextLive map above found
    → above + length found ≤ last_of above found
last_rises map [] above next = omega arith
last_rises map (first ∷ more) above next =
    let rest = last_rises map more first.0 next.1 in
    omega (arith, next.0.0, rest)

pub last_below : (found : List (ℕ × ℕ)) (above : ℕ) → above < 65535
    → All (λ (one : ℕ × ℕ). IsAddress one.0) found → last_of above found < 65535
last_below [] above below proper = below
last_below (first ∷ more) above below proper =
    last_below more first.0 (All-head (λ (one : ℕ × ℕ). IsAddress one.0) first more proper).1
    (All-tail (λ (one : ℕ × ℕ). IsAddress one.0) first more proper)

-- what a count that goes over batches is after one
module _ (map : Map) (found : List (ℕ × ℕ)) (above count : ℕ)
    (counted : count ≡ live_to map above) where
  pub counted_through : (to : ℕ) → AreLiveThrough map above found (Some to)
      → count + length found ≡ live_to map to
  counted_through to batch = search (rules, live_to-batch, gap_to)

  pub counted_all : above < 65535 → All (λ (one : ℕ × ℕ). IsAddress one.0) found
      → AreLiveThrough map above found None → count + length found ≡ live_to map 65534
  counted_all below proper batch = search (rules, live_to-batch, live_to-end, last_below)
