-- A batch of live addresses, found one after another.
use Rattle.std.proofs.lemmas.Grind.{common_steps}
use Rattle.std.proofs.Common.{◌≡◌, ℕ, ◌<◌, ◌≤◌, true, Option, Some, is_some, List, [], ◌∷◌, ◌++◌, length, refl, sym, subst, arith, rules}
use Rattle.std.specs.List.{All}
use Rattle.ee_codec.specs.Words.{IsAddress}
use Rattle.ee_pages.specs.Meaning.{Map}
use Rattle.ee_pages.specs.LiveOrder.{AreNextLive, IsNextLive, above_of, last_of}

-- one more at the end
pub AreNextLive-one_more : (map : Map) (above : ℕ) (found : List (ℕ × ℕ)) (more : ℕ × ℕ)
    → AreNextLive map above found → IsNextLive map (last_of above found) (Some more)
    → AreNextLive map above (found ++ (more ∷ []))
AreNextLive-one_more _ _ [] _ _ last = (last, tt)
AreNextLive-one_more map _ (first ∷ rest) more next last =
    (next.0, AreNextLive-one_more map first.0 rest more next.1 last)

last_of-one_more : (above : ℕ) (found : List (ℕ × ℕ)) (more : ℕ × ℕ)
    → last_of above (found ++ (more ∷ [])) ≡ more.0
last_of-one_more _ [] _ = refl
last_of-one_more _ (first ∷ rest) more = last_of-one_more first.0 rest more

-- these addresses come next above `after`, and the last of them is `behind`
pub record ReachesTo (map : Map) (after behind : Option ℕ) (found : List (ℕ × ℕ)) : Type 0 where
  pub next : AreNextLive map (above_of after) found
  pub last : last_of (above_of after) found ≡ above_of behind
  pub some : 0 < length found → is_some behind ≡ true
  pub rises : 0 < length found → above_of after < above_of behind
  pub from : above_of after ≤ above_of behind

reaches_further : (map : Map) (after behind : Option ℕ) (found : List (ℕ × ℕ)) (address value : ℕ)
    → ReachesTo map after behind found → IsNextLive map (above_of behind) (Some (address, value))
    → ReachesTo map after (Some address) (found ++ ((address, value) ∷ []))
reaches_further map after behind found address value so_far more =
    search (rules, AreNextLive-one_more, last_of-one_more)

-- one more is put behind them
pub pushed : (map : Map) (after behind : Option ℕ) (found all : List (ℕ × ℕ)) (address value : ℕ)
    → all ≡ found ++ ((address, value) ∷ []) → ReachesTo map after behind found
    → IsNextLive map (above_of behind) (Some (address, value))
    → ReachesTo map after (Some address) all
pushed map after behind found _ address value is so_far more =
    subst (λ (items : List (ℕ × ℕ)). ReachesTo map after (Some address) items) (sym is)
    (reaches_further map after behind found address value so_far more)

pub proper_pushed : (found all : List (ℕ × ℕ)) (one : ℕ × ℕ) → all ≡ found ++ (one ∷ [])
    → All (λ (found : ℕ × ℕ). IsAddress found.0) found → IsAddress one.0
    → All (λ (found : ℕ × ℕ). IsAddress found.0) all
proper_pushed found all one is so_far proper = grind (arith, common_steps)
