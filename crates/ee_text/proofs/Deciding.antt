-- What can always be told: whether some number below a bound is so, and whether a text begins so.
use Rattle.std.proofs.Common.{◌≡◌, ◌≢◌, ◌⊎◌, ℕ, zero, suc, ◌<◌, List, [], ◌∷◌, ◌++◌, refl, sym, ap, ◌∙◌, subst, arith, inl, inr}
use Rattle.std.proofs.lemmas.Bool.{cases_eq}
use Rattle.std.proofs.lemmas.List.{append_cancel_left}

pub some_below : (P : ℕ → Type 0) → ((n : ℕ) → P n ⊎ ¬ P n) → (bound : ℕ)
    → ((n : ℕ) × (n < bound) × P n) ⊎ ((n : ℕ) → n < bound → ¬ P n)
some_below P told zero = inr (λ n less. absurd (omega arith))
some_below P told (suc bound) =
    elim (told bound) [
      | inl here ↦ inl (bound, omega arith, here)
      | inr not_here ↦ elim (some_below P told bound) [
        | inl found ↦ inl (found.0, (let h = found.1 in omega arith), found.2)
        | inr nowhere ↦ inr (λ n less has. elim (cases_eq n bound) [
          | inl same ↦ not_here (subst P same has)
          | inr other ↦ nowhere n (omega arith) has
        ])
      ]
    ]

pub begins_so : (front text : List ℕ)
    → ((rest : List ℕ) × (text ≡ front ++ rest)) ⊎ ((rest : List ℕ) → text ≢ front ++ rest)
begins_so [] text = inl (text, refl)
begins_so (byte ∷ front) [] = inr (λ rest e. cc)
begins_so (byte ∷ front) (first ∷ text) =
    elim (cases_eq first byte) [
      | inl same ↦ elim (begins_so front text) [
        | inl found ↦ inl (found.0, ap (λ b. b ∷ text) same ∙ ap (λ l. byte ∷ l) found.1)
        | inr none ↦ inr (λ rest e. none rest cc)
      ]
      | inr other ↦ inr (λ rest e. other cc)
    ]

-- and goes on so
pub begins_and : (front : List ℕ) (P : List ℕ → Type 0) → ((rest : List ℕ) → P rest ⊎ ¬ P rest)
    → (text : List ℕ)
    → ((rest : List ℕ) × (text ≡ front ++ rest) × P rest)
    ⊎ ¬ ((rest : List ℕ) × (text ≡ front ++ rest) × P rest)
begins_and front P told text =
    elim (begins_so front text) [
      | inl found ↦ elim (told found.0) [
        | inl has ↦ inl (found.0, found.1, has)
        | inr lacks ↦ inr
            (λ other. lacks
            (subst P (append_cancel_left front other.0 found.0 (sym other.1 ∙ found.1))
            other.2))
      ]
      | inr none ↦ inr (λ other. none other.0 other.1)
    ]
