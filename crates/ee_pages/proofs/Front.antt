-- The slots before the first erased one.
use Rattle.std.proofs.Common.{◌≡◌, inl, inr, ℕ, ◌+◌, ◌-◌, ◌<◌, ◌≤◌, Bool, true, false, cond, List, [], ◌∷◌, length, get_or, refl, subst, arith, suc}
use Rattle.std.specs.List.{filter, prefix_len}
use Rattle.std.proofs.lemmas.Bool.{cases_lt}

module _ {X : Type 0} (p : X → Bool) (d : X) where
  -- a stretch further of elements that pass
  pub passes_on : (xs : List X) (from more : ℕ) → ((k : ℕ) → k < from → p (get_or xs k d) ≡ true)
      → ((k : ℕ) → k < more → p (get_or xs (from + k) d) ≡ true) → (k : ℕ) → k < from + more
      → p (get_or xs k d) ≡ true
  passes_on xs from more each further k h = elim (cases_lt k from) [
    | inl less ↦ each k less
    | inr behind ↦
        let at : from + (k - from) ≡ k = omega arith in
        subst (λ n. p (get_or xs n d) ≡ true) at (further (k - from) (omega arith))
  ]

  pub none_of : (xs : List X) → ((k : ℕ) → p (get_or xs k d) ≡ false) → length (filter p xs) ≡ 0
  none_of [] each = refl
  none_of (x ∷ xs) each = rw (each 0) (none_of xs (λ k. each (suc k)))

  one_more : (b : Bool) (x : X) (ys : List X) (n : ℕ) → (b ≡ true → length ys ≡ n)
      → (b ≡ false → length ys ≡ 0) → length (cond b (x ∷ ys) ys) ≡ cond b (1 + n) 0
  one_more true x ys n passes fails = let e = passes refl in omega arith
  one_more false x ys n passes fails = fails refl

  -- where nothing behind the first that fails passes, as many pass as stand before it
  pub filter_front : (xs : List X) → ((k : ℕ) → prefix_len p xs ≤ k → p (get_or xs k d) ≡ false)
      → length (filter p xs) ≡ prefix_len p xs
  filter_front [] behind = refl
  filter_front (x ∷ xs) behind = one_more (p x) x (filter p xs) (prefix_len p xs)
      (λ passes. filter_front xs (λ k h. behind (suc k) (rw passes (omega arith))))
      (λ fails. none_of xs (λ k. behind (suc k) (rw fails (omega arith))))
