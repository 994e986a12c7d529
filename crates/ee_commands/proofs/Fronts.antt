-- One clean step after another erases a front of the pages that wait, and at last all of them.
use Rattle.std.proofs.Common.{◌≡◌, ◌∙◌, ℕ, ◌++◌, sym, List, [], ◌∷◌, ap, refl, subst}
use Rattle.std.proofs.lemmas.List.{append-nil, append_assoc, nil_from_length}
use Rattle.ee_flash.specs.Device.{Device}
use Rattle.ee_core.specs.Calls.{ErasesLowest}
use Rattle.ee_core.specs.State.{Wears, pending_pages, state_of}
use Rattle.ee_core.proofs.Public.{length-pending_pages, wears_both, wears_none}

-- a front of the pages that waited was erased, and the others wait
pub record ErasesFront (old new : Device) : Type 0 where
  pub front : List ℕ
  pub waited : pending_pages old ≡ front ++ pending_pages new
  pub wears : Wears front old new

pub front_none : (device : Device) → ErasesFront device device
front_none device = record { front = []; waited = refl; wears = wears_none device device refl }

pub front_more : (old mid new : Device) → ErasesFront old mid → ErasesLowest mid new
    → ErasesFront old new
front_more old mid new some one = record {
  front = some.front ++ one.page ∷ [];
  waited =
      some.waited ∙ ap (λ list. some.front ++ list) one.waited
      ∙ sym (append_assoc some.front (one.page ∷ []) (pending_pages new));
  wears = wears_both some.front (one.page ∷ []) old mid new some.wears one.wear;
}

pub front_all : (old new : Device) → ErasesFront old new → (state_of new).pending ≡ 0
    → Wears (pending_pages old) old new
front_all old new some none =
    let rest : pending_pages new ≡ [] =
    nil_from_length (pending_pages new) (length-pending_pages new ∙ none) in
    let all : pending_pages old ≡ some.front =
    some.waited ∙ ap (λ list. some.front ++ list) rest ∙ append-nil some.front in
    subst (λ (pages : List ℕ). Wears pages old new) (sym all) some.wears
