-- What one number more says, and how many addresses have a value then.
use Rattle.std.proofs.Common.{◌≡◌, ◌≢◌, ◌⊎◌, ◌∙◌, ◌<◌, ◌≤◌, ◌+◌, ◌==◌, ◌&&◌, ℕ, zero, suc, Bool, true, false, Option, Some, None, List, [], ◌∷◌, drop, length, refl, sym, ap, subst, inl, inr, arith, rules}
use Rattle.std.proofs.Math.Path.{fun_ext}
use Rattle.std.proofs.lemmas.Bool.{cases_eq}
use Rattle.std.proofs.lemmas.Bool.Decides.{nat_tests}
use Rattle.std.specs.Bool.{if◌then◌else◌}
use Rattle.std.specs.Option.{is_none}
use Rattle.ee_codec.specs.Words.{IsAddress}
use Rattle.ee_pages.specs.Meaning.{Map, Put, live_in, map_after}
use Rattle.ee_pages.proofs.Public.{change_counts}
use Rattle.ee_core.proofs.Public.{put-at, put-other}
use Rattle.ee_core.specs.State.{State, appended_state, formatted_state}
use Rattle.ee_shell.specs.Xcube.Element.{address_in, is_xcube_element, value_in}
use Rattle.ee_shell.specs.Xcube.Values.{latest, value_or, state_with_values, taken_state}
use Rattle.ee_shell.proofs.XcubeLemmas.Crc.{proper}

value_or-none : (held : Option ℕ) → value_or held None ≡ held
value_or-none None = refl
value_or-none (Some value) = refl

value_or-some : (held other : Option ℕ) → is_none held ≡ false → value_or held other ≡ held
value_or-some None other some = absurd (let wrong : true ≡ false = some in cc wrong)
value_or-some (Some value) other some = refl

value_or-new : (held other : Option ℕ) → held ≡ None → value_or held other ≡ other
value_or-new None other none = refl
value_or-new (Some value) other none = absurd (cc none)

pub none_or_some : (held : Option ℕ) → (held ≡ None) ⊎ (is_none held ≡ false)
none_or_some None = inl refl
none_or_some (Some value) = inr refl

-- a new store with so many used slots
abbrev pub state_at : Map → ℕ → State
state_at map fill = record formatted_state { map = map; fill = fill }

-- what an element says, if it is one
abbrev said : Bool → ℕ → ℕ → ℕ → Option ℕ
said fits named value address = if fits && named == address then Some value else None

said_apart : (fits : Bool) (named value address : ℕ) → named ≢ address
    → said fits named value address ≡ None
said_apart false named value address apart = refl
said_apart true named value address apart = grind (arith, nat_tests)

said_there : (named value address : ℕ) → named ≡ address
    → said true named value address ≡ Some value
said_there named value address same = grind (arith, nat_tests)

module _ (named value : ℕ) (map : Map) where
  -- it says nothing more of an address that has a value
  older : (fits : Bool) (address : ℕ) → is_none (map named) ≡ false
      → map address ≡ value_or (map address) (said fits named value address)
  older fits address held = elim (cases_eq named address) [
    | inl same ↦
        sym
        (value_or-some (map address) (said fits named value address)
        (subst (λ n. is_none (map n) ≡ false) same held))
    | inr apart ↦
        sym
        (ap (value_or (map address)) (said_apart fits named value address apart)
        ∙ value_or-none (map address))
  ]

  -- a further address has its value
  newer : (address : ℕ) → map named ≡ None
      → map_after (Put named value) map address ≡ value_or (map address) (said true named value address)
  newer address none = elim (cases_eq named address) [
    | inl same ↦
        put-at map named value address (sym same)
        ∙ sym
        (value_or-new (map address) (said true named value address)
        (subst (λ n. map n ≡ None) same none)
        ∙ said_there named value address same)
    | inr apart ↦
        put-other map named value address (λ e. apart (sym e))
        ∙ sym
        (ap (value_or (map address)) (said_apart true named value address apart)
        ∙ value_or-none (map address))
  ]

  abbrev next : Bool → Map
  next fits address = value_or (map address) (said fits named value address)

  -- so one address more has a value
  one_more : IsAddress named → map named ≡ None → live_in (next true) ≡ live_in map + 1
  one_more proper none =
      let same : map_after (Put named value) map ≡ next true =
      fun_ext (λ address. newer address none) in
      let counted = change_counts (Put named value) map proper in
      ap live_in (sym same) ∙ rw none at counted

  -- the state then
  abbrev taken : Bool → State
  taken fits =
      if fits && is_none (map named) then appended_state (Put named value) (state_with_values map)
      else state_with_values map

  taken_new : IsAddress named → map named ≡ None
      → appended_state (Put named value) (state_with_values map) ≡ state_with_values (next true)
  taken_new proper none =
      let same : map_after (Put named value) map ≡ next true =
      fun_ext (λ address. newer address none) in
      ap (λ (m : Map). state_at m (live_in map + 1)) same
      ∙ ap (state_at (next true)) (sym (one_more proper none))

  taken_old : (fits : Bool) → is_none (map named) ≡ false
      → state_with_values map ≡ state_with_values (next fits)
  taken_old fits held = ap state_with_values (fun_ext (λ address. older fits address held))

  -- what the store has then are the values of one number more
  taken_is : (fits : Bool) → (fits ≡ true → IsAddress named)
      → taken fits ≡ state_with_values (next fits)
  taken_is false proper =
      ap state_with_values (fun_ext (λ address. sym (value_or-none (map address))))
  taken_is true proper = elim (none_or_some (map named)) [
    | inl none ↦ rw (ap is_none none) (taken_new (proper refl) none)
    | inr held ↦ rw held (taken_old true held)
  ]

  -- and no address loses its value
  no_fewer : (fits : Bool) → (fits ≡ true → IsAddress named) → live_in map ≤ live_in (next fits)
  no_fewer false proper =
      let same : map ≡ next false = fun_ext (λ address. sym (value_or-none (map address))) in
      omega (arith, ap live_in same)
  no_fewer true proper = elim (none_or_some (map named)) [
    | inl none ↦ omega (arith, one_more (proper refl) none)
    | inr held ↦
        let same : map ≡ next true = fun_ext (λ address. older true address held) in
        omega (arith, ap live_in same)
  ]

pub one_taken : (number : ℕ) (numbers : List ℕ)
    → taken_state number (state_with_values (latest numbers))
    ≡ state_with_values (latest (number ∷ numbers))
one_taken number numbers =
    taken_is (address_in number) (value_in number) (latest numbers) (is_xcube_element number) (proper number)

pub one_new : (number : ℕ) (numbers : List ℕ) → is_xcube_element number ≡ true
    → latest numbers (address_in number) ≡ None
    → live_in (latest (number ∷ numbers)) ≡ live_in (latest numbers) + 1
one_new number numbers fits none =
    subst
    (λ fits. live_in (next (address_in number) (value_in number) (latest numbers) fits)
    ≡ live_in (latest numbers) + 1)
    (sym fits)
    (one_more (address_in number) (value_in number) (latest numbers) (proper number fits) none)

-- the numbers behind some have no more values than all
pub behind_has_fewer : (n : ℕ) (numbers : List ℕ)
    → live_in (latest (drop n numbers)) ≤ live_in (latest numbers)
behind_has_fewer zero numbers = omega arith
behind_has_fewer (suc n) [] = omega arith
behind_has_fewer (suc n) (number ∷ numbers) =
    let rest = behind_has_fewer n numbers in
    let more =
    no_fewer (address_in number) (value_in number) (latest numbers) (is_xcube_element number) (proper number) in
    omega (arith, rest, more)
