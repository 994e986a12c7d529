-- What is listed rises by address, is so, and leaves no address out.
use Rattle.std.proofs.Common.{◌≡◌, ◌∙◌, ◌≢◌, ◌⊎◌, ◌+◌, ◌<◌, ◌≤◌, ◌==◌, ℕ, zero, suc, Bool, true, false, cond, List, [], ◌∷◌, ◌++◌, Option, Some, None, map, inl, inr, refl, sym, ap, subst, arith, nat_cmp, Less, rules}
use Rattle.std.proofs.lemmas.Grind.{common_steps}
use Rattle.std.specs.List.{All, AllByRecursion, Contains}
use Rattle.std.specs.List.Sorted.{IsStrictlySortedBy}
use Rattle.std.specs.Prelude.{◌||◌, slice_get}
use Rattle.std.proofs.lemmas.Bool.{cases_eq, eqb-true}
use Rattle.std.proofs.lemmas.List.Elements.{All-append, All-cons, All-head, All-nil, All-tail, All-weaker, Contains-append_left, Contains-append_right}
use Rattle.ee_codec.specs.Words.{IsAddress}
use Rattle.ee_pages.specs.Meaning.{Map}
use Rattle.ee_settings.specs.Laws.{IsListedExact}
use Rattle.ee_settings.specs.Listing.{IsListedSo, held_by, listed_of, listed_to, named_from, named_in}
use Rattle.ee_settings.specs.Setting.{Setting, has_address}
use Rattle.ee_settings.specs.Stale.{entry_of}
use Rattle.ee_settings.specs.declared.listing.Held.TheVariants.{Value, Default}
use Rattle.ee_settings.specs.declared.listing.Listed.{Listed}
use Rattle.ee_settings.specs.declared.numbers.Numbers.{Numbers}

-- ---- the setting of an address

-- the first of the settings that has the address, by its entry, or none has
abbrev IsNamedAt : ℕ → List Setting → ℕ → Option (ℕ × Numbers) → Type 0
IsNamedAt n settings address None = has_address settings address ≡ false
IsNamedAt n settings address (Some named) =
    (k : ℕ) × (setting : Setting) × (named.0 ≡ n + k) × (slice_get settings k ≡ Some setting)
    × (setting.numbers ≡ named.1) × (setting.numbers.address ≡ address)

later : (n : ℕ) (setting : Setting) (settings : List Setting) (address : ℕ)
    (named : Option (ℕ × Numbers))
    → (setting.numbers.address == address) ≡ false → IsNamedAt (n + 1) settings address named
    → IsNamedAt n (setting ∷ settings) address named
later n setting settings address None other none =
    ap (λ (b : Bool). b || has_address settings address) other ∙ none
later n setting settings address (Some named) other h =
    (suc h.0, h.1, (let e = h.2 in omega arith), h.3, h.4, h.5)

first_or_later : (b : Bool) (n : ℕ) (setting : Setting) (settings : List Setting) (address : ℕ)
    → (setting.numbers.address == address) ≡ b
    → IsNamedAt (n + 1) settings address (named_from (n + 1) settings address)
    → IsNamedAt n (setting ∷ settings) address
    (cond b (Some (n, setting.numbers)) (named_from (n + 1) settings address))
first_or_later b n setting settings address h1 h2 = search (rules, eqb-true, later)

named_at : (n : ℕ) (settings : List Setting) (address : ℕ)
    → IsNamedAt n settings address (named_from n settings address)
named_at n [] address = refl
named_at n (setting ∷ settings) address =
    first_or_later (setting.numbers.address == address) n setting settings address refl
    (named_at (n + 1) settings address)

-- ---- what is said of one address

entry_is : (settings : List Setting) (entry k : ℕ) (setting : Setting) → entry ≡ 1 + k
    → slice_get settings k ≡ Some setting → entry_of settings entry ≡ Some setting
entry_is settings entry k setting h1 h2 = search rules

said_of : (settings : List Setting) (stored : Map) (address : ℕ) (named : Option (ℕ × Numbers))
    (value : Option ℕ)
    → IsAddress address → IsNamedAt 1 settings address named → stored address ≡ value
    → All (IsListedSo settings stored) (listed_of address named value)
said_of settings stored address named value h1 h2 h3 = search (rules, All-nil, All-cons, entry_is)

abbrev IsAt : ℕ → Listed → Type 0
IsAt address listed = listed.address ≡ address

at_address : (address : ℕ) (named : Option (ℕ × Numbers)) (value : Option ℕ)
    → All (IsAt address) (listed_of address named value)
at_address address named value = search (rules, All-nil, All-cons)

-- the address is among them
abbrev IsFound : ℕ → List Listed → Type 0
IsFound address listeds = (listed : Listed) × (listed.address ≡ address) × Contains listeds listed

found_of : (settings : List Setting) (stored : Map) (address : ℕ) (named : Option (ℕ × Numbers))
    (value : Option ℕ)
    → IsNamedAt 1 settings address named → stored address ≡ value
    → (stored address ≢ None) ⊎ (has_address settings address ≡ true)
    → IsFound address (listed_of address named value)
found_of settings stored address None None at holds (inl some) = absurd (some holds)
found_of settings stored address None None at holds (inr some) = absurd (cc (at, some))
found_of settings stored address None (Some value) at holds told =
    (record { address = address; entry = None; held = Value value }, refl, (0, omega arith, refl))
found_of settings stored address (Some named) None at holds told = (
  record { address = address; entry = Some named.0; held = Default named.1.default },
  refl,
  (0, omega arith, refl),
)
found_of settings stored address (Some named) (Some value) at holds told = (
  record { address = address; entry = Some named.0; held = held_by named.1 value },
  refl,
  (0, omega arith, refl),
)

-- ---- of all addresses up to one

said_to : (settings : List Setting) (stored : Map) (n : ℕ) → n < 65535
    → All (IsListedSo settings stored) (listed_to settings stored n)
unfolding listed_to
said_to settings stored zero few = All-nil (IsListedSo settings stored)
said_to settings stored (suc n) few =
    All-append (IsListedSo settings stored) (listed_to settings stored n)
    (listed_of (suc n) (named_in settings (suc n)) (stored (suc n)))
    (said_to settings stored n (omega (arith, few)))
    (said_of settings stored (suc n) (named_in settings (suc n)) (stored (suc n)) (omega arith, few)
    (named_at 1 settings (suc n)) refl)

found_to : (settings : List Setting) (stored : Map) (n address : ℕ) → 0 < address → address ≤ n
    → (stored address ≢ None) ⊎ (has_address settings address ≡ true)
    → IsFound address (listed_to settings stored n)
unfolding listed_to
found_to settings stored zero address some within told = absurd (omega (arith, some, within))
found_to settings stored (suc n) address some within told = elim (cases_eq address (suc n)) [
  | inl here ↦
      let last = listed_of (suc n) (named_in settings (suc n)) (stored (suc n)) in
      let found =
      found_of settings stored (suc n) (named_in settings (suc n)) (stored (suc n))
      (named_at 1 settings (suc n)) refl
      (subst (λ (a : ℕ). (stored a ≢ None) ⊎ (has_address settings a ≡ true)) here told) in (
        found.0,
        found.1 ∙ sym here,
        Contains-append_right (listed_to settings stored n) last found.0 found.2,
      )
  | inr other ↦
      let found = found_to settings stored n address some (omega (arith, within, other)) told in (
        found.0,
        found.1,
        Contains-append_left (listed_to settings stored n)
            (listed_of (suc n) (named_in settings (suc n)) (stored (suc n))) found.0 found.2,
      )
]

-- ---- rising

less_with : (n : ℕ) (listeds more : List Listed)
    → AllByRecursion (λ y. nat_cmp n y ≡ Less) (map (λ (listed : Listed). listed.address) listeds)
    → All (λ (listed : Listed). n < listed.address) more
    → AllByRecursion (λ y. nat_cmp n y ≡ Less)
    (map (λ (listed : Listed). listed.address) (listeds ++ more))
less_with n (listed ∷ listeds) more h later = (h.0, less_with n listeds more h.1 later)
less_with n [] [] h later = tt
less_with n [] (listed ∷ more) h later = search (
  rules,
  All-head,
  later,
  All-tail,
  (less_with n [] more tt (All-tail (λ (one : Listed). n < one.address) listed more later)),
)

last_rising : (address : ℕ) (named : Option (ℕ × Numbers)) (value : Option ℕ)
    → IsStrictlySortedBy nat_cmp
    (map (λ (listed : Listed). listed.address) (listed_of address named value))
unfolding IsStrictlySortedBy
last_rising address named value = search rules

rising_with : (address : ℕ) (listeds more : List Listed)
    → All (λ (listed : Listed). listed.address < address) listeds
    → IsStrictlySortedBy nat_cmp (map (λ (listed : Listed). listed.address) listeds)
    → All (IsAt address) more
    → IsStrictlySortedBy nat_cmp (map (λ (listed : Listed). listed.address) more)
    → IsStrictlySortedBy nat_cmp (map (λ (listed : Listed). listed.address) (listeds ++ more))
unfolding IsStrictlySortedBy
rising_with address [] more low rising at last = last
rising_with address (listed ∷ listeds) more low rising at last =
    let first : listed.address < address =
    All-head (λ (one : Listed). one.address < address) listed listeds low in (
      less_with listed.address listeds more rising.0
          (All-weaker (IsAt address) (λ (one : Listed). listed.address < one.address)
          (λ one is. omega (arith, first, is)) more at),
      rising_with address listeds more
          (All-tail (λ (one : Listed). one.address < address) listed listeds low) rising.1 at last,
    )

low_to : (settings : List Setting) (stored : Map) (n : ℕ)
    → All (λ (listed : Listed). listed.address < suc n) (listed_to settings stored n)
unfolding listed_to
low_to settings stored zero = All-nil (λ (listed : Listed). listed.address < 1)
low_to settings stored (suc n) = grind (arith, common_steps, at_address, (low_to settings stored n))

rising_to : (settings : List Setting) (stored : Map) (n : ℕ)
    → IsStrictlySortedBy nat_cmp
    (map (λ (listed : Listed). listed.address) (listed_to settings stored n))
unfolding listed_to IsStrictlySortedBy
rising_to settings stored zero = tt
rising_to settings stored (suc n) =
    rising_with (suc n) (listed_to settings stored n)
    (listed_of (suc n) (named_in settings (suc n)) (stored (suc n))) (low_to settings stored n)
    (rising_to settings stored n)
    (at_address (suc n) (named_in settings (suc n)) (stored (suc n)))
    (last_rising (suc n) (named_in settings (suc n)) (stored (suc n)))

pub listed_exact : (settings : List Setting) (stored : Map) → IsListedExact settings stored
listed_exact settings stored = search (rules, found_to, rising_to, said_to)
