-- Stale entries, one setting after another.
use Rattle.std.proofs.Common.{◌≡◌, ◌+◌, ◌<◌, ◌≤◌, ℕ, Bool, true, false, cond, List, [], ◌∷◌, ◌++◌, Option, Some, None, length, map, drop, get_or, refl, arith, suc, zero, nat_cmp, Less, rules}
use Rattle.std.proofs.lemmas.Grind.{common_steps}
use Rattle.std.specs.List.{All, AllByRecursion, Contains}
use Rattle.std.specs.List.Sorted.{IsStrictlySortedBy}
use Rattle.std.specs.Prelude.{slice_get}
use Rattle.std.proofs.lemmas.Bool.{cases_lt}
use Rattle.std.proofs.lemmas.Bool.Decides.{nat_tests}
use Rattle.std.proofs.lemmas.List.Elements.{All-append, All-cons, All-head, All-nil, All-tail, All-weaker, Contains-append_right}
use Rattle.std.proofs.lemmas.List.{drop_more}
use Rattle.ee_pages.specs.Meaning.{Map}
use Rattle.ee_settings.specs.Laws.{IsStaleExact}
use Rattle.ee_settings.specs.Setting.{IsInRange, Setting, is_in_range}
use Rattle.ee_settings.specs.Stale.{IsStale, entry_of, stale_at, stale_from, stale_in}
use Rattle.ee_settings.specs.declared.numbers.Numbers.{Numbers}
use Rattle.ee_settings.specs.declared.stale.Stale.{Stale}

pub one_further : (stored : Map) (settings : List Setting) (n : ℕ) (setting : Setting)
    (numbers : Numbers) (value : Option ℕ) (before after all : List Stale)
    → n < length settings → setting ≡ get_or settings n setting → numbers ≡ setting.numbers
    → value ≡ stored numbers.address → after ≡ before ++ stale_at (n + 1) numbers value
    → before ++ stale_from (n + 1) stored (drop n settings) ≡ all
    → after ++ stale_from (n + 1 + 1) stored (drop (n + 1) settings) ≡ all
one_further stored settings n setting numbers value before after all inside here same found pushed
    so_far =
    grind (arith, common_steps, drop_more)

-- stale entries are entries
pub stale_within : (stored : Map) (settings : List Setting) (n : ℕ)
    → All (λ (stale : Stale). (n ≤ stale.entry) × (stale.entry < n + length settings))
    (stale_from n stored settings)
stale_within stored [] n = All-nil (λ (stale : Stale). (n ≤ stale.entry) × (stale.entry < n + 0))
stale_within stored (setting ∷ settings) n = search (rules, (stale_within stored settings (n + 1)))

-- ---- exactly those

not_in_range : (numbers : Numbers) (value : ℕ) → is_in_range numbers value ≡ false
    → ¬ IsInRange numbers value
not_in_range numbers value test within = let low = within.0 in
    let high = within.1 in grind (arith, nat_tests)

out_of_range : (numbers : Numbers) (value : ℕ) → ¬ IsInRange numbers value
    → is_in_range numbers value ≡ false
out_of_range numbers value outside = search (rules, cases_lt, nat_tests)

-- the setting at this place of the list is the entry, and it is stale
abbrev IsStaleAt : ℕ → Map → List Setting → Stale → Type 0
IsStaleAt n stored settings stale =
    (k : ℕ) × (setting : Setting) × (stale.entry ≡ n + k) × (slice_get settings k ≡ Some setting)
    × (stored setting.numbers.address ≡ Some stale.value) × ¬ IsInRange setting.numbers stale.value

first_stale : (n : ℕ) (stored : Map) (setting : Setting) (settings : List Setting)
    (value : Option ℕ)
    → stored setting.numbers.address ≡ value
    → All (IsStaleAt n stored (setting ∷ settings)) (stale_at n setting.numbers value)
first_stale n stored setting settings value h1 = search (rules, All-nil, All-cons, not_in_range)

one_later : (n : ℕ) (stored : Map) (setting : Setting) (settings : List Setting) (stale : Stale)
    → IsStaleAt (n + 1) stored settings stale → IsStaleAt n stored (setting ∷ settings) stale
one_later n stored setting settings stale h =
    (suc h.0, h.1, (let e = h.2 in omega arith), h.3, h.4, h.5)

all_stale : (n : ℕ) (stored : Map) (settings : List Setting)
    → All (IsStaleAt n stored settings) (stale_from n stored settings)
all_stale n stored [] = All-nil (IsStaleAt n stored [])
all_stale n stored (setting ∷ settings) =
    All-append (IsStaleAt n stored (setting ∷ settings))
    (stale_at n setting.numbers (stored setting.numbers.address))
    (stale_from (n + 1) stored settings)
    (first_stale n stored setting settings (stored setting.numbers.address) refl)
    (All-weaker (IsStaleAt (n + 1) stored settings) (IsStaleAt n stored (setting ∷ settings))
    (one_later n stored setting settings) (stale_from (n + 1) stored settings)
    (all_stale (n + 1) stored settings))

from_first : (settings : List Setting) (stored : Map) (stale : Stale)
    → IsStaleAt 1 stored settings stale → IsStale settings stored stale
from_first settings stored stale h = search rules

told_here : (n value : ℕ) (numbers : Numbers) (stored : Option ℕ) → stored ≡ Some value
    → is_in_range numbers value ≡ false
    → stale_at n numbers stored ≡ record { entry = n; value = value } ∷ []
told_here n value numbers stored is out = rw (is, out) refl

told : (n k value : ℕ) (stored : Map) (settings : List Setting) (setting : Setting)
    → slice_get settings k ≡ Some setting → stored setting.numbers.address ≡ Some value
    → is_in_range setting.numbers value ≡ false
    → Contains (stale_from n stored settings) (record { entry = n + k; value = value })
told n k value stored [] setting here is out =
    absurd (let wrong : ◌≡◌ {A = Option Setting} None (Some setting) = here in cc wrong)
told n zero value stored (first ∷ settings) setting here is out = search (rules, told_here)
told n (suc k) value stored (first ∷ settings) setting here is out =
    search (
      rules,
      Contains-append_right,
      (told (n + 1) k value stored settings setting here is out),
    )

told_entry : (entry value : ℕ) (stored : Map) (settings : List Setting) (setting : Setting)
    → entry_of settings entry ≡ Some setting → stored setting.numbers.address ≡ Some value
    → is_in_range setting.numbers value ≡ false
    → Contains (stale_in stored settings) (record { entry = entry; value = value })
told_entry zero value stored settings setting here is out =
    absurd (let wrong : ◌≡◌ {A = Option Setting} None (Some setting) = here in cc wrong)
told_entry (suc k) value stored settings setting here is out =
    let e : suc k ≡ 1 + k = omega arith in
    rw e (told 1 k value stored settings setting here is out)

-- ---- rising

entry_less : (n : ℕ) (stales : List Stale) → All (λ (stale : Stale). n < stale.entry) stales
    → AllByRecursion (λ y. nat_cmp n y ≡ Less) (map (λ (stale : Stale). stale.entry) stales)
entry_less n [] later = tt
entry_less n (stale ∷ stales) later = search (
  rules,
  All-head,
  All-tail,
  (entry_less n stales (All-tail (λ (s : Stale). n < s.entry) stale stales later)),
)

rising_with : (n : ℕ) (numbers : Numbers) (value : Option ℕ) (rest : List Stale)
    → All (λ (stale : Stale). n < stale.entry) rest
    → IsStrictlySortedBy nat_cmp (map (λ (stale : Stale). stale.entry) rest)
    → IsStrictlySortedBy nat_cmp
    (map (λ (stale : Stale). stale.entry) (stale_at n numbers value ++ rest))
unfolding IsStrictlySortedBy
rising_with n numbers None rest later rising = rising
rising_with n numbers (Some value) rest later rising = by_test (is_in_range numbers value)
  where
    by_test : (b : Bool)
        → IsStrictlySortedBy nat_cmp
        (map (λ (stale : Stale). stale.entry)
        (cond b [] (record { entry = n; value = value } ∷ []) ++ rest))
    by_test true = rising
    by_test false = (entry_less n rest later, rising)

rising_from : (n : ℕ) (stored : Map) (settings : List Setting)
    → IsStrictlySortedBy nat_cmp
    (map (λ (stale : Stale). stale.entry) (stale_from n stored settings))
unfolding IsStrictlySortedBy
rising_from n stored [] = tt
rising_from n stored (setting ∷ settings) =
    search (rules, rising_with, All-weaker, stale_within, (rising_from (n + 1) stored settings))

pub stale_exact : (settings : List Setting) (stored : Map) → IsStaleExact settings stored
stale_exact settings stored = record {
  rising = rising_from 1 stored settings;
  each = All-weaker (IsStaleAt 1 stored settings) (IsStale settings stored)
      (from_first settings stored) (stale_in stored settings) (all_stale 1 stored settings);
  all = λ stale is. told_entry stale.entry stale.value stored settings is.0 is.1 is.2
      (out_of_range is.0.numbers stale.value is.3);
}
