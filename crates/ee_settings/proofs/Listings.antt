-- What a store holds, address by address.
use Rattle.std.proofs.Common.{◌≡◌, ◌∙◌, ◌<◌, ◌≤◌, ◌+◌, ◌-◌, ◌==◌, ℕ, Bool, cond, Option, Some, None, List, [], ◌∷◌, ◌++◌, append-nil, length, drop, get_or, refl, sym, ap, inl, inr, arith, nat_cmp, rules, suc, zero}
use Rattle.std.proofs.lemmas.Bool.{cases_lt}
use Rattle.std.proofs.Math.Path.{fun_ext}
use Rattle.std.proofs.lemmas.List.{drop_more}
use Rattle.std.specs.BTreeMap.{BTreeMap, Updates, get}
use Rattle.ee_pages.specs.Meaning.{Map}
use Rattle.ee_settings.proofs.Addresses.{at_is}
use Rattle.ee_settings.proofs.Merging.{AreEntriesFrom, IsLowest, first_found, left_above, left_behind, none_below, none_lower}
use Rattle.ee_settings.specs.Listing.{behind_at, first_address, first_at, lower_of, listed_of, listed_to, named_from, named_in}
use Rattle.ee_settings.specs.Setting.{Setting}
use Rattle.ee_settings.specs.declared.listing.Listed.{Listed}
use Rattle.ee_settings.specs.declared.numbers.Numbers.{Numbers}

one_named : (old new : BTreeMap ℕ (ℕ × Numbers)) (entry : ℕ) (setting : Setting)
    (rest : List Setting)
    → Updates nat_cmp old new setting.numbers.address (Some (entry, setting.numbers))
    → get nat_cmp old ≡ named_from (entry + 1) rest
    → get nat_cmp new ≡ named_from entry (setting ∷ rest)
one_named old new entry setting rest updates so_far = fun_ext (λ q.
    updates.0 q
    ∙ ap (λ (b : Bool). cond b (Some (entry, setting.numbers)) (get nat_cmp old q))
    (at_is setting.numbers.address q)
    ∙ ap
    (λ (named : ℕ → Option (ℕ × Numbers)).
    cond (setting.numbers.address == q) (Some (entry, setting.numbers)) (named q)) so_far)

-- from the entries behind one to those from it on
pub named_before : (settings : List Setting) (n : ℕ) (setting : Setting) (numbers : Numbers)
    (old new : BTreeMap ℕ (ℕ × Numbers))
    → n < length settings → setting ≡ get_or settings n setting → numbers ≡ setting.numbers
    → Updates nat_cmp old new numbers.address (Some (n + 1, numbers))
    → get nat_cmp old ≡ named_from (n + 1 + 1) (drop (n + 1) settings)
    → get nat_cmp new ≡ named_from (n + 1) (drop n settings)
named_before settings n setting numbers old new inside here same updates so_far =
    let split : drop n settings ≡ setting ∷ drop (n + 1) settings =
    drop_more settings n setting inside
    ∙ ap (λ (s : Setting). s ∷ drop (n + 1) settings) (sym here) in
    rw split
    (one_named old new (n + 1) setting (drop (n + 1) settings) (rw (sym same) updates) so_far)

pub none_listed : (settings : List Setting) (map : Map) → listed_to settings map 0 ≡ []
unfolding listed_to
none_listed settings map = refl

next_listed : (settings : List Setting) (map : Map) (n : ℕ)
    → listed_to settings map (suc n)
    ≡ listed_to settings map n ++ listed_of (suc n) (named_in settings (suc n)) (map (suc n))
unfolding listed_to
next_listed settings map n = refl

-- one address further
pub listed_further : (settings : List Setting) (map : Map) (number : ℕ) (before after : List Listed)
    (named : Option (ℕ × Numbers)) (value : Option ℕ)
    → 1 ≤ number → before ≡ listed_to settings map (number - 1) → named ≡ named_in settings number
    → value ≡ map number → after ≡ before ++ listed_of number named value
    → after ≡ listed_to settings map (number + 1 - 1)
listed_further settings map zero before after named value some so_far found holds pushed =
    absurd (let wrong : 1 ≤ 0 = some in omega arith)
listed_further settings map (suc n) before after named value some so_far found holds pushed =
    let last : suc n + 1 - 1 ≡ suc n = omega arith in
    let below : suc n - 1 ≡ n = omega arith in
    let was : before ≡ listed_to settings map n = so_far ∙ ap (listed_to settings map) below in
    rw last (pushed ∙ rw (was, found, holds) (sym (next_listed settings map n)))

-- ---- by what is left of the settings and of the values

-- addresses that have neither a setting nor a value add nothing
nothing_added : (settings : List Setting) (map : Map) (last next : ℕ) → last ≤ next
    → ((address : ℕ) → last < address → address ≤ next → named_in settings address ≡ None)
    → ((address : ℕ) → last < address → address ≤ next → map address ≡ None)
    → listed_to settings map last ≡ listed_to settings map next
nothing_added settings map last zero low unnamed free = ap (listed_to settings map) (omega arith)
nothing_added settings map last (suc n) low unnamed free = elim (cases_lt last (suc n)) [
  | inl less ↦
      let here : listed_of (suc n) (named_in settings (suc n)) (map (suc n)) ≡ [] =
      rw (unnamed (suc n) less (omega arith), free (suc n) less (omega arith)) refl in
      nothing_added settings map last n (omega (arith, less)) (search (rules, unnamed))
      (search (rules, free))
      ∙ sym
      (next_listed settings map n
      ∙ ap (λ (more : List Listed). listed_to settings map n ++ more) here
      ∙ append-nil (listed_to settings map n))
  | inr other ↦ ap (listed_to settings map) (omega (arith, low, other))
]

-- what there is to say of the addresses below one is listed, and from it on these entries are left
pub record IsListedFrom (settings : List Setting) (map : Map) (listed : List Listed)
    (names : List (ℕ × (ℕ × Numbers))) (values : List (ℕ × ℕ)) : Type 0 where
  pub from : ℕ
  pub within : from ≤ 65535
  pub so_far : listed ≡ listed_to settings map (from - 1)
  pub names_left : AreEntriesFrom (named_in settings) from names
  pub values_left : AreEntriesFrom map from values

module _ (settings : List Setting) (map : Map) (listed : List Listed)
    (names : List (ℕ × (ℕ × Numbers))) (values : List (ℕ × ℕ))
    (so_far : IsListedFrom settings map listed names values) where
  pub all_listed : lower_of (first_address names) (first_address values) ≡ None
      → listed ≡ listed_to settings map 65534
  all_listed none = search (rules, none_lower, nothing_added)

  pub one_listed : (address : ℕ) (all : List Listed) → IsLowest address names values → 0 < address
      → address < 65535
      → all ≡ listed ++ listed_of address (first_at address names) (first_at address values)
      → IsListedFrom settings map all (behind_at address names) (behind_at address values)
  one_listed address all least some low pushed =
      let from = so_far.from in
      let above : from ≤ address = search (rules, left_above, least.above) in
      let below : listed ≡ listed_to settings map (address - 1) =
      so_far.so_far
      ∙ nothing_added settings map (from - 1) (address - 1) (omega arith)
      (search (rules, none_below)) (search (rules, none_below)) in record {
        from = address + 1;
        within = omega arith;
        so_far =
            listed_further settings map address listed all (first_at address names)
            (first_at address values) some below (search (rules, first_found))
            (search (rules, first_found)) pushed;
        names_left = search (rules, left_behind);
        values_left = search (rules, left_behind);
      }
