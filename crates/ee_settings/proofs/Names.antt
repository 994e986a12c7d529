-- The names of a table's entries rise, so a name is that of one setting.
use Rattle.std.proofs.Common.{◌≡◌, ◌≢◌, ◌∙◌, ◌<◌, ℕ, List, [], ◌∷◌, length, get_or, map, refl, ap, sym, subst, String, Global, string_bytes, Less, nat_cmp, arith, rules}
use Rattle.std.proofs.lemmas.Grind.{common_steps}
use Rattle.std.proofs.lemmas.Bool.{cases_lt}
use Rattle.std.proofs.lemmas.Cmp.{nat_list_cmp_total}
use Rattle.std.proofs.Math.ListN.{get_or-map}
use Rattle.std.proofs.lemmas.List.{get_or_default, length-map}
use Rattle.std.proofs.lemmas.Map.Keys.{Less-from_sorted}
use Rattle.std.specs.Cmp.Lexicographic.{slice_cmp}
use Rattle.std.specs.List.{AllByRecursion, Contains}
use Rattle.std.specs.List.Sorted.{IsStrictlySortedBy}
use Rattle.std.specs.Map.{keys_of}
use Rattle.std.specs.String.{string_cmp}
use Rattle.toml.specs.View.{members_view}
use Rattle.toml.specs.declared.value.Value.{Value}
use Rattle.ee_settings.proofs.Trees.{entries_seen, seen}
use Rattle.ee_settings.proofs.Items.{settings_rise}
use Rattle.ee_settings.specs.File.{AreEntriesOf, Entry, HaveRisingKeys, entries_of, numbers_in}
use Rattle.ee_settings.specs.Setting.{HaveRisingNames, Item, Kept, Number, Setting, name_of_item}

below_bytes : (k : String Global) (ks : List (String Global))
    → AllByRecursion (λ y. string_cmp k y ≡ Less) ks
    → AllByRecursion (λ y. slice_cmp nat_cmp (string_bytes k) y ≡ Less) (map string_bytes ks)
below_bytes k [] h = tt
below_bytes k (y ∷ ys) h = (h.0, below_bytes k ys h.1)

rising_bytes : (ks : List (String Global)) → IsStrictlySortedBy string_cmp ks
    → IsStrictlySortedBy (slice_cmp nat_cmp) (map string_bytes ks)
unfolding IsStrictlySortedBy
rising_bytes [] h = tt
rising_bytes (k ∷ ks) h = (below_bytes k ks h.0, rising_bytes ks h.1)

pub names_as_entries : (entries : List Entry) (items : List Item)
    → AreEntriesOf entries items → map name_of_item items ≡ map (λ e. e.0) entries
names_as_entries [] [] h = refl
names_as_entries [] (i ∷ items) h = absurd h
names_as_entries (e ∷ entries) [] h = absurd h
names_as_entries (e ∷ entries) (Number s ∷ items) h =
    rw (h.0.name, names_as_entries entries items h.1)
names_as_entries (e ∷ entries) (Kept one ∷ items) h =
    rw (h.0.name, names_as_entries entries items h.1)

entry_names : (es : List (String Global × Value))
    → map (λ (e : Entry). e.0) (map seen es) ≡ map string_bytes (keys_of es)
entry_names [] = refl
entry_names (e ∷ es) = ap (λ names. string_bytes e.0 ∷ names) (entry_names es)

-- the keys of a table rise
pub rising_keys : (es : List (String Global × Value)) → IsStrictlySortedBy string_cmp (keys_of es)
    → HaveRisingKeys (entries_of (members_view es))
rising_keys es sorted =
    subst (IsStrictlySortedBy (slice_cmp nat_cmp))
    (sym (ap (map (λ (e : Entry). e.0)) (entries_seen es) ∙ entry_names es))
    (rising_bytes (keys_of es) sorted)

pub rising_names : (es : List (String Global × Value)) (items : List Item)
    → AreEntriesOf (map seen es) items → IsStrictlySortedBy string_cmp (keys_of es)
    → HaveRisingNames (numbers_in items)
rising_names es items each sorted =
    settings_rise items (subst (IsStrictlySortedBy (slice_cmp nat_cmp))
    (sym (names_as_entries (map seen es) items each ∙ entry_names es))
    (rising_bytes (keys_of es) sorted))

name_at : {T : Type 0} (name : T → List ℕ) (items : List T) (one : T) (i : ℕ) (d : List ℕ)
    → i < length items → get_or items i one ≡ one → get_or (map name items) i d ≡ name one
name_at name items one i d inside at =
    grind (arith, common_steps, get_or-map, get_or_default, length-map)

pub never_equal : (a b : List ℕ) → slice_cmp nat_cmp a b ≡ Less → a ≢ b
never_equal a b less e = search (rules, nat_list_cmp_total)

pub later_differs : {T : Type 0} (name : T → List ℕ) (items : List T)
    → IsStrictlySortedBy (slice_cmp nat_cmp) (map name items)
    → (one other : T) (i j : ℕ) → i < j → j < length items → get_or items i one ≡ one
    → get_or items j other ≡ other → name one ≢ name other
later_differs name items rising one other i j less inside at_one at_other =
    let within : j < length (map name items) = rw (length-map items name) inside in
    let first : i < length items = omega arith in
    let order =
    Less-from_sorted (slice_cmp nat_cmp) (map name items) i j [] rising less within in
    never_equal (name one) (name other)
    (rw (name_at name items one i [] first at_one, name_at name items other j [] inside at_other) at
    order)

differs : (settings : List Setting) → HaveRisingNames settings
    → (one other : Setting) (i j : ℕ) → i < j → j < length settings → get_or settings i one ≡ one
    → get_or settings j other ≡ other → one.name ≢ other.name
differs settings rising one other i j less inside at_one at_other =
    later_differs (λ (s : Setting). s.name) settings rising one other i j less inside at_one at_other

pub names_apart : (settings : List Setting) → HaveRisingNames settings → (one other : Setting)
    → Contains settings one → Contains settings other → one.name ≡ other.name → one ≡ other
names_apart settings rising one other first second same =
    search (rules, cases_lt, get_or_default, differs)
