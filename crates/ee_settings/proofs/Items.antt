-- Settings and records as the items of a file: which of them has an address, and one more of them.
use Rattle.std.proofs.Common.{◌≡◌, ◌∙◌, ◌+◌, ◌<◌, ℕ, Bool, true, List, [], ◌∷◌, ◌++◌, length, map, refl, sym, ap, inl, inr, arith, suc, zero, nat_cmp, Less, rules}
use Rattle.std.specs.Prelude.{◌==◌, ◌||◌}
use Rattle.std.proofs.lemmas.Bool.{eq-eqb}
use Rattle.std.proofs.lemmas.List.Elements.{Contains-push_cases}
use Rattle.std.proofs.lemmas.List.Folds.{list_any_at}
use Rattle.std.specs.Cmp.Lexicographic.{slice_cmp}
use Rattle.std.specs.List.{AllByRecursion, Contains, list_any}
use Rattle.std.specs.List.Sorted.{IsStrictlySortedBy}
use Rattle.ee_settings.specs.File.{numbers_in, records_in}
use Rattle.ee_settings.specs.Setting.{HaveApartAddresses, HaveOwnAddresses, HaveRisingNames, Item, Kept, Number, RecordSetting, Schema, Setting, has_address, has_record_at, is_named, is_of, item_has, name_of_item, with_item}

-- ---- which address is whose

-- one of the items has the address
abbrev pub items_have : List Item → ℕ → Bool
items_have items address = list_any (λ item. item_has item address) items

or_later : (a b c : Bool) → ((a || b) || c) ≡ (a || (b || c))
or_later a b c = search rules

or_swapped : (a b c : Bool) → (a || (b || c)) ≡ (b || (a || c))
or_swapped a b c = search rules

items_named : (items : List Item) (address : ℕ)
    → (has_address (numbers_in items) address || has_record_at (records_in items) address)
    ≡ items_have items address
items_named [] address = refl
items_named (Number setting ∷ items) address =
    or_later (setting.numbers.address == address) (has_address (numbers_in items) address)
    (has_record_at (records_in items) address)
    ∙ ap (λ (b : Bool). (setting.numbers.address == address) || b) (items_named items address)
items_named (Kept one ∷ items) address =
    or_swapped (has_address (numbers_in items) address) (is_of one.form address)
    (has_record_at (records_in items) address)
    ∙ ap (λ (b : Bool). is_of one.form address || b) (items_named items address)

pub named_by : (schema : Schema) (items : List Item) (address : ℕ)
    → schema.settings ≡ numbers_in items → schema.records ≡ records_in items
    → is_named schema address ≡ items_have items address
named_by schema items address e f = rw (e, f) (items_named items address)

pub had_by : (items : List Item) (item : Item) (address : ℕ) → Contains items item
    → item_has item address ≡ true → items_have items address ≡ true
had_by items item address inside has =
    list_any_at (λ one. item_has one address) items inside.0 item inside.1
    (ap (λ (one : Item). item_has one address) inside.2 ∙ has)

pub setting_has : (settings : List Setting) (setting : Setting) → Contains settings setting
    → has_address settings setting.numbers.address ≡ true
setting_has settings setting inside =
    list_any_at (λ (one : Setting). one.numbers.address == setting.numbers.address) settings
    inside.0 setting inside.1
    (eq-eqb _ _ (ap (λ (one : Setting). one.numbers.address) inside.2))

-- ---- one more

pub apart_more : (items : List Item) (item : Item) → HaveApartAddresses items
    → ((address : ℕ) → item_has item address ≡ true → ¬ (items_have items address ≡ true))
    → HaveApartAddresses (items ++ item ∷ [])
apart_more items item own free one other first second address has_one has_other =
    elim (Contains-push_cases items item one first) [
      | inl a ↦ elim (Contains-push_cases items item other second) [
        | inl b ↦ own one other a b address has_one has_other
        | inr b ↦ absurd
            (free address (ap (λ (i : Item). item_has i address) b ∙ has_other)
            (had_by items one address a has_one))
      ]
      | inr a ↦ elim (Contains-push_cases items item other second) [
        | inl b ↦ absurd
            (free address (ap (λ (i : Item). item_has i address) a ∙ has_one)
            (had_by items other address b has_other))
        | inr b ↦ sym a ∙ b
      ]
    ]

numbers_more : (items : List Item) (setting : Setting)
    → numbers_in (items ++ Number setting ∷ []) ≡ numbers_in items ++ setting ∷ []
numbers_more [] setting = refl
numbers_more (Number s ∷ items) setting = ap (λ l. s ∷ l) (numbers_more items setting)
numbers_more (Kept one ∷ items) setting = numbers_more items setting

numbers_same : (items : List Item) (one : RecordSetting)
    → numbers_in (items ++ Kept one ∷ []) ≡ numbers_in items
numbers_same [] one = refl
numbers_same (Number s ∷ items) one = ap (λ l. s ∷ l) (numbers_same items one)
numbers_same (Kept r ∷ items) one = numbers_same items one

records_more : (items : List Item) (one : RecordSetting)
    → records_in (items ++ Kept one ∷ []) ≡ records_in items ++ one ∷ []
records_more [] one = refl
records_more (Number s ∷ items) one = records_more items one
records_more (Kept r ∷ items) one = ap (λ l. r ∷ l) (records_more items one)

records_same : (items : List Item) (setting : Setting)
    → records_in (items ++ Number setting ∷ []) ≡ records_in items
records_same [] setting = refl
records_same (Number s ∷ items) setting = records_same items setting
records_same (Kept r ∷ items) setting = ap (λ l. r ∷ l) (records_same items setting)

pub settings_with : (schema : Schema) (item : Item) (items : List Item)
    → schema.settings ≡ numbers_in items
    → (with_item schema item).settings ≡ numbers_in (items ++ item ∷ [])
settings_with schema (Number s) items e = ap (λ l. l ++ s ∷ []) e ∙ sym (numbers_more items s)
settings_with schema (Kept one) items e = e ∙ sym (numbers_same items one)

pub records_with : (schema : Schema) (item : Item) (items : List Item)
    → schema.records ≡ records_in items
    → (with_item schema item).records ≡ records_in (items ++ item ∷ [])
records_with schema (Number s) items e = e ∙ sym (records_same items s)
records_with schema (Kept one) items e = ap (λ l. l ++ one ∷ []) e ∙ sym (records_more items one)

pub all_counted : (items : List Item)
    → length (numbers_in items) + length (records_in items) ≡ length items
all_counted [] = refl
all_counted (Number s ∷ items) =
    let n = length (numbers_in items) in
    let r = length (records_in items) in
    let e : suc n + r ≡ suc (n + r) = omega arith in e ∙ ap suc (all_counted items)
all_counted (Kept one ∷ items) =
    let rest = all_counted items in
    let n = length (numbers_in items) in
    let r = length (records_in items) in
    let e : n + suc r ≡ suc (n + r) = omega arith in e ∙ ap suc rest

-- ---- the settings among the items

pub item_of_setting : (items : List Item) (setting : Setting)
    → Contains (numbers_in items) setting → Contains items (Number setting)
item_of_setting [] setting inside = absurd (let h : inside.0 < 0 = inside.1 in omega arith)
item_of_setting (Kept one ∷ items) setting inside =
    let found = item_of_setting items setting inside in
    (suc found.0, (let h : found.0 < length items = found.1 in omega arith), found.2)
item_of_setting (Number s ∷ items) setting (zero, inside, here) =
    (0, omega arith, ap Number here)
item_of_setting (Number s ∷ items) setting (suc k, inside, here) =
    let found = item_of_setting items setting (k, omega (arith, inside), here) in
    (suc found.0, (let h : found.0 < length items = found.1 in omega arith), found.2)

same_setting : (one other : Setting) → Number one ≡ Number other → one ≡ other
same_setting one other e = cc

pub settings_apart : (items : List Item) → HaveApartAddresses items → HaveOwnAddresses (numbers_in items)
settings_apart items apart one other first second same =
    same_setting one other
    (apart (Number one) (Number other) (item_of_setting items one first)
    (item_of_setting items other second) one.numbers.address (eq-eqb _ _ refl)
    (eq-eqb _ _ (sym same)))

below_settings : (name : List ℕ) (items : List Item)
    → AllByRecursion (λ y. slice_cmp nat_cmp name y ≡ Less) (map name_of_item items)
    → AllByRecursion (λ y. slice_cmp nat_cmp name y ≡ Less)
    (map (λ (s : Setting). s.name) (numbers_in items))
below_settings name [] h = tt
below_settings name (Number s ∷ items) h = (h.0, below_settings name items h.1)
below_settings name (Kept one ∷ items) h = below_settings name items h.1

pub settings_rise : (items : List Item)
    → IsStrictlySortedBy (slice_cmp nat_cmp) (map name_of_item items)
    → HaveRisingNames (numbers_in items)
unfolding IsStrictlySortedBy
settings_rise [] h = tt
settings_rise (Number s ∷ items) h = (below_settings s.name items h.0, settings_rise items h.1)
settings_rise (Kept one ∷ items) h = settings_rise items h.1
