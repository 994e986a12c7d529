-- A table whose names rise has one first fault.
use Rattle.std.proofs.Common.{◌≡◌, ◌≢◌, ◌∙◌, ◌<◌, ◌+◌, ℕ, List, [], ◌∷◌, ◌++◌, length, map, refl, ap, sym, subst, inl, inr, arith, Err, Less, Ordering, rules}
use Rattle.std.proofs.lemmas.Bool.{cases_lt}
use Rattle.std.proofs.lemmas.List.{map-append}
use Rattle.std.specs.List.{AllByRecursion}
use Rattle.std.specs.List.Sorted.{IsStrictlySortedBy}
use Rattle.toml.specs.Data.{Members}
use Rattle.ee_settings.proofs.Names.{names_as_entries}
use Rattle.ee_settings.proofs.Once.{Rise, breaks_none, entries_once, good_field, good_name, good_range, never_both, schema_once, split_items}
use Rattle.ee_settings.specs.File.{Address, AreEntriesOf, BreaksFirst, Entry, Field, GivesSchema, HaveRisingKeys, IsFirstFault, IsSchemaOf, Name, Range, Rule, entries_of, numbers_in, records_in}
use Rattle.ee_settings.specs.Setting.{HaveApartAddresses, Item, Schema, name_of_item}
use Rattle.ee_settings.specs.declared.fault.SchemaFault.{SchemaFault}
use Rattle.ee_settings.specs.declared.fault.SchemaFault.TheVariants as fault

all_front : {K : Type 0} (P : K → Type 0) (xs ys : List K) → AllByRecursion P (xs ++ ys)
    → AllByRecursion P xs
all_front P [] ys h = tt
all_front P (x ∷ xs) ys h = (h.0, all_front P xs ys h.1)

rising_front : {K : Type 0} (c : K → K → Ordering) (xs ys : List K)
    → IsStrictlySortedBy c (xs ++ ys) → IsStrictlySortedBy c xs
unfolding IsStrictlySortedBy
rising_front c [] ys h = tt
rising_front c (x ∷ xs) ys h = (all_front (λ y. c x y ≡ Less) xs ys h.0, rising_front c xs ys h.1)

-- the items before a fault have rising names
front_rises : (entries before : List Entry) (entry : Entry) (after : List Entry)
    (items : List Item)
    → HaveRisingKeys entries → entries ≡ before ++ entry ∷ after
    → map name_of_item items ≡ map (λ e. e.0) before → Rise items
front_rises entries before entry after items rising split names =
    search (rules, map-append, rising_front)

same_head : (x y : Entry) (xs ys : List Entry) → x ∷ xs ≡ y ∷ ys → x ≡ y
same_head x y xs ys h = cc

same_tail : (x y : Entry) (xs ys : List Entry) → x ∷ xs ≡ y ∷ ys → xs ≡ ys
same_tail x y xs ys h = cc

-- two places in a list of entries, of which one is the earlier
longer_front : (before other : List Entry) (entry more : Entry) (after rest : List Entry)
    → before ++ entry ∷ after ≡ other ++ more ∷ rest → length before < length other
    → (between : List Entry) × (other ≡ before ++ entry ∷ between)
longer_front [] [] entry more after rest h less = absurd (omega arith)
longer_front [] (y ∷ other) entry more after rest h less =
    (other, ap (λ e. e ∷ other) (sym (same_head entry y after (other ++ more ∷ rest) h)))
longer_front (x ∷ before) [] entry more after rest h less = absurd (omega arith)
longer_front (x ∷ before) (y ∷ other) entry more after rest h less =
    search (
      rules,
      same_head,
      same_tail,
      (longer_front before other entry more after rest
          (same_tail x y (before ++ entry ∷ after) (other ++ more ∷ rest) h) (omega arith)),
    )

same_front : (before other : List Entry) (entry more : Entry) (after rest : List Entry)
    → before ++ entry ∷ after ≡ other ++ more ∷ rest → length before ≡ length other
    → (before ≡ other) × (entry ≡ more)
same_front [] [] entry more after rest h same = (refl, same_head entry more after rest h)
same_front [] (y ∷ other) entry more after rest h same = absurd (omega arith)
same_front (x ∷ before) [] entry more after rest h same = absurd (omega arith)
same_front (x ∷ before) (y ∷ other) entry more after rest h same =
    search (
      rules,
      same_head,
      same_tail,
      (same_front before other entry more after rest
          (same_tail x y (before ++ entry ∷ after) (other ++ more ∷ rest) h) (omega arith)),
    )

-- an entry breaks one rule first
one_rule : (r q : Rule) (earlier : Schema) (entry : Entry) → BreaksFirst r earlier entry
    → BreaksFirst q earlier entry → r ≡ q
one_rule Name Name earlier entry h1 h2 = refl
one_rule Field Field earlier entry h1 h2 = refl
one_rule Range Range earlier entry h1 h2 = refl
one_rule Address Address earlier entry h1 h2 = refl
one_rule Name Field earlier entry h1 h2 = absurd (h1 h2.0)
one_rule Name Range earlier entry h1 h2 = absurd (h1 h2.0)
one_rule Name Address earlier entry h1 h2 = absurd (h1 (good_name entry h2.0 h2.1))
one_rule Field Name earlier entry h1 h2 = absurd (h2 h1.0)
one_rule Range Name earlier entry h1 h2 = absurd (h2 h1.0)
one_rule Address Name earlier entry h1 h2 = absurd (h2 (good_name entry h1.0 h1.1))
one_rule Field Range earlier entry h1 h2 = absurd (never_both entry h1.1 h2.1)
one_rule Range Field earlier entry h1 h2 = absurd (never_both entry h2.1 h1.1)
one_rule Field Address earlier entry h1 h2 = absurd (good_field entry h2.0 h2.1 h1.1)
one_rule Address Field earlier entry h1 h2 = absurd (good_field entry h1.0 h1.1 h2.1)
one_rule Range Address earlier entry h1 h2 = absurd (good_range entry h2.0 earlier h2.1 h1)
one_rule Address Range earlier entry h1 h2 = absurd (good_range entry h1.0 earlier h1.1 h2)

-- no entry that breaks a rule stands before another first fault
never_earlier : (entries : List Entry) (n m : ℕ) (r q : Rule) → HaveRisingKeys entries
    → (h : IsFirstFault entries n r) (k : IsFirstFault entries m q)
    → ¬ (length h.before < length k.before)
never_earlier entries n m r q rising h k less =
    let between =
    longer_front h.before k.before h.entry k.entry h.after k.after (sym h.split ∙ k.split)
    less in
    let names = names_as_entries k.before k.good.items k.good.each in
    let rises = front_rises entries k.before k.entry k.after k.good.items rising k.split names in
    let s =
    split_items h.before h.entry between.0 k.good.items
    (subst (λ (es : List Entry). AreEntriesOf es k.good.items) between.1 k.good.each) in
    let before : h.good.items ≡ s.0 = entries_once h.before h.good.items s.0 h.good.each s.3 in
    breaks_none r s.0 s.2 s.1 h.entry h.schema (subst Rise s.5 rises)
    (subst HaveApartAddresses s.5 k.good.apart)
    (h.good.settings_are ∙ ap numbers_in before, h.good.records_are ∙ ap records_in before) s.4
    h.bad

first_once : (entries : List Entry) (n m : ℕ) (r q : Rule) → HaveRisingKeys entries
    → IsFirstFault entries n r → IsFirstFault entries m q → (n ≡ m) × (r ≡ q)
first_once entries n m r q rising h k =
    elim (cases_lt (length h.before) (length k.before)) [
      | inl less ↦ absurd (never_earlier entries n m r q rising h k less)
      | inr some ↦ elim (cases_lt (length k.before) (length h.before)) [
        | inl less ↦ absurd (never_earlier entries m n q r rising k h less)
        | inr more ↦
            let long : length h.before ≡ length k.before = omega arith in
            let at =
            same_front h.before k.before h.entry k.entry h.after k.after (sym h.split ∙ k.split)
            long in
            let same : h.schema ≡ k.schema =
            schema_once h.before h.schema k.schema h.good
            (subst (λ (es : List Entry). IsSchemaOf es k.schema) (sym at.0) k.good)
            in (
              h.number_is ∙ ap (λ i. i + 1) long ∙ sym k.number_is,
              one_rule r q k.schema k.entry
                  (subst (λ (e : Entry). BreaksFirst r k.schema e) at.1
                  (subst (λ (ss : Schema). BreaksFirst r ss h.entry) same h.bad))
                  k.bad,
            )
      ]
    ]

never_names : (r q : Rule) → r ≢ q → (entries : List Entry) (n m : ℕ) → HaveRisingKeys entries
    → IsFirstFault entries n r → ¬ IsFirstFault entries m q
never_names r q apart entries n m rising h k = apart (first_once entries n m r q rising h k).1

pub one_fault : (members : Members) → HaveRisingKeys (entries_of members)
    → (one other : SchemaFault) → one ≢ fault.Memory → other ≢ fault.Memory
    → GivesSchema members (Err one) → GivesSchema members (Err other) → one ≡ other
one_fault ms up one other h1 h2 h3 h4 = search (rules, first_once, never_names)
