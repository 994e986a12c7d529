-- A table that is a schema is no other, and has no first fault.
use Rattle.std.proofs.Common.{◌≡◌, ◌≢◌, ◌⊎◌, ◌∙◌, ◌<◌, ◌+◌, ℕ, ℤ, pos, suc, Bool, true, false, List, [], ◌∷◌, ◌++◌, length, get_or, map, refl, sym, ap, subst, inl, inr, arith, nat_cmp, Option, Some, Ok, Err, rules}
use Rattle.std.specs.Prelude.{◌||◌}
use Rattle.std.proofs.Math.ListN.{get_or-append}
use Rattle.std.proofs.Math.Seq.{get_or-append_seam}
use Rattle.std.proofs.lemmas.List.{length-append}
use Rattle.std.specs.Cmp.Lexicographic.{slice_cmp}
use Rattle.std.specs.List.{Contains}
use Rattle.std.specs.List.Sorted.{IsStrictlySortedBy}
use Rattle.toml.specs.Data.{Data, Members, array, boolean, datetime, float, get_member, integer, string, table}
use Rattle.ee_settings.proofs.Items.{items_have, named_by}
use Rattle.ee_settings.proofs.Names.{later_differs, names_as_entries}
use Rattle.ee_settings.specs.File.{Address, AreEntriesOf, BreaksFirst, Entry, Field, GivesSchema, HasBadField, HasBadForm, HasRecordFields, HaveBadRange, HaveRisingKeys, IsEntryOf, IsFirstFault, IsRecordOf, IsRecordTableOf, IsSchemaOf, IsSettingOf, IsTableOf, Name, Range, RecordFields, Rule, entries_of, fields_of_numbers, fields_of_record, key_of, numbers_in, records_in}
use Rattle.ee_settings.specs.Setting.{HaveApartAddresses, IsName, Item, Kept, Number, RecordForm, RecordSetting, Schema, Setting, item_has, name_of_item}
use Rattle.ee_settings.specs.declared.fault.SchemaFault.{SchemaFault}
use Rattle.ee_settings.specs.declared.fault.SchemaFault.TheVariants as fault
use Rattle.ee_settings.specs.declared.numbers.Fields.{Fields}
use Rattle.ee_settings.specs.declared.numbers.Numbers.{Numbers}
use Rattle.ee_settings.specs.declared.record_setting.RecordKind.{RecordKind}

cases_true : (b : Bool) → (b ≡ true) ⊎ (b ≡ false)
cases_true b = search rules

fields_by : (a b c d e f g h : ℤ) → a ≡ e → b ≡ f → c ≡ g → d ≡ h
    → ◌≡◌ {A = Fields} (record { address = a; min = b; max = c; default = d })
    (record { address = e; min = f; max = g; default = h })
fields_by a b c d e f g h p q r s = rw (p, q, r, s)

pub same_fields : (one other : Fields) → one.address ≡ other.address → one.min ≡ other.min
    → one.max ≡ other.max → one.default ≡ other.default → one ≡ other
same_fields one other p q r s =
    fields_by one.address one.min one.max one.default other.address other.min other.max
    other.default p q r s

numbers_by : (a b c d e f g h : ℕ) → a ≡ e → b ≡ f → c ≡ g → d ≡ h
    → ◌≡◌ {A = Numbers} (record { address = a; min = b; max = c; default = d })
    (record { address = e; min = f; max = g; default = h })
numbers_by a b c d e f g h p q r s = rw (p, q, r, s)

same_numbers : (one other : Numbers) → one.address ≡ other.address → one.min ≡ other.min
    → one.max ≡ other.max → one.default ≡ other.default → one ≡ other
same_numbers one other p q r s =
    numbers_by one.address one.min one.max one.default other.address other.min other.max
    other.default p q r s

-- a table holds four numbers in one way
pub fields_once : (tree : Data) (one other : Fields) → IsTableOf tree one → IsTableOf tree other
    → one ≡ other
fields_once tree one other h1 h2 = search (rules, same_fields)

pub spelled_once : (one other : Numbers) → fields_of_numbers one ≡ fields_of_numbers other
    → one ≡ other
spelled_once one other e = search (rules, same_numbers)

setting_by : (a c : List ℕ) (b d : Numbers) → a ≡ c → b ≡ d
    → ◌≡◌ {A = Setting} (record { name = a; numbers = b }) (record { name = c; numbers = d })
setting_by a c b d p q = rw (p, q)

same_setting : (one other : Setting) → one.name ≡ other.name → one.numbers ≡ other.numbers
    → one ≡ other
same_setting one other p q = setting_by one.name other.name one.numbers other.numbers p q

-- a record's table holds its fields in one way
fields_of_record_by : (a b : ℤ) (k l : RecordKind) (c d : ℤ) (e f : List ℕ) → a ≡ b → k ≡ l → c ≡ d
    → e ≡ f
    → ◌≡◌ {A = RecordFields} (record { address = a; kind = k; size = c; default = e })
    (record { address = b; kind = l; size = d; default = f })
fields_of_record_by a b k l c d e f p q r s = rw (p, q, r, s)

pub same_record_fields : (one other : RecordFields) → one.address ≡ other.address
    → one.kind ≡ other.kind → one.size ≡ other.size → one.default ≡ other.default → one ≡ other
same_record_fields one other p q r s =
    fields_of_record_by one.address other.address one.kind other.kind one.size other.size
    one.default other.default p q r s

one_integer : (found : Option Data) (x y : ℤ) → found ≡ Some (integer x) → found ≡ Some (integer y)
    → x ≡ y
one_integer found x y h k = cc

one_text : (found : Option Data) (x y : List ℕ) → found ≡ Some (string x) → found ≡ Some (string y)
    → x ≡ y
one_text found x y h k = cc

record_fields_in_once : (members : Members) (one other : RecordFields)
    → HasRecordFields members one → HasRecordFields members other → one ≡ other
record_fields_in_once members one other h k =
    let kinds : one.kind ≡ other.kind = h.kind ∙ sym k.kind in
    same_record_fields one other (one_integer _ _ _ h.address k.address) kinds
    (one_integer _ _ _ h.size
    (subst (λ (kind : RecordKind). get_member (key_of kind) members ≡ Some (integer other.size))
    (sym kinds) k.size))
    (one_text _ _ _ h.default k.default)

pub record_fields_once : (tree : Data) (one other : RecordFields) → IsRecordTableOf tree one
    → IsRecordTableOf tree other → one ≡ other
record_fields_once (table members) one other h k = record_fields_in_once members one other h k
record_fields_once (string s) one other h k = absurd h
record_fields_once (integer z) one other h k = absurd h
record_fields_once (float x) one other h k = absurd h
record_fields_once (boolean b) one other h k = absurd h
record_fields_once (datetime d) one other h k = absurd h
record_fields_once (array items) one other h k = absurd h

-- no table is that of a setting and of a record
pub tables_differ : (tree : Data) (fields : Fields) (others : RecordFields) → IsTableOf tree fields
    → ¬ IsRecordTableOf tree others
tables_differ (table members) fields others h k =
    (let four = h.four in let three = k.three in omega arith)
tables_differ (string s) fields others h k = h
tables_differ (integer z) fields others h k = h
tables_differ (float x) fields others h k = h
tables_differ (boolean b) fields others h k = h
tables_differ (datetime d) fields others h k = h
tables_differ (array items) fields others h k = h

form_by : (a b : ℕ) (k l : RecordKind) (c d : ℕ) (e f : List ℕ) → a ≡ b → k ≡ l → c ≡ d → e ≡ f
    → ◌≡◌ {A = RecordForm} (record { base = a; kind = k; size = c; default = e })
    (record { base = b; kind = l; size = d; default = f })
form_by a b k l c d e f p q r s = rw (p, q, r, s)

same_natural : (a b : ℕ) → pos a ≡ pos b → a ≡ b
same_natural a b e = cc

pub form_once : (one other : RecordForm) → fields_of_record one ≡ fields_of_record other
    → one ≡ other
form_once one other e =
    form_by one.base other.base one.kind other.kind one.size other.size one.default other.default
    (same_natural _ _ (ap (λ (f : RecordFields). f.address) e))
    (ap (λ (f : RecordFields). f.kind) e)
    (same_natural _ _ (ap (λ (f : RecordFields). f.size) e))
    (ap (λ (f : RecordFields). f.default) e)

record_by : (a b : List ℕ) (f g : RecordForm) → a ≡ b → f ≡ g
    → ◌≡◌ {A = RecordSetting} (record { name = a; form = f }) (record { name = b; form = g })
record_by a b f g p q = rw (p, q)

setting_once : (entry : Entry) (one other : Setting) → IsSettingOf entry one
    → IsSettingOf entry other → one ≡ other
setting_once entry one other h k =
    same_setting one other (h.name ∙ sym k.name)
    (spelled_once one.numbers other.numbers (fields_once entry.1 _ _ h.numbers k.numbers))

record_once : (entry : Entry) (one other : RecordSetting) → IsRecordOf entry one
    → IsRecordOf entry other → one ≡ other
record_once entry one other h k =
    record_by one.name other.name one.form other.form (h.name ∙ sym k.name)
    (form_once one.form other.form (record_fields_once entry.1 _ _ h.form k.form))

pub entry_once : (entry : Entry) (one other : Item) → IsEntryOf entry one → IsEntryOf entry other
    → one ≡ other
entry_once entry (Number one) (Number other) h k = ap Number (setting_once entry one other h k)
entry_once entry (Kept one) (Kept other) h k = ap Kept (record_once entry one other h k)
entry_once entry (Number one) (Kept other) h k =
    absurd (tables_differ entry.1 _ _ h.numbers k.form)
entry_once entry (Kept one) (Number other) h k =
    absurd (tables_differ entry.1 _ _ k.numbers h.form)

pub entries_once : (entries : List Entry) (one other : List Item) → AreEntriesOf entries one
    → AreEntriesOf entries other → one ≡ other
entries_once [] [] [] h k = refl
entries_once [] [] (i ∷ other) h k = absurd k
entries_once [] (i ∷ one) other h k = absurd h
entries_once (e ∷ entries) [] other h k = absurd h
entries_once (e ∷ entries) (i ∷ one) [] h k = absurd k
entries_once (e ∷ entries) (i ∷ one) (j ∷ other) h k =
    rw (entry_once e i j h.0 k.0, entries_once entries one other h.1 k.1)

schema_by : (a b : List Setting) (c d : List RecordSetting) → a ≡ b → c ≡ d
    → ◌≡◌ {A = Schema} (record { settings = a; records = c })
    (record { settings = b; records = d })
schema_by a b c d p q = rw (p, q)

-- a table is one schema at most
pub schema_once : (entries : List Entry) (one other : Schema) → IsSchemaOf entries one
    → IsSchemaOf entries other → one ≡ other
schema_once entries one other h k =
    let same : h.items ≡ k.items = entries_once entries h.items k.items h.each k.each in
    schema_by one.settings other.settings one.records other.records
    (h.settings_are ∙ ap numbers_in same ∙ sym k.settings_are)
    (h.records_are ∙ ap records_in same ∙ sym k.records_are)

pub split_items : (before : List Entry) (entry : Entry) (after : List Entry) (items : List Item)
    → AreEntriesOf (before ++ entry ∷ after) items
    → (first : List Item) × (item : Item) × (last : List Item)
    × AreEntriesOf before first × IsEntryOf entry item × (items ≡ first ++ item ∷ last)
split_items [] entry after [] h = absurd h
split_items [] entry after (i ∷ items) h = ([], i, items, tt, h.0, refl)
split_items (e ∷ before) entry after [] h = absurd h
split_items (e ∷ before) entry after (i ∷ items) h =
    let r = split_items before entry after items h.1 in
    (i ∷ r.0, r.1, r.2, (h.0, r.3), r.4, ap (λ rest. i ∷ rest) r.5)

-- the names of these rise
abbrev pub Rise : List Item → Type 0
Rise items = IsStrictlySortedBy (slice_cmp nat_cmp) (map name_of_item items)

one_of : (items : List Item) (address : ℕ) → items_have items address ≡ true
    → (other : Item) × Contains items other × (item_has other address ≡ true)
one_of [] address h = cc
one_of (i ∷ items) address h = elim (cases_true (item_has i address)) [
  | inl here ↦ (i, (0, omega arith, refl), here)
  | inr none ↦
      let found =
      one_of items address (sym (ap (λ (b : Bool). b || items_have items address) none) ∙ h) in (
        found.0,
        (
          suc found.1.0,
          (let inside : found.1.0 < length items = found.1.1 in omega arith),
          found.1.2,
        ),
        found.2,
      )
]

-- no item of a schema has an address of an earlier one
never_taken : (first last : List Item) (item : Item) → Rise (first ++ item ∷ last)
    → HaveApartAddresses (first ++ item ∷ last) → (address : ℕ) → item_has item address ≡ true
    → ¬ (items_have first address ≡ true)
never_taken first last item rising apart address has there =
    let all = first ++ item ∷ last in
    let taken = one_of first address there in
    let other = taken.0 in
    let place = taken.1.0 in
    let inside : place < length first = taken.1.1 in
    let long : length all ≡ length first + length (item ∷ last) =
    length-append first (item ∷ last) in
    let some : 0 < length (item ∷ last) = omega arith in
    let seam : length first < length all = omega arith in
    let within : place < length all = omega arith in
    let other_at : get_or all place other ≡ other =
    get_or-append first (item ∷ last) other place inside ∙ taken.1.2 in
    let item_at : get_or all (length first) item ≡ item =
    get_or-append_seam first item last item in
    let same : other ≡ item =
    apart other item (place, within, other_at) (length first, seam, item_at) address taken.2 has in
    later_differs name_of_item all rising other item place (length first) inside seam other_at
    item_at (ap name_of_item same)

-- what none of these breaks
abbrev pub IsBehind : List Item → Schema → Type 0
IsBehind first schema =
    (schema.settings ≡ numbers_in first) × (schema.records ≡ records_in first)

pub good_name : (entry : Entry) (item : Item) → IsEntryOf entry item → IsName entry.0
good_name entry (Number setting) here = subst (λ name. IsName name) here.name here.proper.name
good_name entry (Kept one) here = subst (λ name. IsName name) here.name here.proper.name

pub good_field : (entry : Entry) (item : Item) → IsEntryOf entry item → ¬ HasBadField entry.1
good_field entry (Number setting) here bad =
    bad.no_numbers (fields_of_numbers setting.numbers) here.numbers
good_field entry (Kept one) here bad = bad.no_record (fields_of_record one.form) here.form

pub good_range : (entry : Entry) (item : Item) (schema : Schema) → IsEntryOf entry item
    → ¬ BreaksFirst Range schema entry
good_range entry (Number setting) schema here (named, inl (fields, is, bad)) =
    bad setting.numbers here.proper.numbers (fields_once entry.1 fields _ is here.numbers)
good_range entry (Number setting) schema here (named, inr (fields, is, bad)) =
    tables_differ entry.1 _ fields here.numbers is
good_range entry (Kept one) schema here (named, inl (fields, is, bad)) =
    tables_differ entry.1 fields _ is here.form
good_range entry (Kept one) schema here (named, inr (fields, is, bad)) =
    bad one.form here.proper.form (record_fields_once entry.1 fields _ is here.form)

-- what stands in a table is no bad field
pub never_both : (entry : Entry) → HasBadField entry.1
    → ((fields : Fields) × IsTableOf entry.1 fields × HaveBadRange fields)
    ⊎ ((fields : RecordFields) × IsRecordTableOf entry.1 fields × HasBadForm fields) → ⊥
never_both entry bad (inl (fields, is, out)) = bad.no_numbers fields is
never_both entry bad (inr (fields, is, out)) = bad.no_record fields is

-- the entry of an item behind those of others breaks no rule
pub breaks_none : (rule : Rule) (first last : List Item) (item : Item) (entry : Entry)
    (schema : Schema)
    → Rise (first ++ item ∷ last) → HaveApartAddresses (first ++ item ∷ last) → IsBehind first schema
    → IsEntryOf entry item → ¬ BreaksFirst rule schema entry
breaks_none Name first last item entry schema rising apart behind here broken =
    broken (good_name entry item here)
breaks_none Field first last item entry schema rising apart behind here broken =
    good_field entry item here broken.1
breaks_none Range first last item entry schema rising apart behind here broken =
    good_range entry item schema here broken
breaks_none Address first last item entry schema rising apart behind here broken =
    let taken = broken.2 in
    never_taken first last item rising apart taken.0
    (ap (λ (i : Item). item_has i taken.0) (sym (entry_once entry broken.0 item broken.1 here))
    ∙ taken.1)
    (sym (named_by schema first taken.0 behind.0 behind.1) ∙ taken.2)

pub no_first_fault : (entries : List Entry) (schema : Schema) (number : ℕ) (rule : Rule)
    → HaveRisingKeys entries → IsSchemaOf entries schema → ¬ IsFirstFault entries number rule
no_first_fault entries schema number rule keys good h =
    let rising : Rise good.items =
    subst (IsStrictlySortedBy (slice_cmp nat_cmp))
    (sym (names_as_entries entries good.items good.each)) keys in
    let r =
    split_items h.before h.entry h.after good.items
    (subst (λ (es : List Entry). AreEntriesOf es good.items) h.split good.each) in
    let before : h.good.items ≡ r.0 = entries_once h.before h.good.items r.0 h.good.each r.3 in
    breaks_none rule r.0 r.2 r.1 h.entry h.schema (subst Rise r.5 rising)
    (subst HaveApartAddresses r.5 good.apart)
    (h.good.settings_are ∙ ap numbers_in before, h.good.records_are ∙ ap records_in before) r.4
    h.bad

pub never_refused : (members : Members) (schema : Schema) (why : SchemaFault)
    → why ≢ fault.Memory → GivesSchema members (Ok schema) → ¬ GivesSchema members (Err why)
never_refused members schema (fault.BadName n) some h k =
    no_first_fault (entries_of members) schema n Name h.2 h.0 k
never_refused members schema (fault.BadField n) some h k =
    no_first_fault (entries_of members) schema n Field h.2 h.0 k
never_refused members schema (fault.BadRange n) some h k =
    no_first_fault (entries_of members) schema n Range h.2 h.0 k
never_refused members schema (fault.SameAddress n) some h k =
    no_first_fault (entries_of members) schema n Address h.2 h.0 k
never_refused members schema fault.Memory some h k = some refl
