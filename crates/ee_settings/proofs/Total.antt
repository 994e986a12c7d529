-- Every table is a schema or has a first fault: each rule can be told of each entry.
use Rattle.std.proofs.Common.{◌≡◌, ◌≢◌, ◌⊎◌, ℕ, ℤ, pos, negsuc, suc, zero, ◌+◌, ◌-◌, ◌<◌, ◌≤◌, Bool, true, List, [], ◌∷◌, ◌++◌, length, refl, sym, ap, ◌∙◌, subst, arith, inl, inr, codes, append_assoc, Option, Some, None, Ok, Err, rules}
use Rattle.std.proofs.lemmas.Bool.{cases_eq, cases_lt, eq-eqb}
use Rattle.std.proofs.lemmas.List.{append-nil}
use Rattle.toml.specs.Data.{Data, Members, array, boolean, datetime, float, get_member, integer, string, table}
use Rattle.ee_settings.specs.File.{Address, BreaksFirst, Entry, Field, GivesSchema, HasBadForm, HasFields, HasRecordFields, HaveBadRange, HaveRisingKeys, IsEntryOf, IsFirstFault, IsRecordTableOf, IsSchemaOf, IsTableOf, IsTaken, Name, Range, RecordFields, Rule, entries_of, fields_of_numbers, fields_of_record, key_of, kind_in}
use Rattle.ee_settings.specs.Setting.{AreProper, HaveRisingNames, IsProperForm, Item, Kept, Number, RecordForm, Schema, is_default, is_name, is_named, last_address_of, with_item}
use Rattle.ee_settings.specs.declared.record_setting.RecordKind.{RecordKind}
use Rattle.ee_settings.specs.declared.fault.SchemaFault.{SchemaFault}
use Rattle.ee_settings.specs.declared.fault.SchemaFault.TheVariants as fault
use Rattle.ee_settings.specs.declared.numbers.Fields.{Fields}
use Rattle.ee_settings.specs.declared.numbers.Numbers.{Numbers}
use Rattle.std.specs.Cmp.Lexicographic.{slice_cmp}
use Rattle.std.specs.List.Sorted.{IsStrictlySortedBy}
use Rattle.std.specs.Ordering.{nat_cmp}
use Rattle.ee_settings.proofs.Addresses.{at_address, in_span, of_span}
use Rattle.ee_settings.proofs.Entries.{entry_is, no_entries, record_is, schema_more}
use Rattle.ee_settings.proofs.Items.{settings_rise}
use Rattle.ee_settings.proofs.Names.{names_as_entries}
use Rattle.ee_settings.proofs.Once.{form_once, same_fields, same_record_fields, spelled_once}

-- ---- the rules, each by itself

told_true : (b : Bool) → (b ≡ true) ⊎ ¬ (b ≡ true)
told_true b = search rules

told_number : (found : Option Data)
    → ((z : ℤ) × (found ≡ Some (integer z))) ⊎ ((z : ℤ) → found ≢ Some (integer z))
told_number None = inr (λ z e. cc)
told_number (Some (string s)) = inr (λ z e. cc)
told_number (Some (integer z)) = inl (z, refl)
told_number (Some (float x)) = inr (λ z e. cc)
told_number (Some (boolean b)) = inr (λ z e. cc)
told_number (Some (datetime d)) = inr (λ z e. cc)
told_number (Some (array items)) = inr (λ z e. cc)
told_number (Some (table held)) = inr (λ z e. cc)

told_members : (members : Members)
    → ((fields : Fields) × HasFields members fields)
    ⊎ ((fields : Fields) → ¬ HasFields members fields)
told_members members =
    elim (cases_eq (length (entries_of members)) 4) [
      | inl four ↦ elim (told_number (get_member (codes "address") members)) [
        | inl address ↦ elim (told_number (get_member (codes "min") members)) [
          | inl min ↦ elim (told_number (get_member (codes "max") members)) [
            | inl max ↦ elim (told_number (get_member (codes "default") members)) [
              | inl default ↦ inl (
                record { address = address.0; min = min.0; max = max.0; default = default.0 },
                record {
                  four = four;
                  address = address.1;
                  min = min.1;
                  max = max.1;
                  default = default.1;
                },
              )
              | inr none ↦ inr (λ fields has. none fields.default has.default)
            ]
            | inr none ↦ inr (λ fields has. none fields.max has.max)
          ]
          | inr none ↦ inr (λ fields has. none fields.min has.min)
        ]
        | inr none ↦ inr (λ fields has. none fields.address has.address)
      ]
      | inr others ↦ inr (λ fields has. others has.four)
    ]

told_fields : (tree : Data)
    → ((fields : Fields) × IsTableOf tree fields) ⊎ ((fields : Fields) → ¬ IsTableOf tree fields)
told_fields (string s) = inr (λ fields has. has)
told_fields (integer z) = inr (λ fields has. has)
told_fields (float x) = inr (λ fields has. has)
told_fields (boolean b) = inr (λ fields has. has)
told_fields (datetime d) = inr (λ fields has. has)
told_fields (array items) = inr (λ fields has. has)
told_fields (table members) = told_members members

told_text : (found : Option Data)
    → ((text : List ℕ) × (found ≡ Some (string text))) ⊎ ((text : List ℕ) → found ≢ Some (string text))
told_text None = inr (λ z e. cc)
told_text (Some (string s)) = inl (s, refl)
told_text (Some (integer z)) = inr (λ y e. cc)
told_text (Some (float x)) = inr (λ z e. cc)
told_text (Some (boolean b)) = inr (λ z e. cc)
told_text (Some (datetime d)) = inr (λ z e. cc)
told_text (Some (array items)) = inr (λ z e. cc)
told_text (Some (table held)) = inr (λ z e. cc)

told_record_members : (members : Members)
    → ((fields : RecordFields) × HasRecordFields members fields)
    ⊎ ((fields : RecordFields) → ¬ HasRecordFields members fields)
told_record_members members =
    elim (cases_eq (length (entries_of members)) 3) [
      | inl three ↦ elim (told_number (get_member (codes "address") members)) [
        | inl address ↦ elim (told_number (get_member (key_of (kind_in members)) members)) [
          | inl size ↦ elim (told_text (get_member (codes "default") members)) [
            | inl default ↦ inl (
              record {
                address = address.0;
                kind = kind_in members;
                size = size.0;
                default = default.0;
              },
              record {
                three = three;
                kind = refl;
                address = address.1;
                size = size.1;
                default = default.1;
              },
            )
            | inr none ↦ inr (λ fields has. none fields.default has.default)
          ]
          | inr none ↦ inr (λ fields has. none fields.size
              (subst (λ (k : RecordKind). get_member (key_of k) members ≡ Some (integer fields.size))
              has.kind has.size))
        ]
        | inr none ↦ inr (λ fields has. none fields.address has.address)
      ]
      | inr others ↦ inr (λ fields has. others has.three)
    ]

told_record : (tree : Data)
    → ((fields : RecordFields) × IsRecordTableOf tree fields)
    ⊎ ((fields : RecordFields) → ¬ IsRecordTableOf tree fields)
told_record (string s) = inr (λ fields has. has)
told_record (integer z) = inr (λ fields has. has)
told_record (float x) = inr (λ fields has. has)
told_record (boolean b) = inr (λ fields has. has)
told_record (datetime d) = inr (λ fields has. has)
told_record (array items) = inr (λ fields has. has)
told_record (table members) = told_record_members members

told_natural : (z : ℤ) → ((n : ℕ) × (z ≡ pos n)) ⊎ ((n : ℕ) → z ≢ pos n)
told_natural (pos n) = inl (n, refl)
told_natural (negsuc n) = inr (λ m e. cc)

told_proper : (numbers : Numbers) → AreProper numbers ⊎ ¬ AreProper numbers
told_proper numbers = search (rules, cases_lt)

proper_range : (fields : Fields) (numbers : Numbers) → fields ≡ fields_of_numbers numbers
    → ((known : Numbers) × AreProper known × (fields ≡ fields_of_numbers known))
    ⊎ HaveBadRange fields
proper_range fields numbers is =
    elim (told_proper numbers) [
      | inl proper ↦ inl (numbers, proper, is)
      | inr outside ↦ inr
          (λ other proper e.
          outside (subst AreProper (sym (spelled_once numbers other (sym is ∙ e))) proper))
    ]

told_range : (fields : Fields)
    → ((numbers : Numbers) × AreProper numbers × (fields ≡ fields_of_numbers numbers))
    ⊎ HaveBadRange fields
told_range fields =
    elim (told_natural fields.address) [
      | inl address ↦ elim (told_natural fields.min) [
        | inl min ↦ elim (told_natural fields.max) [
          | inl max ↦ elim (told_natural fields.default) [
            | inl default ↦
                let numbers : Numbers =
                record { address = address.0; min = min.0; max = max.0; default = default.0 } in
                proper_range fields numbers
                (same_fields fields (fields_of_numbers numbers) address.1 min.1 max.1 default.1)
            | inr none ↦ inr
                (λ numbers proper e. none numbers.default (ap (λ (f : Fields). f.default) e))
          ]
          | inr none ↦ inr (λ numbers proper e. none numbers.max (ap (λ (f : Fields). f.max) e))
        ]
        | inr none ↦ inr (λ numbers proper e. none numbers.min (ap (λ (f : Fields). f.min) e))
      ]
      | inr none ↦ inr (λ numbers proper e. none numbers.address (ap (λ (f : Fields). f.address) e))
    ]

told_form : (form : RecordForm) → IsProperForm form ⊎ ¬ IsProperForm form
told_form form =
    elim (told_true (is_default form.kind form.size form.default)) [
      | inl good ↦ search (rules, cases_lt)
      | inr bad ↦ inr (λ proper. bad proper.default)
    ]

told_room : (fields : RecordFields)
    → ((form : RecordForm) × IsProperForm form × (fields ≡ fields_of_record form))
    ⊎ HasBadForm fields
told_room fields =
    elim (told_natural fields.address) [
      | inl address ↦ elim (told_natural fields.size) [
        | inl size ↦
            let form : RecordForm = record {
              base = address.0;
              kind = fields.kind;
              size = size.0;
              default = fields.default;
            } in
            let is : fields ≡ fields_of_record form =
            same_record_fields fields (fields_of_record form) address.1 refl size.1 refl in
            elim (told_form form) [
              | inl proper ↦ inl (form, proper, is)
              | inr outside ↦ inr (λ other proper e.
                  outside (subst IsProperForm (sym (form_once form other (sym is ∙ e))) proper))
            ]
        | inr none ↦ inr (λ form proper e. none form.size (ap (λ (f : RecordFields). f.size) e))
      ]
      | inr none ↦ inr (λ form proper e. none form.base (ap (λ (f : RecordFields). f.address) e))
    ]

-- an address of these many is taken, or none is
told_span : (schema : Schema) (first many : ℕ)
    → ((address : ℕ) × (first ≤ address) × (address < first + many)
    × (is_named schema address ≡ true))
    ⊎ ((address : ℕ) → first ≤ address → address < first + many → ¬ (is_named schema address ≡ true))
told_span schema first zero = inr (λ address low high. absurd (omega arith))
told_span schema first (suc many) =
    elim (told_span schema first many) [
      | inl found ↦ inl
          (found.0, found.1, (let high = found.2 in omega arith), found.3)
      | inr none ↦ elim (told_true (is_named schema (first + many))) [
        | inl here ↦ inl (first + many, omega arith, omega arith, here)
        | inr free ↦ inr (λ address low high. elim (cases_lt address (first + many)) [
          | inl less ↦ none address low less
          | inr last ↦
              let e : address ≡ first + many = omega arith in
              (λ named. free (sym (ap (is_named schema) e) ∙ named))
        ])
      ]
    ]

told_taken : (schema : Schema) (item : Item) → IsTaken schema item ⊎ ¬ IsTaken schema item
told_taken schema (Number setting) =
    elim (told_true (is_named schema setting.numbers.address)) [
      | inl taken ↦ inl (setting.numbers.address, eq-eqb _ _ refl, taken)
      | inr free ↦ inr (λ taken. free
          (ap (is_named schema) (at_address setting.numbers.address taken.0 taken.1) ∙ taken.2))
    ]
told_taken schema (Kept one) =
    let many = last_address_of one.form + 1 - one.form.base in
    elim (told_span schema one.form.base many) [
      | inl taken ↦ inl (taken.0, in_span one.form taken.0 taken.1 taken.2, taken.3)
      | inr free ↦ inr (λ taken.
          let within = of_span one.form taken.0 taken.1 in
          free taken.0 within.0 within.1 taken.2)
    ]

-- ---- an entry behind others

abbrev ItemOrRule : Schema → Entry → Type 0
ItemOrRule earlier entry =
    ((item : Item) × (IsEntryOf entry item × ¬ IsTaken earlier item))
    ⊎ ((rule : Rule) × BreaksFirst rule earlier entry)

told_address : (earlier : Schema) (entry : Entry) (item : Item) → IsEntryOf entry item
    → ItemOrRule earlier entry
told_address earlier entry item is =
    elim (told_taken earlier item)
    [ inl taken ↦ inr (Address, (item, is, taken)) | inr free ↦ inl (item, (is, free)) ]

told_entry : (earlier : Schema) (name : List ℕ) (tree : Data) → ItemOrRule earlier (name, tree)
told_entry earlier name tree =
    elim (told_true (is_name name)) [
      | inl named ↦ elim (told_fields tree) [
        | inl found ↦ elim (told_range found.0) [
          | inl range ↦ told_address earlier (name, tree)
              (Number (record { name = name; numbers = range.0 }))
              (entry_is name tree found.0 range.0 named found.1 range.2 range.1)
          | inr bad ↦ inr (Range, (named, inl (found.0, found.1, bad)))
        ]
        | inr none ↦ elim (told_record tree) [
          | inl found ↦ elim (told_room found.0) [
            | inl room ↦ told_address earlier (name, tree)
                (Kept (record { name = name; form = room.0 }))
                (record_is name tree found.0 room.0 named found.1 room.2 room.1)
            | inr bad ↦ inr (Range, (named, inr (found.0, found.1, bad)))
          ]
          | inr neither ↦ inr
              (Field, (named, record { no_numbers = none; no_record = neither }))
        ]
      ]
      | inr bad ↦ inr (Name, bad)
    ]

-- ---- all entries

abbrev SchemaOrFault : List Entry → Type 0
SchemaOrFault all =
    ((schema : Schema) × IsSchemaOf all schema)
    ⊎ ((number : ℕ) × (rule : Rule) × IsFirstFault all number rule)

told_entries : (all before after : List Entry) (schema : Schema) → all ≡ before ++ after
    → IsSchemaOf before schema → SchemaOrFault all
told_entries all before [] schema split good =
    inl (
      schema,
      subst (λ entries. IsSchemaOf entries schema) (sym (split ∙ append-nil before)) good,
    )
told_entries all before (entry ∷ after) schema split good =
    elim (told_entry schema entry.0 entry.1) [
      | inl found ↦
          told_entries all (before ++ entry ∷ []) after (with_item schema found.0)
          (split ∙ sym (append_assoc before (entry ∷ []) after))
          (schema_more before schema entry found.0 good found.1)
      | inr broken ↦ inr (
        length before + 1,
        broken.0,
        record {
          before = before;
          entry = entry;
          after = after;
          schema = schema;
          split = split;
          number_is = refl;
          good = good;
          bad = broken.1;
        },
      )
    ]

-- ---- the law

why_not : (members : Members) (number : ℕ) (rule : Rule)
    → IsFirstFault (entries_of members) number rule
    → (why : SchemaFault) × (why ≢ fault.Memory) × GivesSchema members (Err why)
why_not ms number Name first = (fault.BadName number, (λ e. cc), first)
why_not ms number Field first = (fault.BadField number, (λ e. cc), first)
why_not ms number Range first = (fault.BadRange number, (λ e. cc), first)
why_not ms number Address first = (fault.SameAddress number, (λ e. cc), first)

rising : (entries : List Entry) (schema : Schema) → HaveRisingKeys entries
    → IsSchemaOf entries schema → HaveRisingNames schema.settings
rising entries schema keys good =
    subst HaveRisingNames (sym good.settings_are)
    (settings_rise good.items (subst (IsStrictlySortedBy (slice_cmp nat_cmp))
    (sym (names_as_entries entries good.items good.each)) keys))

pub each_table_is_judged_lem : (members : Members) → HaveRisingKeys (entries_of members)
    → ((schema : Schema) × GivesSchema members (Ok schema))
    ⊎ ((why : SchemaFault) × (why ≢ fault.Memory) × GivesSchema members (Err why))
each_table_is_judged_lem members keys =
    elim
    (told_entries (entries_of members) [] (entries_of members)
    (record { settings = []; records = [] }) refl no_entries) [
      | inl found ↦ inl
          (found.0, (found.1, rising (entries_of members) found.0 keys found.1, keys))
      | inr first ↦ inr (why_not members first.0 first.1 first.2)
    ]
