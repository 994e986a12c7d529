-- Settings and records one by one: of those so far none is so, and what one more adds.
use Rattle.std.proofs.Common.{◌≡◌, suc, ℕ, ◌<◌, ◌+◌, List, [], ◌∷◌, ◌++◌, length, get_or, refl, sym, ap, subst, ◌∙◌, arith, Result, Err, rules}
use Rattle.std.proofs.lemmas.Bool.{cases_lt}
use Rattle.std.proofs.lemmas.List.{get_or_default}
use Rattle.toml.specs.Data.{Data}
use Rattle.ee_settings.proofs.Items.{all_counted, apart_more, named_by, records_with, settings_with}
use Rattle.ee_settings.specs.File.{Address, Field, Name, Range, fields_of_numbers, fields_of_record, IsRecordOf, IsRecordTableOf, IsSettingOf, IsTableOf, AreEntriesOf, BreaksFirst, Entry, GivesItem, IsEntryOf, IsFirstFault, IsSchemaFault, IsSchemaOf, IsTaken, RecordFields, Rule}
use Rattle.ee_settings.specs.Setting.{AreProper, IsName, IsProperForm, Item, RecordForm, Schema, Setting, with_item}
use Rattle.ee_settings.specs.declared.numbers.Fields.{Fields}
use Rattle.ee_settings.specs.declared.numbers.Numbers.{Numbers}
use Rattle.ee_settings.specs.declared.fault.SchemaFault.{SchemaFault}
use Rattle.ee_settings.specs.declared.fault.SchemaFault.TheVariants as fault

-- of the first n settings none is so
abbrev pub NoneOf : (Setting → Type 0) → List Setting → ℕ → Type 0
NoneOf P settings n =
    (k : ℕ) (d : Setting) → k < n → k < length settings → ¬ P (get_or settings k d)

pub none_more : (P : Setting → Type 0) (settings : List Setting) (n : ℕ) (setting : Setting)
    → setting ≡ get_or settings n setting → ¬ P setting → NoneOf P settings n
    → NoneOf P settings (n + 1)
none_more P settings n setting here not before k d below inside =
    search (rules, cases_lt, get_or_default)

pub each_more : (entries : List Entry) (items : List Item) (entry : Entry) (item : Item)
    → AreEntriesOf entries items → IsEntryOf entry item
    → AreEntriesOf (entries ++ entry ∷ []) (items ++ item ∷ [])
each_more [] [] entry item h here = (here, tt)
each_more [] (i ∷ items) entry item h here = absurd h
each_more (e ∷ entries) [] entry item h here = absurd h
each_more (e ∷ entries) (i ∷ items) entry item h here =
    (h.0, each_more entries items entry item h.1 here)

pub schema_more : (entries : List Entry) (schema : Schema) (entry : Entry) (item : Item)
    → IsSchemaOf entries schema → IsEntryOf entry item × ¬ IsTaken schema item
    → IsSchemaOf (entries ++ entry ∷ []) (with_item schema item)
schema_more entries schema entry item h here = record {
  items = h.items ++ item ∷ [];
  each = each_more entries h.items entry item h.each here.0;
  apart = apart_more h.items item h.apart (λ address has there. here.1
      (address, has, named_by schema h.items address h.settings_are h.records_are ∙ there));
  settings_are = settings_with schema item h.items h.settings_are;
  records_are = records_with schema item h.items h.records_are;
}

not_below_zero : (n : ℕ) → n < 0 → ⊥
not_below_zero n h = omega arith

pub no_entries : IsSchemaOf [] (record { settings = []; records = [] })
no_entries = record {
  items = [];
  each = tt;
  apart = λ one other first second address h k. absurd (not_below_zero first.0 first.1);
  settings_are = refl;
  records_are = refl;
}

pub as_many : (entries : List Entry) (items : List Item) → AreEntriesOf entries items
    → length entries ≡ length items
as_many [] [] h = refl
as_many [] (i ∷ items) h = absurd h
as_many (e ∷ entries) [] h = absurd h
as_many (e ∷ entries) (i ∷ items) h = ap suc (as_many entries items h.1)

counted : (entries : List Entry) (schema : Schema) → IsSchemaOf entries schema
    → length schema.settings + length schema.records ≡ length entries
counted entries schema h =
    rw (h.settings_are, h.records_are)
    (all_counted h.items ∙ sym (as_many entries h.items h.each))

first_fault : (rule : Rule) (all before after : List Entry) (entry : Entry) (schema : Schema)
    (number at : ℕ)
    → all ≡ before ++ entry ∷ after
    → number ≡ length schema.settings + length schema.records + 1 → IsSchemaOf before schema
    → (at ≡ number) × BreaksFirst rule schema entry → IsFirstFault all at rule
first_fault rule all before after entry schema number at split count good h = record {
  before = before;
  entry = entry;
  after = after;
  schema = schema;
  split = split;
  number_is = h.0 ∙ count ∙ ap (λ n. n + 1) (counted before schema good);
  good = good;
  bad = h.1;
}

pub fault_named : (why : SchemaFault) (all before after : List Entry) (entry : Entry)
    (schema : Schema) (number : ℕ)
    → all ≡ before ++ entry ∷ after
    → number ≡ length schema.settings + length schema.records + 1 → IsSchemaOf before schema
    → GivesItem schema number entry (Err why) → IsSchemaFault all why
fault_named (fault.BadName at) all before after entry schema number split count good h =
    first_fault Name all before after entry schema number at split count good h
fault_named (fault.BadField at) all before after entry schema number split count good h =
    first_fault Field all before after entry schema number at split count good h
fault_named (fault.BadRange at) all before after entry schema number split count good h =
    first_fault Range all before after entry schema number at split count good h
fault_named (fault.SameAddress at) all before after entry schema number split count good h =
    first_fault Address all before after entry schema number at split count good h
fault_named fault.Memory all before after entry schema number split count good h = tt

-- a proper name and the numbers that stand under it make the entry's setting
pub entry_is : (name : List ℕ) (tree : Data) (fields : Fields) (numbers : Numbers) → IsName name
    → IsTableOf tree fields → fields ≡ fields_of_numbers numbers → AreProper numbers
    → IsSettingOf (name, tree) (record { name = name; numbers = numbers })
entry_is name tree fields numbers named under same proper = search rules

-- and what stands under that of a record
pub record_is : (name : List ℕ) (tree : Data) (fields : RecordFields) (form : RecordForm)
    → IsName name → IsRecordTableOf tree fields → fields ≡ fields_of_record form
    → IsProperForm form → IsRecordOf (name, tree) (record { name = name; form = form })
record_is name tree fields form named under same proper = record {
  name = refl;
  form = subst (IsRecordTableOf tree) same under;
  proper = record { name = named; form = proper };
}

pub gives_same : (result : Result Item SchemaFault) (schema : Schema) (number : ℕ)
    (name text : List ℕ) (tree : Data)
    → name ≡ text → GivesItem schema number (name, tree) result
    → GivesItem schema number (text, tree) result
gives_same result schema number name text tree f h = rw (← f) h
