-- The addresses of settings: which of them are taken, and by a look-up.
use Rattle.std.proofs.Common.{◌≡◌, ◌∙◌, ◌<◌, ◌≤◌, ◌+◌, ◌-◌, ◌*◌, ◌/◌, ℕ, Bool, cond, true, false, [], ◌∷◌, inl, inr, sym, ap, arith, nat_cmp, rules}
use Rattle.std.specs.Prelude.{◌==◌, ◌||◌, ◌&&◌, nat_le, nat_lt}
use Rattle.std.proofs.lemmas.Bool.{cases_lt}
use Rattle.std.proofs.lemmas.Grind.{common_steps}
use Rattle.std.proofs.lemmas.List.Folds.{list_any-append}
use Rattle.std.specs.BTreeMap.{is_at}
use Rattle.std.specs.BTreeSet.{BTreeSet, contains}
use Rattle.ee_settings.specs.Setting.{Kept, Number, RecordForm, RecordSetting, Schema, Setting, has_address, has_record_at, is_named, is_of, last_address_of, with_item}
use Rattle.ee_settings.specs.declared.numbers.Numbers.{Numbers}

swapped : (a b c : Bool) → (a || (b || c)) ≡ (b || (c || (a || false)))
swapped a b c = search rules

pub at_is : (a q : ℕ) → is_at (nat_cmp a) q ≡ (a == q)
at_is a q = grind (arith, common_steps)

-- the addresses of one setting more
pub one_taken : (schema : Schema) (setting : Setting) (numbers : Numbers) (before after : BTreeSet ℕ)
    → numbers ≡ setting.numbers
    → ((a : ℕ)
    → contains nat_cmp after a
    ≡ cond (is_at (nat_cmp numbers.address) a) true (contains nat_cmp before a))
    → ((a : ℕ) → contains nat_cmp before a ≡ is_named schema a) → (a : ℕ)
    → contains nat_cmp after a ≡ is_named (with_item schema (Number setting)) a
one_taken schema setting numbers before after is updates so_far a = let one = updates a in
    let old = so_far a in grind (arith, common_steps, at_is)

-- and of one record more
pub span_taken : (schema : Schema) (one : RecordSetting) (before after : BTreeSet ℕ)
    (first last : ℕ)
    → first ≡ one.form.base → last ≡ last_address_of one.form
    → ((a : ℕ)
    → contains nat_cmp after a
    ≡ ((nat_le first a && nat_le a last) || contains nat_cmp before a))
    → ((a : ℕ) → contains nat_cmp before a ≡ is_named schema a) → (a : ℕ)
    → contains nat_cmp after a ≡ is_named (with_item schema (Kept one)) a
span_taken schema one before after first last from to updates so_far a =
    let old = so_far a in
    let longer = list_any-append (λ (r : RecordSetting). is_of r.form a) schema.records (one ∷ []) in
    updates a
    ∙ ap (λ (n : ℕ). (nat_le n a && nat_le a last) || contains nat_cmp before a) from
    ∙ ap (λ (n : ℕ). (nat_le one.form.base a && nat_le a n) || contains nat_cmp before a) to
    ∙ ap (λ (b : Bool). is_of one.form a || b) old
    ∙ swapped (is_of one.form a) (has_address schema.settings a) (has_record_at schema.records a)
    ∙ ap (λ (b : Bool). has_address schema.settings a || b) (sym longer)

-- ---- a span of them, one after another

-- those from the first to below this one were put
pub record PutBelow (first number last : ℕ) (before now : BTreeSet ℕ) : Type 0 where
  pub from : first ≤ number
  pub to : number ≤ last + 1
  pub put : (a : ℕ)
      → contains nat_cmp now a
      ≡ ((nat_le first a && nat_lt a number) || contains nat_cmp before a)

nothing_below : (first a : ℕ) → (nat_le first a && nat_lt a first) ≡ false
nothing_below first a = grind (arith, common_steps)

pub none_put : (first last : ℕ) (now : BTreeSet ℕ) → first ≤ last
    → PutBelow first first last now now
none_put first last now low = record {
  from = omega arith;
  to = omega arith;
  put = λ a. ap (λ (b : Bool). b || contains nat_cmp now a) (sym (nothing_below first a));
}

one_put : (first number a : ℕ) (old : Bool) → first ≤ number
    → (number == a || ((nat_le first a && nat_lt a number) || old))
    ≡ ((nat_le first a && nat_lt a (number + 1)) || old)
one_put first number a old low = grind (arith, common_steps)

pub put_more : (first number last : ℕ) (before now after : BTreeSet ℕ)
    → PutBelow first number last before now → number ≤ last
    → ((a : ℕ) → contains nat_cmp after a ≡ (number == a || contains nat_cmp now a))
    → PutBelow first (number + 1) last before after
put_more first number last before now after so_far low updates = record {
  from = (let h = so_far.from in omega arith);
  to = omega arith;
  put = λ a.
      updates a ∙ ap (λ (b : Bool). number == a || b) (so_far.put a)
      ∙ one_put first number a (contains nat_cmp before a) so_far.from;
}

up_to : (number last a : ℕ) → number ≡ last + 1 → nat_lt a number ≡ nat_le a last
up_to number last a is = grind (arith, common_steps)

pub all_put : (first number last : ℕ) (before now : BTreeSet ℕ)
    → PutBelow first number last before now → last < number → (a : ℕ)
    → contains nat_cmp now a ≡ ((nat_le first a && nat_le a last) || contains nat_cmp before a)
all_put first number last before now so_far above a =
    let e : number ≡ last + 1 = (let h = so_far.to in omega (arith, above)) in
    so_far.put a
    ∙ ap (λ (b : Bool). (nat_le first a && b) || contains nat_cmp before a) (up_to number last a e)

-- none of those from the first to below this one is so
pub record NoneBelow (first number : ℕ) (named : ℕ → Bool) : Type 0 where
  pub from : first ≤ number
  pub none : (address : ℕ) → first ≤ address → address < number → named address ≡ false

pub none_begins : (first : ℕ) (named : ℕ → Bool) → NoneBelow first first named
none_begins first named = record {
  from = omega arith;
  none = λ address low high. absurd (omega arith);
}

pub none_further : (first number : ℕ) (named : ℕ → Bool) → NoneBelow first number named
    → named number ≡ false → NoneBelow first (number + 1) named
none_further first number named so_far here = record {
  from = (let h = so_far.from in omega arith);
  none = λ address low high. elim (cases_lt address number) [
    | inl less ↦ so_far.none address low less
    | inr last ↦ (let e : address ≡ number = omega arith in ap named e ∙ here)
  ];
}

-- ---- where a record's addresses are

pub at_address : (one address : ℕ) → (one == address) ≡ true → one ≡ address
at_address one address h = grind (arith, common_steps)

-- its last address, by what the code knows of it
pub last_by : (last base size first many : ℕ) → last ≡ base + 2 * ((size + 3) / 4 + 1)
    → base ≡ first → size ≡ many → last ≡ first + 2 * ((many + 3) / 4 + 1)
last_by last base size first many is e f = rw (← e, ← f) is

pub in_record : (form : RecordForm) (address first last : ℕ) → first ≡ form.base
    → last ≡ last_address_of form → first ≤ address → address ≤ last → is_of form address ≡ true
in_record form address first last from to low high = grind (arith, common_steps)

pub in_span : (form : RecordForm) (address : ℕ) → form.base ≤ address
    → address < form.base + (last_address_of form + 1 - form.base) → is_of form address ≡ true
in_span form address low high = grind (arith, common_steps)

pub of_span : (form : RecordForm) (address : ℕ) → is_of form address ≡ true
    → (form.base ≤ address) × (address < form.base + (last_address_of form + 1 - form.base))
of_span form address h = grind (arith, common_steps)
