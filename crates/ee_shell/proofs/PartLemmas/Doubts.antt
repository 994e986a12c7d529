-- An address is told to be in doubt exactly where a torn slot stands between the last slot that
-- speaks of it and the end.
use Rattle.std.proofs.Common.{◌≡◌, ◌≢◌, ◌∙◌, ◌+◌, ◌<◌, ◌≤◌, ℕ, suc, Bool, true, false, cond, is_some, Option, Some, None, List, [], ◌∷◌, ◌++◌, length, refl, sym, ap, arith, inl, inr, rules}
use Rattle.std.specs.Prelude.{◌||◌}
use Rattle.std.specs.List.{list_any}
use Rattle.std.proofs.lemmas.Bool.{and_from, and_parts, both_ways, cases_Bool, lt-ltb, ltb-true, or_from, or_parts, or_right, true_from_ne_false}
use Rattle.std.proofs.lemmas.List.{length-append}
use Rattle.ee_flash.specs.declared.word.Word.{Word}
use Rattle.ee_flash.specs.declared.word.Word.TheVariants.{Torn}
use Rattle.ee_pages.specs.Meaning.{later_of, latest_in, says}
use Rattle.ee_pages.specs.Page.{is_torn}
use Rattle.ee_shell.specs.Part.Inspecting.{speaks_of, up_to_last}
use Rattle.ee_shell.specs.Part.InspectLaws.{DoubtsAreTold, IsDoubted}
use Rattle.ee_shell.proofs.PartLemmas.Inspections.{last_before, last_behind, no_last, some_last}

-- ---- what is said, and by which slot

later_some : (old new : Option (Option ℕ))
    → is_some (later_of old new) ≡ (is_some old || is_some new)
later_some None None = refl
later_some (Some old) None = refl
later_some None (Some new) = refl
later_some (Some old) (Some new) = refl

pub said_by_some : (slots : List Word) (address : ℕ)
    → is_some (latest_in slots address) ≡ list_any (speaks_of address) slots
said_by_some [] address = refl
said_by_some (slot ∷ slots) address =
    later_some (says slot address) (latest_in slots address)
    ∙ ap (λ b. is_some (says slot address) || b) (said_by_some slots address)

not_none : (said : Option (Option ℕ)) → is_some said ≡ true → said ≢ None
not_none None some = absurd (cc some)
not_none (Some said) some = λ none. cc none

pub is_none : {T : Type 0} → (said : Option T) → is_some said ≡ false → said ≡ None
is_none None none = refl
is_none (Some said) none = absurd (cc none)

some_of : (said : Option (Option ℕ)) → said ≢ None → is_some said ≡ true
some_of None some = absurd (some refl)
some_of (Some said) some = refl

-- ---- the slots about the last one of a kind

pub record IsParted (such : Word → Bool) (slots : List Word) : Type 0 where
  pub before : List Word
  pub at : Word
  pub behind : List Word
  pub slots_are : slots ≡ before ++ at ∷ behind
  pub count : length before + 1 ≡ up_to_last such slots
  pub of_kind : such at ≡ true
  pub none_behind : list_any such behind ≡ false

pub parted : (such : Word → Bool) (slots : List Word) → list_any such slots ≡ true
    → IsParted such slots
parted such [] some = absurd (cc some)
parted such (first ∷ slots) some = elim (cases_Bool (list_any such slots)) [
  | inl more ↦
      let rest = parted such slots more in
      let any : list_any such (first ∷ slots) ≡ true =
      or_right (such first) (list_any such slots) more in
      let up : up_to_last such (first ∷ slots) ≡ suc (up_to_last such slots) =
      ap (λ b. cond b (suc (up_to_last such slots)) 0) any in
      record {
        before = first ∷ rest.before;
        at = rest.at;
        behind = rest.behind;
        slots_are = ap (λ l. first ∷ l) rest.slots_are;
        count = omega (arith, rest.count, up);
        of_kind = rest.of_kind;
        none_behind = rest.none_behind;
      }
  | inr none ↦
      let up : up_to_last such (first ∷ slots) ≡ suc (up_to_last such slots) =
      ap (λ b. cond b (suc (up_to_last such slots)) 0) some in
      record {
        before = [];
        at = first;
        behind = slots;
        slots_are = refl;
        count = omega (arith, up, no_last such slots none);
        of_kind =
            true_from_ne_false (such first)
            (λ no. both_ways (such first || list_any such slots)
            (or_from (such first) (list_any such slots) no none) some);
        none_behind = none;
      }
]

pub up_or_none : (such : Word → Bool) (slots : List Word) → 0 < up_to_last such slots
    → list_any such slots ≡ true
up_or_none such slots some = search (rules, cases_Bool, no_last)

pub last_within : (such : Word → Bool) (slots : List Word) → up_to_last such slots ≤ length slots
last_within such slots = elim (cases_Bool (list_any such slots)) [
  | inl some ↦
      let parts = parted such slots some in
      let long = ap length parts.slots_are in
      let sum = length-append parts.before (parts.at ∷ parts.behind) in
      omega (arith, parts.count, long, sum)
  | inr none ↦ omega (arith, no_last such slots none)
]

torn_is : (word : Word) → is_torn word ≡ true → word ≡ Torn
torn_is word h1 = search rules

-- ---- both ways

doubt_from : (slots : List Word) (address spoken torn : ℕ)
    → spoken ≡ up_to_last (speaks_of address) slots → torn ≡ up_to_last is_torn slots → 0 < spoken
    → spoken < torn → IsDoubted slots address
doubt_from slots address spoken torn spoken_is torn_is_last some less =
    let speaks : Word → Bool = speaks_of address in
    let parts =
    parted is_torn slots (up_or_none is_torn slots (omega (arith, torn_is_last, less))) in
    let torn_at = torn_is parts.at parts.of_kind in
    let silent : list_any speaks (parts.at ∷ parts.behind) ≡ false =
    elim (cases_Bool (list_any speaks (parts.at ∷ parts.behind))) [
      | inl said ↦
          let up = last_behind speaks parts.before (parts.at ∷ parts.behind) said in
          let positive = some_last speaks (parts.at ∷ parts.behind) said in
          let same = ap (up_to_last speaks) parts.slots_are in
          absurd (omega (arith, up, positive, same, parts.count, spoken_is, torn_is_last, less))
      | inr none ↦ none
    ] in
    let before : up_to_last speaks slots ≡ up_to_last speaks parts.before =
    ap (up_to_last speaks) parts.slots_are
    ∙ last_before speaks parts.before (parts.at ∷ parts.behind) silent in
    let said : list_any speaks parts.before ≡ true =
    up_or_none speaks parts.before (omega (arith, before, spoken_is, some)) in
    record {
      before = parts.before;
      behind = parts.behind;
      slots_are = parts.slots_are ∙ ap (λ word. parts.before ++ word ∷ parts.behind) torn_at;
      said = not_none (latest_in parts.before address) (said_by_some parts.before address ∙ said);
      silent = is_none (latest_in parts.behind address)
          (said_by_some parts.behind address
          ∙ (or_parts (speaks parts.at) (list_any speaks parts.behind) silent).1);
    }

doubt_to : (slots : List Word) (address : ℕ) → IsDoubted slots address
    → (0 < up_to_last (speaks_of address) slots)
    × (up_to_last (speaks_of address) slots < up_to_last is_torn slots)
doubt_to slots address doubted =
    let speaks : Word → Bool = speaks_of address in
    let said : list_any speaks doubted.before ≡ true =
    sym (said_by_some doubted.before address)
    ∙ some_of (latest_in doubted.before address) doubted.said in
    let silent : list_any speaks doubted.behind ≡ false =
    sym (said_by_some doubted.behind address) ∙ ap is_some doubted.silent in
    let up =
    ap (up_to_last speaks) doubted.slots_are
    ∙ last_before speaks doubted.before (Torn ∷ doubted.behind) silent in
    let torn : list_any is_torn (Torn ∷ doubted.behind) ≡ true = refl in
    let last =
    ap (up_to_last is_torn) doubted.slots_are
    ∙ last_behind is_torn doubted.before (Torn ∷ doubted.behind) torn in
    let positive = some_last is_torn (Torn ∷ doubted.behind) torn in
    let some = some_last speaks doubted.before said in
    let within = last_within speaks doubted.before in
    (omega (arith, up, some), omega (arith, up, last, positive, within))

pub doubts_are_told : DoubtsAreTold
doubts_are_told slots address =
    search (rules, and_from, and_parts, doubt_from, doubt_to, lt-ltb, ltb-true)
