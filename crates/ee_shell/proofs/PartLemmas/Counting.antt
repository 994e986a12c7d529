-- How many addresses have a value, by the last slot that speaks of each.
use Rattle.std.proofs.Common.{◌≡◌, ◌≢◌, ◌∙◌, ◌+◌, ◌==◌, ◌<◌, ◌≤◌, ℕ, nat_le, Bool, true, false, cond, is_some, Option, Some, None, List, ◌∷◌, length, get_or, take, refl, sym, ap, arith, inl, inr}
use Rattle.std.specs.Prelude.{IfSome, MatchOption}
use Rattle.std.proofs.Math.Seq.{get_or-append_seam}
use Rattle.std.specs.List.{list_any}
use Rattle.std.proofs.lemmas.List.{length-take}
use Rattle.std.proofs.lemmas.Bool.{cases_Bool, cases_eq, cases_order, cond-false, cond-true, eq-eqb, eqb-false, eqb-true, le-leb, lt-leb, ne_eqb}
use Rattle.ee_codec.specs.Words.{IsAddress}
use Rattle.ee_flash.specs.declared.word.Word.{Word}
use Rattle.ee_flash.specs.declared.word.Word.TheVariants.{Erased}
use Rattle.ee_pages.specs.Meaning.{Map, Put, later_of, latest_in, live_in, map_after, meaning, says, value_said}
use Rattle.ee_pages.proofs.Public.{change_counts, gap_to, latest_in-append, live_to-zero}
use Rattle.ee_shell.specs.Part.Inspecting.{AreSpoken, gives_to, speaks_of, up_to_last}
use Rattle.ee_shell.proofs.PartLemmas.Inspections.{live_alike, some_last}
use Rattle.ee_shell.proofs.PartLemmas.Doubts.{is_none, last_within, parted, said_by_some, up_or_none}

-- ---- what the last slot says that speaks of an address

later_said : (old new : Option (Option ℕ)) → is_some new ≡ true → later_of old new ≡ new
later_said old None some = absurd (cc some)
later_said old (Some new) some = refl

-- the slot is the last that speaks of the address
said_last : (slots : List Word) (address slot : ℕ) (word : Word)
    → slot + 1 ≡ up_to_last (speaks_of address) slots → word ≡ get_or slots slot Erased
    → latest_in slots address ≡ says word address
said_last slots address slot word last here =
    let such : Word → Bool = speaks_of address in
    let parts = parted such slots (up_or_none such slots (omega (arith, last))) in
    let at : slot ≡ length parts.before = omega (arith, parts.count, last) in
    let there : parts.at ≡ word =
    sym (here ∙ ap (λ n. get_or slots n Erased) at
    ∙ ap (λ l. get_or l (length parts.before) Erased) parts.slots_are
    ∙ get_or-append_seam parts.before parts.at parts.behind Erased) in
    let silent =
    is_none (latest_in parts.behind address)
    (said_by_some parts.behind address ∙ parts.none_behind) in
    ap (λ l. latest_in l address) parts.slots_are
    ∙ latest_in-append parts.before (parts.at ∷ parts.behind) address
    ∙ ap (λ said. later_of (latest_in parts.before address) (later_of (says parts.at address) said))
    silent
    ∙ later_said (latest_in parts.before address) (says parts.at address) parts.of_kind
    ∙ ap (λ (word : Word). says word address) there

-- where no slot speaks of an address, it has no value
unspoken : (slots : List Word) (address : ℕ) → up_to_last (speaks_of address) slots ≡ 0
    → meaning slots address ≡ None
unspoken slots address none =
    let silent : list_any (speaks_of address) slots ≡ false =
    elim (cases_Bool (list_any (speaks_of address) slots)) [
      | inl some ↦ absurd (omega (arith, none, some_last (speaks_of address) slots some))
      | inr silent ↦ silent
    ] in
    ap value_said (is_none (latest_in slots address) (said_by_some slots address ∙ silent))

-- ---- the addresses of which no slot behind the first ones speaks

-- their values
abbrev pub settled : List Word → ℕ → Map
settled slots count address =
    cond (nat_le (up_to_last (speaks_of address) slots) count) (meaning slots address) None

is_settled : (slots : List Word) (count address : ℕ) → up_to_last (speaks_of address) slots ≤ count
    → settled slots count address ≡ meaning slots address
is_settled slots count address within =
    cond-true (nat_le (up_to_last (speaks_of address) slots) count) (meaning slots address) None
    (le-leb (up_to_last (speaks_of address) slots) count within)

not_settled : (slots : List Word) (count address : ℕ) → count < up_to_last (speaks_of address) slots
    → settled slots count address ≡ None
not_settled slots count address more =
    cond-false (nat_le (up_to_last (speaks_of address) slots) count) (meaning slots address) None
    (lt-leb (up_to_last (speaks_of address) slots) count more)

none_settled : (slots : List Word) (address : ℕ) → settled slots 0 address ≡ None
none_settled slots address = elim (cases_eq (up_to_last (speaks_of address) slots) 0) [
  | inl none ↦ is_settled slots 0 address (omega arith) ∙ unspoken slots address none
  | inr some ↦ not_settled slots 0 address (omega arith)
]

pub none_counted : (slots : List Word) → 0 ≡ live_in (settled slots 0)
none_counted slots =
    sym (gap_to (settled slots 0) 0 65534 (omega arith)
    (λ address low high. none_settled slots address)
    ∙ live_to-zero (settled slots 0))

-- where all that speak of an address are among the first ones
pub all_counted : (slots : List Word) (count : ℕ)
    → ((address : ℕ)
    → up_to_last (speaks_of address) (take count slots) ≡ up_to_last (speaks_of address) slots)
    → live_in (settled slots count) ≡ live_in (meaning slots)
all_counted slots count all =
    live_alike (settled slots count) (meaning slots) 65534 (λ address. is_settled slots count
    address
    (omega (
      arith,
      all address,
      last_within (speaks_of address) (take count slots),
      length-take count slots,
    )))

-- ---- one slot more

module _ (slots : List Word) (slot : ℕ) (word : Word) (here : word ≡ get_or slots slot Erased) where
  -- an address that is settled before or behind the slot, or to which the slot gives no value
  as_before : (address : ℕ)
      → (slot + 1 ≡ up_to_last (speaks_of address) slots → gives_to address word ≡ false)
      → settled slots (slot + 1) address ≡ settled slots slot address
  as_before address none = elim (cases_order (up_to_last (speaks_of address) slots) (slot + 1)) [
    | inl last ↦
        is_none (settled slots (slot + 1) address)
        (ap is_some
        (is_settled slots (slot + 1) address (omega arith)
        ∙ ap value_said (said_last slots address slot word (sym last) here))
        ∙ none (sym last))
        ∙ sym (not_settled slots slot address (omega arith))
    | inr (inl before) ↦ is_settled slots (slot + 1) address (omega arith)
        ∙ sym (is_settled slots slot address (omega arith))
    | inr (inr behind) ↦ not_settled slots (slot + 1) address (omega arith)
        ∙ sym (not_settled slots slot address (omega arith))
  ]

  none_more
      :
      ((address : ℕ) → slot + 1 ≡ up_to_last (speaks_of address) slots
      → gives_to address word ≡ false)
      → live_in (settled slots (slot + 1)) ≡ live_in (settled slots slot)
  none_more none =
      live_alike (settled slots (slot + 1)) (settled slots slot) 65534
      (λ address. as_before address (none address))

  one_more : (named value : ℕ) → IsAddress named → slot + 1 ≡ up_to_last (speaks_of named) slots
      → value_said (says word named) ≡ Some value
      → ((address : ℕ) → address ≢ named → gives_to address word ≡ false)
      → live_in (settled slots (slot + 1)) ≡ live_in (settled slots slot) + 1
  one_more named value proper last given else_none =
      let before = settled slots slot in
      let alike : (address : ℕ)
      → settled slots (slot + 1) address ≡ map_after (Put named value) before address =
      λ address. elim (cases_eq named address) [
        | inl same ↦
            ap (settled slots (slot + 1)) (sym same)
            ∙ is_settled slots (slot + 1) named (omega (arith, last))
            ∙ ap value_said (said_last slots named slot word last here) ∙ given
            ∙ sym
            (cond-true (named == address) (Some value) (before address)
            (eq-eqb named address same))
        | inr other ↦
            as_before address (λ last. else_none address (λ same. other (sym same)))
            ∙ sym
            (cond-false (named == address) (Some value) (before address)
            (ne_eqb named address other))
      ] in
      live_alike (settled slots (slot + 1)) (map_after (Put named value) before) 65534 alike
      ∙ change_counts (Put named value) before proper
      ∙ ap (λ given. live_in before + cond (is_some given) 0 1)
      (not_settled slots slot named (omega (arith, last)))

some_value : (value : Option ℕ) → is_some value ≡ true → (given : ℕ) × (value ≡ Some given)
some_value None some = absurd (cc some)
some_value (Some given) some = (given, refl)

-- one slot more, which gives an address a value or doesn't, and is or isn't the last that speaks of
-- it
pub counted_more : (slots : List Word) (slot : ℕ) (word : Word) (spoken : List ℕ) (given : Option ℕ)
    (is_last : Bool) (count : ℕ)
    → word ≡ get_or slots slot Erased → AreSpoken slots spoken
    → IfSome given (λ named. IsAddress named)
    → MatchOption given ((address : ℕ) → gives_to address word ≡ false)
    (λ named. (address : ℕ) → gives_to address word ≡ (named == address))
    → MatchOption given (is_last ≡ false) (λ named. is_last ≡ (get_or spoken named 0 == slot + 1))
    → count ≡ live_in (settled slots slot)
    → cond is_last (count + 1) count ≡ live_in (settled slots (slot + 1))
counted_more slots slot word spoken None is_last count here table proper gives is so_far =
    ap (λ b. cond b (count + 1) count) is ∙ so_far
    ∙ sym (none_more slots slot word here (λ address last. gives address))
counted_more slots slot word spoken (Some named) true count here table proper gives is so_far =
    let last =
    sym (eqb-true (get_or spoken named 0) (slot + 1) (sym is)) ∙ table.each named proper.1 in
    let value = some_value (value_said (says word named)) (gives named ∙ eq-eqb named named refl) in
    ap (λ n. n + 1) so_far
    ∙ sym (one_more slots slot word here named value.0 proper last value.1
    (λ address other. gives address ∙ ne_eqb named address (λ same. other (sym same))))
counted_more slots slot word spoken (Some named) false count here table proper gives is so_far =
    so_far
    ∙ sym (none_more slots slot word here (λ address last. elim (cases_eq named address) [
      | inl same ↦
          absurd (eqb-false (get_or spoken named 0) (slot + 1) (sym is)
          (table.each named proper.1 ∙ ap (λ n. up_to_last (speaks_of n) slots) same ∙ sym last))
      | inr other ↦ gives address ∙ ne_eqb named address other
    ]))
