-- One record at a base address, apart from others, and with more room.
use Rattle.std.proofs.Common.{◌≡◌, ◌∙◌, ◌<◌, ◌≤◌, ◌+◌, ◌*◌, ◌/◌, ◌%◌, ℕ, Option, Some, None, List, sym, arith, length, slice_index}
use Rattle.std.proofs.lemmas.List.{ext_get_or}
use Rattle.ee_pages.specs.Meaning.{Map}
use Rattle.ee_core.specs.State.{state_of}
use Rattle.ee_records.proofs.Held.{holds_along, some_same}
use Rattle.ee_records.proofs.Places.{base_of, of_record, turn_lt, words_within}
use Rattle.ee_records.specs.Laws.{OtherRecordsAreKept, RecordsAreOne, RecordsGrow}
use Rattle.ee_records.specs.Record.{HasByte, HoldsBytes, IsOf, head_of, place, place_by, word_turn}

pub same_heads : (t c u d : ℕ) → c < 65536 → d < 65536 → head_of t c ≡ head_of u d → (t ≡ u) × (c ≡ d)
same_heads t c u d h1 h2 e = (omega arith, omega arith)

pub one_byte : (v : Option ℕ) (k b c : ℕ) → HasByte v k b → HasByte v k c → b ≡ c
one_byte None k b c h1 h2 = absurd h1
one_byte (Some v) k b c h1 h2 = sym h1 ∙ h2

pub records_are_one_lem : RecordsAreOne
records_are_one_lem map base room one other fits h1 h2 =
    let heads =
    same_heads h1.turns (length one) h2.turns (length other) (omega (arith, h1.few))
    (omega (arith, h2.few))
    (some_same (head_of h1.turns (length one)) (head_of h2.turns (length other))
    (sym h1.head ∙ h2.head)) in
    ext_get_or 0 one other heads.1 (λ at low.
    let low_too : at < length other = omega (arith, heads.1) in
    one_byte (map (place_by base h1.turns (at / 4 + 1))) (at % 4)
    (slice_index one at) (slice_index other at) (h1.each at low) (rw heads.0 (h2.each at low_too)))

kept_along : (old new : Map) (base room : ℕ)
    → ((address : ℕ) → IsOf base room address → new address ≡ old address)
    → (bytes : List ℕ) → HoldsBytes old base room bytes → HoldsBytes new base room bytes
kept_along old new base room same bytes held =
    holds_along old new base room bytes held (same base (base_of base room))
    (λ word low. same (place base word (word_turn held.turns word))
    (of_record base room word (word_turn held.turns word)
    (omega (arith, low, words_within (length bytes) room held.few)) (turn_lt held.turns word)))

pub other_records_are_kept_lem : OtherRecordsAreKept
other_records_are_kept_lem old new base room other other_room apart keeps =
    let same : (address : ℕ) → IsOf other other_room address
    → (state_of new).map address ≡ (state_of old).map address =
    λ address of. keeps address (λ here. apart address here of) in
    record {
      head = same other (base_of other other_room);
      bytes = λ bytes. (
        kept_along (state_of old).map (state_of new).map other other_room same bytes,
        kept_along (state_of new).map (state_of old).map other other_room
            (λ address of. sym (same address of)) bytes,
      );
    }

pub records_grow_lem : RecordsGrow
records_grow_lem map base room more bytes le held =
    let few : length bytes ≤ 4 * more = omega (arith, held.few) in
    record { turns = held.turns; head = held.head; few = few; check = held.check; each = held.each }
