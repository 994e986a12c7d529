-- A record that is prepared, and the write that completes it.
use Rattle.std.proofs.Common.{◌≡◌, ◌∙◌, ◌<◌, ◌≤◌, ◌⊎◌, ◌+◌, ◌*◌, ◌/◌, ◌%◌, ℕ, Some, None, List, Ok, Err, inl, inr, refl, ap, subst, arith, length}
use Rattle.std.specs.Prelude.{bit_xor}
use Rattle.std.proofs.lemmas.Nat.Bits.{bit_at-zero}
use Rattle.ee_flash.specs.Device.{Device, IsOn}
use Rattle.ee_flash.specs.Power.{GoesOn}
use Rattle.ee_pages.specs.Meaning.{Map}
use Rattle.ee_core.proofs.Public.{goes_on_both, put-at}
use Rattle.ee_core.specs.State.{state_of}
use Rattle.ee_records.proofs.Held.{holds_words, same_record, turned_words}
use Rattle.ee_records.proofs.Places.{base_of, counts_here, head_counts, other_of_record}
use Rattle.ee_records.proofs.Puts.{add_write, cut_later, keeps_more, may_keep}
use Rattle.ee_records.specs.Calls.{AreChangedIn, AreWrites, HasWritten, IsCompletedBy, IsPaid, KeepsMeaning, PreparesRecord, StaysPowered, WritesRecord, turning}
use Rattle.ee_records.proofs.WordBytes.{AreBytes}
use Rattle.ee_records.specs.Record.{IsOf, KeepsBeside, head_of, place_by, word_turn, words_with}
use Rattle.ee_records.specs.Steps.{AreTurnsIn, AreUnchanged, EndsSo, HaveWords, IsOther, KeepsCounted, MayPut, PutsOne}
use Rattle.ee_records.specs.declared.fault.RecordFault.{RecordFault}
use Rattle.ee_records.specs.declared.fault.RecordFault.TheVariants as fault

-- ---- words where they don't count

pub keeps_all : (old new : Device) (base room turns : ℕ) → room < 16384
    → AreTurnsIn (state_of old).map base turns
    → KeepsCounted base room turns (state_of old).map (state_of new).map
    → KeepsMeaning base room old new
keeps_all old new base room turns fits are keeps = record {
  record_kept =
      same_record base room fits (state_of old).map (state_of new).map
      (keeps base (head_counts base room turns))
      (λ head word is low. keeps (place_by base (head / 65536) word)
      (subst (λ t. ¬ IsOther base room turns (place_by base t word)) (are head is)
      (counts_here base room turns word)));
  others = λ address no.
      keeps address (λ other. no (other_of_record base room turns address other));
}

-- ---- refusals

pub refused : (T : Type 0) (bad : RecordFault) (old new : Device) (base room : ℕ) (bytes : List ℕ)
    → IsOn old → KeepsMeaning base room old new → EndsSo {T = T} base room (Err bad) old new
    → PreparesRecord old base room bytes (Err bad) new
refused T fault.Off old new base room bytes on kept ends = absurd ends
refused T fault.TooLong old new base room bytes on kept ends = absurd ends
refused T fault.Full old new base room bytes on kept ends = ((on, ends.0), kept, ends.1)
refused T fault.Spent old new base room bytes on kept ends = ((on, ends.0), kept, ends.1)
refused T fault.Memory old new base room bytes on kept ends = ((on, ends.0), kept, ends.1)
refused T fault.Cut old new base room bytes on kept ends = (ends, kept)

-- ---- the last write

module _ (old mid new : Device) (base room : ℕ) (bytes : List ℕ) (address value : ℕ)
    (goes : StaysPowered old mid) (kept : KeepsMeaning base room old mid) (of : IsOf base room address)
    (completes : IsCompletedBy (state_of mid).map base room bytes address value)
  where
    written_others : MayPut address value (state_of mid).map (state_of new).map
        → KeepsBeside base room old new
    written_others may =
        keeps_more (λ a. IsOf base room a) (state_of old).map (state_of mid).map (state_of new).map
        address of kept.others
        (λ one ne. may_keep (state_of mid).map (state_of new).map address value one may ne)

    has_written : (state_of new).map address ≡ Some value
        → MayPut address value (state_of mid).map (state_of new).map
        → HasWritten base room bytes old new
    has_written there may = record {
      holds = completes (state_of new).map there
          (λ one is ne. may_keep (state_of mid).map (state_of new).map address value one may ne);
      others = written_others may;
    }

    cut_cases : MayPut address value (state_of mid).map (state_of new).map
        → KeepsMeaning base room old new ⊎ HasWritten base room bytes old new
    cut_cases (inl e) =
        inl (record { record_kept = rw e kept.record_kept; others = written_others (inl e) })
    cut_cases (inr e) = inr (has_written
        (ap (λ (map : Map). map address) e ∙ put-at (state_of mid).map address value address refl)
        (inr e))

    pub last_refused : (T : Type 0) (bad : RecordFault)
        → PutsOne {T = T} mid address value (Err bad) new
        → WritesRecord old base room bytes (Err bad) new
    last_refused T fault.Off puts = absurd puts
    last_refused T fault.TooLong puts = absurd puts
    last_refused T fault.Full puts = rw puts.0 (goes, kept, (address, of, puts.1))
    last_refused T fault.Spent puts = rw puts.0 (goes, kept, puts.1)
    last_refused T fault.Memory puts = rw puts.0 (goes, kept, (address, of, puts.1))
    last_refused T fault.Cut puts = (cut_later old mid new goes.1 puts.0, cut_cases puts.1)

    paid_more : IsPaid 0 base bytes old mid → AreWrites 1 mid new → IsPaid 1 base bytes old new
    paid_more paid one =
        let words : ℕ = turning paid.turned (words_with (length bytes)) in
        let same : words + 1 ≡ words + 0 + 1 = omega arith in
        let writes = add_write (words + 0) old mid new paid.writes one in
        record { turned = paid.turned; changed = paid.changed; writes = rw same writes }

    pub completed : IsPaid 0 base bytes old mid → GoesOn mid new → (state_of new).map address ≡ Some value
        → MayPut address value (state_of mid).map (state_of new).map → AreWrites 1 mid new
        → StaysPowered old new × HasWritten base room bytes old new × IsPaid 1 base bytes old new
    completed paid more there may one =
        ((goes.0, goes_on_both old mid new goes.1 more), has_written there may, paid_more paid one)

pub paid_for : (old mid : Device) (base turned : ℕ) (bytes : List ℕ)
    → AreChangedIn (words_with (length bytes)) (state_of old).map base bytes turned
    → AreWrites (turning turned (words_with (length bytes))) old mid → IsPaid 0 base bytes old mid
paid_for old mid base turned bytes changed writes =
    let words : ℕ = turning turned (words_with (length bytes)) in
    let same : words + 0 ≡ words = omega arith in
    record { turned = turned; changed = changed; writes = rw same writes }

-- ---- what completes a record

-- the head, where words turn
pub head_completes : (old mid : Device) (base room turns turned address : ℕ) (bytes : List ℕ)
    → AreBytes bytes → length bytes ≤ 4 * room
    → AreUnchanged (words_with (length bytes)) (state_of old).map base bytes turns turned
    → KeepsCounted base room turns (state_of old).map (state_of mid).map
    → HaveWords (words_with (length bytes)) (state_of mid).map base bytes turns turned
    → address ≡ base
    → IsOf base room address
    × IsCompletedBy (state_of mid).map base room bytes address
    (bit_xor turns turned * 65536 + length bytes)
head_completes old mid base room turns turned address bytes fit few unchanged keeps have e =
    rw e (
      base_of base room,
      λ new there others. holds_words new base room (bit_xor turns turned) bytes fit few there
          (turned_words (state_of old).map (state_of mid).map new base room turns turned bytes few
          unchanged keeps have others),
    )

head_is : (head count : ℕ) → head % 65536 ≡ count → head ≡ head_of (head / 65536) count
head_is head count e = omega (arith, e)

-- where no word turns and the length stays, the record is there
pub nothing_to_write : (device : Device) (base room head turned : ℕ) (bytes : List ℕ)
    → IsOn device → AreBytes bytes → length bytes ≤ 4 * room
    → (state_of device).map base ≡ Some head → head % 65536 ≡ length bytes → turned ≡ 0
    → AreUnchanged (words_with (length bytes)) (state_of device).map base bytes (head / 65536) turned
    → PreparesRecord device base room bytes (Ok None) device
nothing_to_write device base room head turned bytes on fit few is low none unchanged = (
  on,
  holds_words (state_of device).map base room (head / 65536) bytes fit few
      (is ∙ ap (λ h. Some h) (head_is head (length bytes) low))
      (λ word below. unchanged word below (ap (λ t. word_turn t word) none ∙ bit_at-zero (word % 16))),
  refl,
)
