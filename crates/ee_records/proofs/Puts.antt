-- What single writes leave, one after another.
use Rattle.std.proofs.Common.{◌≡◌, ◌≢◌, ◌∙◌, ◌<◌, ◌+◌, ◌-◌, ℕ, Some, List, Result, Ok, Err, inl, inr, refl, sym, ap, subst, add-one, arith, rules}
use Rattle.std.proofs.lemmas.Bool.{cases_eq}
use Rattle.ee_flash.specs.Device.{Device}
use Rattle.ee_flash.specs.Power.{GoesOn, IsCut}
use Rattle.ee_pages.specs.Meaning.{Map, Forget, Put, map_after}
use Rattle.ee_core.proofs.Public.{cut_map, forget-at, goes_on_both, goes_on_same, put-other}
use Rattle.ee_core.specs.Calls.{Forgets, Writes}
use Rattle.ee_core.specs.State.{state_of}
use Rattle.ee_core.specs.declared.variables.Written.{Written}
use Rattle.ee_core.specs.declared.variables.ForgetFault.TheVariants as store_forget
use Rattle.ee_core.specs.declared.variables.WriteFault.TheVariants as write
use Rattle.ee_records.proofs.Places.{below_two, same_place, turn_lt}
use Rattle.ee_records.specs.Calls.{AreWrites, turning}
use Rattle.ee_records.specs.Record.{IsOf, place, record_word, word_turn}
use Rattle.ee_records.specs.Steps.{EndsSo, ForgetsOne, HaveWords, IsOther, KeepsCounted, MayPut, PutsOne}
use Rattle.ee_records.specs.declared.fault.RecordFault.{RecordFault}
use Rattle.ee_records.specs.declared.fault.RecordFault.TheVariants as fault
use Rattle.ee_records.specs.declared.fault.TrimFault.TheVariants as trim

-- ---- one write

pub wrote_cut : (T : Type 0) (old new : Device) (address value : ℕ)
    → Writes old address value (Err write.Cut) new
    → PutsOne {T = T} old address value (Err fault.Cut) new
wrote_cut T old new address value h = (h.cut, cut_map old new (Put address value) h)

forgot_map : (old new : Device) (address : ℕ) (written : Written)
    → Forgets old address (Ok written) new
    → GoesOn old new × ((state_of new).map ≡ map_after (Forget address) (state_of old).map)
forgot_map old new address written h = search rules

pub forgot : {T : Type 0} (done : T) (old new : Device) (address : ℕ) (written : Written)
    → Forgets old address (Ok written) new → ForgetsOne {T = T} old address (Ok done) new
forgot done old new address written h =
    let e = forgot_map old new address written h in (
      e.0,
      ap (λ (map : Map). map address) e.1 ∙ forget-at (state_of old).map address address refl,
      inr e.1,
    )

pub forgot_cut : (T : Type 0) (old new : Device) (address : ℕ)
    → Forgets old address (Err store_forget.Cut) new
    → ForgetsOne {T = T} old address (Err trim.Cut) new
forgot_cut T old new address h = (h.cut, cut_map old new (Forget address) h)

-- ---- several

pub may_keep : (old new : Map) (address value other : ℕ) → MayPut address value old new
    → other ≢ address → new other ≡ old other
may_keep old new address value other (inl e) ne = ap (λ (map : Map). map other) e
may_keep old new address value other (inr e) ne =
    ap (λ (map : Map). map other) e ∙ put-other old address value other ne

-- where one of these addresses changes, the others keep what they had
pub keeps_more : (These : ℕ → Type 0) (old mid new : Map) (address : ℕ) → These address
    → ((other : ℕ) → ¬ These other → mid other ≡ old other)
    → ((other : ℕ) → other ≢ address → new other ≡ mid other)
    → (other : ℕ) → ¬ These other → new other ≡ old other
keeps_more These old mid new address here keeps stays = λ other no.
    stays other (λ e. no (subst These (sym e) here)) ∙ keeps other no

pub cut_later : (old mid new : Device) → GoesOn old mid → IsCut mid new → IsCut old new
cut_later old mid new goes cut = search rules

pub ends_later : {T : Type 0} (base room : ℕ) (result : Result T RecordFault) (old mid new : Device)
    → GoesOn old mid → EndsSo base room result mid new → EndsSo base room result old new
ends_later base room (Ok done) old mid new goes ends = goes_on_both old mid new goes ends
ends_later base room (Err fault.Off) old mid new goes ends = absurd ends
ends_later base room (Err fault.TooLong) old mid new goes ends = absurd ends
ends_later base room (Err fault.Full) old mid new goes ends =
    (goes_on_both old mid new goes ends.0, ends.1)
ends_later base room (Err fault.Spent) old mid new goes ends =
    (goes_on_both old mid new goes ends.0, ends.1)
ends_later base room (Err fault.Memory) old mid new goes ends =
    (goes_on_both old mid new goes ends.0, ends.1)
ends_later base room (Err fault.Cut) old mid new goes ends = cut_later old mid new goes ends

pub one_ends : {T : Type 0} (base room : ℕ) (result : Result T RecordFault) (old new : Device)
    (address value : ℕ) → IsOf base room address
    → PutsOne old address value result new → EndsSo base room result old new
one_ends base room (Ok done) old new address value of puts = puts.0
one_ends base room (Err fault.Off) old new address value of puts = absurd puts
one_ends base room (Err fault.TooLong) old new address value of puts = absurd puts
one_ends base room (Err fault.Full) old new address value of puts =
    rw puts.0 (goes_on_same old, (address, of, puts.1))
one_ends base room (Err fault.Spent) old new address value of puts =
    rw puts.0 (goes_on_same old, puts.1)
one_ends base room (Err fault.Memory) old new address value of puts =
    rw puts.0 (goes_on_same old, (address, of, puts.1))
one_ends base room (Err fault.Cut) old new address value of puts = puts.0

-- ---- words at their other addresses

module _ (base turns turned words : ℕ) (bytes : List ℕ) (mid new : Map) where
  have_more : HaveWords words mid base bytes turns turned
      → MayPut (place base words (1 - word_turn turns words)) (record_word bytes words) mid new
      → new (place base words (1 - word_turn turns words)) ≡ Some (record_word bytes words)
      → HaveWords (words + 1) new base bytes turns turned
  have_more before may there = λ word low e.
      elim (cases_eq word words) [
        | inl same ↦ rw same there
        | inr ne ↦
            may_keep mid new (place base words (1 - word_turn turns words)) (record_word bytes words)
            (place base word (1 - word_turn turns word)) may
            (λ at. ne (same_place base word words (1 - word_turn turns word) (1 - word_turn turns words) (below_two (word_turn turns word)) (below_two (word_turn turns words)) at).0)
            ∙ before word (omega (arith, low, ne)) e
      ]

pub have_skipped : (base turns turned words turn : ℕ) (bytes : List ℕ) (map : Map)
    → HaveWords words map base bytes turns turned → turn ≡ word_turn turned words → turn ≢ 1
    → HaveWords (words + 1) map base bytes turns turned
have_skipped base turns turned words turn bytes map before is other = λ word low e.
    elim (cases_eq word words) [
      | inl same ↦ absurd (other (is ∙ (ap (word_turn turned) (sym same) ∙ e)))
      | inr ne ↦ before word (omega (arith, low, ne)) e
    ]

-- ---- how many writes

pub add_write : (writes : ℕ) (old mid new : Device) → AreWrites writes old mid
    → AreWrites 1 mid new → AreWrites (writes + 1) old new
add_write writes old mid new before (inl same) = rw (add-one, same) (inl before)
add_write writes old mid new before (inr one) =
    rw add-one (inr (one.0, rw one.1 before, one.2, one.3, one.4, one.5))

turning-next : (turned words : ℕ)
    → turning turned (words + 1) ≡ turning turned words + word_turn turned words
turning-next turned words = rw add-one refl

pub turned_write : (turned words : ℕ) (old mid new : Device) → word_turn turned words ≡ 1
    → AreWrites (turning turned words) old mid → AreWrites 1 mid new
    → AreWrites (turning turned (words + 1)) old new
turned_write turned words old mid new turns before one =
    rw (turning-next turned words, turns) (add_write (turning turned words) old mid new before one)

pub no_write : (turned words : ℕ) (old new : Device) → word_turn turned words ≢ 1
    → AreWrites (turning turned words) old new → AreWrites (turning turned (words + 1)) old new
no_write turned words old new stays before =
    let same : turning turned (words + 1) ≡ turning turned words =
    omega (arith, turning-next turned words, stays, turn_lt turned words) in
    rw same before

-- one word more is put where it doesn't count
pub put_more : (old mid new : Device) (base room turns turned words address value : ℕ)
    (bytes : List ℕ) → words < room + 1
    → address ≡ place base words (1 - word_turn turns words) → value ≡ record_word bytes words
    → GoesOn old mid → KeepsCounted base room turns (state_of old).map (state_of mid).map
    → HaveWords words (state_of mid).map base bytes turns turned
    → PutsOne {T = ℕ} mid address value (Ok 0) new
    → GoesOn old new × KeepsCounted base room turns (state_of old).map (state_of new).map
    × HaveWords (words + 1) (state_of new).map base bytes turns turned × AreWrites 1 mid new
put_more old mid new base room turns turned words address value bytes low there is goes keeps have puts =
    let was : Map = (state_of mid).map in
    let map : Map = (state_of new).map in
    let put = rw (there, is) at puts in
    let other : IsOther base room turns address =
    record { word = words; within = low; is = there } in (
      goes_on_both old mid new goes puts.0,
      keeps_more (λ a. IsOther base room turns a) (state_of old).map was map address other keeps
          (λ one ne. may_keep was map address value one puts.2 ne),
      have_more base turns turned words bytes was map have put.2 put.1,
      puts.3,
    )
