-- What forgetting a record, or the words that it doesn't need, leaves.
use Rattle.std.proofs.Common.{◌≡◌, ◌≢◌, ◌∙◌, ◌<◌, ◌⊎◌, ◌+◌, ◌*◌, ◌/◌, ◌%◌, ℕ, Option, Some, None, Ok, Err, inl, inr, refl, sym, ap, arith}
use Rattle.std.proofs.lemmas.Bool.{cases_eq}
use Rattle.ee_flash.specs.Device.{Device, IsOn}
use Rattle.ee_flash.specs.Power.{GoesOn}
use Rattle.ee_pages.specs.Meaning.{Map, Forget}
use Rattle.ee_core.proofs.Public.{cut_map, forget-at, forget-other, goes_on_both}
use Rattle.ee_core.specs.Calls.{Forgets}
use Rattle.ee_core.specs.State.{state_of}
use Rattle.ee_core.specs.declared.variables.ForgetFault.{ForgetFault}
use Rattle.ee_core.specs.declared.variables.ForgetFault.TheVariants as store_forget
use Rattle.ee_core.specs.declared.variables.Written.{Written}
use Rattle.ee_core.specs.declared.variables.Written.TheVariants.{Appended, Moved}
use Rattle.ee_records.proofs.Held.{same_record}
use Rattle.ee_records.proofs.Places.{base_of, turn_lt}
use Rattle.ee_records.proofs.Puts.{cut_later, forgot, keeps_more}
use Rattle.ee_records.specs.Calls.{AreTrimmed, ForgetsRecord, IsNeeded, KeepsMeaning, TrimsRecord}
use Rattle.ee_records.specs.Record.{HasNoRecord, KeepsBeside, KeepsRecord, place, place_by, word_turn, words_with}
use Rattle.ee_records.specs.Steps.{ForgetsOne, IsUnneeded, KeepsNeeded, MayForget}
use Rattle.ee_records.specs.declared.fault.TrimFault.{TrimFault}
use Rattle.ee_records.specs.declared.fault.TrimFault.TheVariants as trim

-- ---- a record that is forgotten

may_keep : (old new : Map) (address other : ℕ) → MayForget address old new → other ≢ address
    → new other ≡ old other
may_keep old new address other (inl e) ne = ap (λ (map : Map). map other) e
may_keep old new address other (inr e) ne =
    ap (λ (map : Map). map other) e ∙ forget-other old address other ne

forgot_others : (old new : Device) (base room : ℕ)
    → MayForget base (state_of old).map (state_of new).map → KeepsBeside base room old new
forgot_others old new base room may = λ address no.
    may_keep _ _ base address may (λ e. no (rw e (base_of base room)))

same_or_none : (old new : Device) (base room : ℕ)
    → MayForget base (state_of old).map (state_of new).map
    → KeepsRecord base room old new ⊎ HasNoRecord (state_of new).map base
same_or_none old new base room (inl e) =
    inl (rw e (record { head = refl; bytes = λ bytes. (λ held. held, λ held. held) }))
same_or_none old new base room (inr e) =
    inr (ap (λ (map : Map). map base) e ∙ forget-at (state_of old).map base base refl)

was_on : (old new : Device) (address : ℕ) (written : Written)
    → Forgets old address (Ok written) new → IsOn old
was_on old new address Appended h = h.proceeds.on
was_on old new address Moved h = h.proceeds.on

pub forgot_record : (T : Type 0) (done : T) (old new : Device) (base room : ℕ) (written : Written)
    → Forgets old base (Ok written) new → ForgetsRecord {T = T} old base room (Ok done) new
forgot_record T done old new base room written h =
    let one : ForgetsOne {T = ℕ} old base (Ok 0) new =
    forgot {T = ℕ} 0 old new base written h in
    ((was_on old new base written h, one.0), one.1, forgot_others old new base room one.2)

pub forget_refused : (T : Type 0) (bad : ForgetFault) (old new : Device) (base room : ℕ)
    → Forgets old base (Err bad) new → ForgetsRecord {T = T} old base room (Err bad) new
forget_refused T store_forget.Off old new base room h = h
forget_refused T store_forget.Absent old new base room h = h
forget_refused T store_forget.Spent old new base room h = (h.0, h.2, h.3)
forget_refused T store_forget.Cut old new base room h =
    let may = cut_map old new (Forget base) h in
    (h.cut, forgot_others old new base room may, same_or_none old new base room may)

-- ---- words that aren't needed

at_place : (base at : ℕ) → place base (at / 2) (at % 2) ≡ base + 1 + at
at_place base at = omega arith

trimmed_more : (base at : ℕ) (head : Option ℕ) (mid new : Map)
    → AreTrimmed at mid base head → MayForget (base + 1 + at) mid new
    → new (base + 1 + at) ≡ None → AreTrimmed (at + 1) new base head
trimmed_more base at head mid new before may none = λ k low unneeded.
    elim (cases_eq k at) [
      | inl same ↦ rw same none
      | inr ne ↦ may_keep mid new (base + 1 + at) (base + 1 + k) may (λ e. ne (omega (arith, e)))
          ∙ before k (omega (arith, low, ne)) unneeded
    ]

pub trimmed_skipped : (base at : ℕ) (head : Option ℕ) (map : Map) → AreTrimmed at map base head
    → IsNeeded head (at / 2) (at % 2) → AreTrimmed (at + 1) map base head
trimmed_skipped base at head map before needed = λ k low unneeded.
    elim (cases_eq k at) [
      | inl same ↦ absurd (unneeded (rw same needed))
      | inr ne ↦ before k (omega (arith, low, ne)) unneeded
    ]

-- ---- what is kept

at_of : (base word t at : ℕ) → t < 2 → place base word t ≡ base + 1 + at → (at / 2 ≡ word) × (at % 2 ≡ t)
at_of base word t at h e = (omega arith, omega arith)

-- a word that counts by the head is needed
counts : (base room h word : ℕ) (head : Option ℕ) → head ≡ Some h → word < words_with (h % 65536)
    → IsUnneeded base room head (place_by base (h / 65536) word) → ⊥
counts base room h word head is low un =
    let turn : ℕ = word_turn (h / 65536) word in
    let at = at_of base word turn un.at (turn_lt (h / 65536) word) un.is in
    un.unneeded (rw (is, at.0) (low, sym at.1))

pub trim_keeps : (old new : Device) (base room : ℕ) (head : Option ℕ) → room < 16384
    → (state_of old).map base ≡ head
    → KeepsNeeded base room head (state_of old).map (state_of new).map
    → KeepsMeaning base room old new
trim_keeps old new base room head fits is keeps = record {
  record_kept =
      same_record base room fits (state_of old).map (state_of new).map
      (keeps base (λ un. absurd (omega (arith, un.is))))
      (λ h word e low. keeps (place_by base (h / 65536) word)
      (counts base room h word head (sym is ∙ e) low));
  others = λ address no. keeps address (λ un.
      no (record { from = omega (arith, un.is); to = omega (arith, un.is, un.within) }));
}

-- ---- one more, and how it ends

keeps_one_more : (base room : ℕ) (head : Option ℕ) (at : ℕ) (old mid new : Map) (address : ℕ)
    → at < 2 * (room + 1) → address ≡ base + 1 + at → (IsNeeded head (at / 2) (at % 2) → ⊥)
    → KeepsNeeded base room head old mid → MayForget address mid new
    → KeepsNeeded base room head old new
keeps_one_more base room head at old mid new address low is unneeded keeps may =
    keeps_more (λ a. IsUnneeded base room head a) old mid new address
    (record { at = at; within = low; is = is; unneeded = unneeded }) keeps
    (λ other ne. may_keep mid new address other may ne)

pub forget_more : (old mid new : Device) (base room at address : ℕ) (head : Option ℕ)
    → at < 2 * (room + 1) → address ≡ place base (at / 2) (at % 2)
    → (IsNeeded head (at / 2) (at % 2) → ⊥) → GoesOn old mid
    → KeepsNeeded base room head (state_of old).map (state_of mid).map
    → AreTrimmed at (state_of mid).map base head
    → ForgetsOne {T = ℕ} mid address (Ok 0) new
    → GoesOn old new × KeepsNeeded base room head (state_of old).map (state_of new).map
    × AreTrimmed (at + 1) (state_of new).map base head
forget_more old mid new base room at address head low e unneeded goes keeps trimmed done =
    let there : address ≡ base + 1 + at = e ∙ at_place base at in
    let forgot = rw there at done in (
      goes_on_both old mid new goes done.0,
      keeps_one_more base room head at (state_of old).map (state_of mid).map (state_of new).map
          address low there unneeded keeps done.2,
      trimmed_more base at head (state_of mid).map (state_of new).map trimmed forgot.2 forgot.1,
    )

kept_by : (bad : TrimFault) (T : Type 0) (mid new : Device) (address : ℕ)
    → ForgetsOne {T = T} mid address (Err bad) new
    → MayForget address (state_of mid).map (state_of new).map
kept_by trim.Off T mid new address done = absurd done
kept_by trim.Spent T mid new address done = inl (ap (λ (d : Device). (state_of d).map) done.0)
kept_by trim.Cut T mid new address done = done.1

ends_by : (T S : Type 0) (bad : TrimFault) (old mid new : Device) (base room address : ℕ) → IsOn old
    → GoesOn old mid → KeepsMeaning base room old new → ForgetsOne {T = T} mid address (Err bad) new
    → TrimsRecord {T = S} old base room (Err bad) new
ends_by T S trim.Off old mid new base room address on goes kept done = absurd done
ends_by T S trim.Spent old mid new base room address on goes kept done =
    rw done.0 ((on, goes), rw done.0 at kept, done.1)
ends_by T S trim.Cut old mid new base room address on goes kept done =
    (cut_later old mid new goes done.0, kept)

pub trim_stops : (T S : Type 0) (bad : TrimFault) (old mid new : Device)
    (base room at address : ℕ) (head : Option ℕ) → room < 16384 → IsOn old
    → (state_of old).map base ≡ head
    → at < 2 * (room + 1) → address ≡ place base (at / 2) (at % 2)
    → (IsNeeded head (at / 2) (at % 2) → ⊥) → GoesOn old mid
    → KeepsNeeded base room head (state_of old).map (state_of mid).map
    → ForgetsOne {T = T} mid address (Err bad) new
    → TrimsRecord {T = S} old base room (Err bad) new
trim_stops T S bad old mid new base room at address head fits on is low e unneeded goes keeps done =
    ends_by T S bad old mid new base room address on goes
    (trim_keeps old new base room head fits is
    (keeps_one_more base room head at (state_of old).map (state_of mid).map (state_of new).map address
    low (e ∙ at_place base at) unneeded keeps (kept_by bad T mid new address done)))
    done
