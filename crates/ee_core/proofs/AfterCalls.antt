-- Steps that went on, one after another.
use Rattle.ee_core.proofs.Words.{◌≡◌, ◌≢◌, ◌⊎◌, inl, inr, ℕ, Bool, ap, false, true, sym, Result, Ok, Err, IsErr, OnOk, true≢false, rules}
use Rattle.ee_core.proofs.Sets.{Device, IsOff, IsOn, page_at, GoesOn, device_after, is_marked, marking, IsStep, step_keeps_other_pages, Mark, calls_compose}

pub goes_on_same : (device : Device) → GoesOn device device
goes_on_same _ = search rules

pub goes_on_both : (old mid new : Device) → GoesOn old mid → GoesOn mid new → GoesOn old new
goes_on_both _ _ _ first second = (calls_compose _ _ _ first).0 second

pub not_both : (device : Device) → IsOn device → IsOff device → ⊥
not_both _ on off = absurd (cc (on, off))

-- at an error nothing is said of a success
pub never_on_ok : {T E : Type 0} (X : Type 0) (result : Result T E) → IsErr result → OnOk result X
never_on_ok X (Ok _) is = absurd (true≢false (sym is))
never_on_ok X (Err _) _ = tt

-- a mark wears no page
pub mark_keeps_wear : {new : Device} (page : ℕ) (mark : Mark) (old : Device)
    → (is_marked old page mark ≡ true → new ≡ old)
    → (is_marked old page mark ≡ false → new ≡ device_after (marking page mark) old)
    → new.wear ≡ old.wear
mark_keeps_wear _ _ _ present done = search rules

-- the pages apart from that of a step
pub same_but : (page : ℕ) (mark : Mark) (old new : Device)
    → (new ≡ old) ⊎ IsStep (marking page mark) old new → (other : ℕ) → other ≢ page
    → page_at new other ≡ page_at old other
same_but _ _ _ _ (inl same) other _ = ap (λ device. page_at device other) same
same_but _ _ _ _ (inr taken) _ apart = step_keeps_other_pages _ _ _ _ taken apart

-- no result is a success and an error
pub not_ok : {T E : Type 0} {value : T} {error : E} {result : Result T E} → result ≡ Ok value
    → result ≡ Err error → ⊥
not_ok is failed = absurd (cc (is, failed))

-- nor two successes
pub not_both_ok : {E : Type 0} (result : Result Bool E) → result ≡ Ok false → result ≡ Ok true → ⊥
not_both_ok _ first second = absurd (cc (first, second))
