-- What laws of this crate need: without the named premise they would be false, and here is where.
use Rattle.ee_core.proofs.Words.{◌+◌, ◌/◌, ◌<◌, ◌≤◌, ℕ, true, Ok, Err, List, [], ◌∷◌, get_or, refl, ap, sym, ◌∙◌, arith, true≢false, get_or-set_same, All-cons, All-nil}
use Rattle.ee_core.proofs.Sets.{Device, wear_at, GoesOn, page_count, one_more, IsLegal}
use Rattle.ee_core.proofs.Calls.{Cleans, Writes, CountsWear}
use Rattle.ee_core.specs.Runs.{Call, Cleaned, IsRun, IsWholeRun, Wrote, transfers}
use Rattle.ee_core.specs.declared.variables.WriteFault.TheVariants as write

-- `runs_go_on` needs that power is not cut in the run: each write in which it is cut is a run
-- that does not go on
pub runs_go_on_needs_no_cut
    : ((calls : List Call) (old new : Device) → IsRun calls old new → GoesOn old new)
    → (address value : ℕ) (old new : Device) → Writes old address value (Err write.Cut) new → ⊥
runs_go_on_needs_no_cut law address value old new cut =
    true≢false
    (sym cut.cut.was_on
    ∙ sym
    (law (Wrote address value (Err write.Cut) ∷ []) old new (new, cut, refl)).same_power
    ∙ cut.cut.is_off)

-- `no_page_wears_more` needs that no page waits at the start: each clean step that erases one is a
-- run without a transfer in which a page wears
pub no_page_wears_more_needs_none_waiting
    :
    ((calls : List Call) (old new : Device) (page : ℕ) → IsWholeRun calls old new
    → IsLegal old → page < page_count old.size
    → wear_at new page ≤ wear_at old page + (transfers calls + 1) / 2)
    → (old new : Device) → IsLegal old → CountsWear old → Cleans old (Ok true) new → ⊥
no_page_wears_more_needs_none_waiting law old new legal counts cleaned =
    let page = cleaned.lowest.page in
    let within = cleaned.lowest.wear.there 0 0 (omega arith) in
    let formed = legal.2.formed in
    let few =
    law (Cleaned (Ok true) ∷ []) old new page
    (record {
      run = (new, cleaned, refl);
      without_cuts = search (All-cons, All-nil);
    }) legal (omega arith) in
    let below = counts page 0 within in
    let more =
    ap (λ wear. get_or wear page 0) cleaned.lowest.wear.wear_is
    ∙ get_or-set_same old.wear page (one_more (wear_at old page)) 0 within in
    absurd (omega arith)
