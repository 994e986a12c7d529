-- What a law of this crate needs: without the named premise it would be false, and here is where.
use Rattle.std.proofs.Common.{◌≡◌, ◌∙◌, ◌⊎◌, inr, ℕ, true, false, Ok, List, [], ◌∷◌, get_or, refl, ap, arith}
use Rattle.std.proofs.lemmas.List.{get_or-set_same}
use Rattle.std.proofs.lemmas.List.Elements.{All-cons, All-nil}
use Rattle.ee_flash.specs.Device.{Device, IsFormed, wear_at}
use Rattle.ee_flash.specs.Step.{one_more}
use Rattle.ee_core.specs.Calls.{Cleans}
use Rattle.ee_core.specs.Runs.{Call, Cleaned, IsWholeRun, is_cut}
use Rattle.ee_core.specs.State.{CountsWear, state_of}
use Rattle.ee_check.specs.declared.change.Change.{Change}
use Rattle.ee_check.specs.Schedule.{Situation}
use Rattle.ee_plan.specs.Lasting.{FirstWaits, LastsAsLong, MakesFewest}

-- a store of no slots, of which nothing is asked
abbrev no_slots : Situation
no_slots = record { slots = 0; fill = 0; live = [] }

-- `fewest_moves_last_as_long` needs that no clean step erases: a page that one erases wears, where
-- a schedule of no change wears none
pub fewest_moves_last_as_long_needs_no_clean_step
    :
    ((start : Situation) (trace : List Change) (calls : List Call) (old new : Device)
    → MakesFewest start trace calls old new
    → ((state_of old).pending ≡ 0) ⊎ FirstWaits old → LastsAsLong 0 start trace old new)
    → (old new : Device) → IsFormed old → FirstWaits old → CountsWear old → Cleans old (Ok true) new
    → ⊥
fewest_moves_last_as_long_needs_no_clean_step law old new formed first counts cleaned =
    let page = cleaned.lowest.page in
    let within = cleaned.lowest.wear.there 0 0 (omega arith) in
    let run : IsWholeRun (Cleaned (Ok true) ∷ []) old new = record {
      run = (new, cleaned, refl);
      without_cuts =
          All-cons (λ (call : Call). is_cut call ≡ false) (Cleaned (Ok true)) [] refl
          (All-nil (λ (call : Call). is_cut call ≡ false));
    } in
    let made : MakesFewest no_slots [] (Cleaned (Ok true) ∷ []) old new =
    record { run = run; fewest = λ schedule is. omega arith } in
    let lasts =
    law no_slots [] (Cleaned (Ok true) ∷ []) old new made (inr first) [] first.side
    first.generation [] page (record { allowed = tt; changes = refl }) first.live
    (record {
      taken = record { formed = formed; on = cleaned.was_on; can = tt };
      turns = refl;
      blank = tt;
    }) (omega (arith, within, formed.wear_length)) in
    let below = counts page 0 within in
    let more : wear_at new page ≡ one_more (wear_at old page) =
    ap (λ (wear : List ℕ). get_or wear page 0) cleaned.lowest.wear.wear_is
    ∙ get_or-set_same old.wear page (one_more (wear_at old page)) 0 within in
    absurd (omega (arith, lasts.2, below, more))
