-- What a law of this crate needs: without the named premise it would be false, and here is where.
use Rattle.std.proofs.Common.{List, [], is_some, refl, ap, sym}
use Rattle.std.proofs.lemmas.Bool.{true≢false}
use Rattle.ee_flash.specs.Device.{blank_device}
use Rattle.ee_flash.specs.Size.{size_of}
use Rattle.ee_core.specs.Points.{Point, closed_point}
use Rattle.ee_store.specs.PowerCuts.Events.{AreTurns, Turn}
use Rattle.ee_store.specs.PowerCuts.Outcome.{WasKept}

-- the smallest device, as it comes from its maker
abbrev raw : Point
raw = closed_point (blank_device (size_of 1 5))

-- `no_answered_change_is_lost` needs that the image is legal at the start: on a device that was
-- never formatted no event at all leaves an image that is not legal
pub no_answered_change_is_lost_needs_legal
    :
    ((turns : List Turn) (old new : Point) → AreTurns turns old new
    → WasKept turns old.device new.device)
    → ⊥
no_answered_change_is_lost_needs_legal law =
    let kept = law [] raw raw refl in
    true≢false (sym (ap is_some kept.legal.2.live))
