use Rattle.std.proofs.Common.{◌≡◌}
use Rattle.ee_flash.specs.Laws.{all_completed}
use Rattle.ee_web.specs.Listing.{steps_of}
use Rattle.ee_web.specs.Mirror.{IsMirror, mirrored_device}
use Rattle.ee_web.proofs.playing.play.Given as goal

-- the mirror after as many of the steps
abbrev pub invariant-listed : goal.invariant-listed
invariant-listed l =
    IsMirror l.shape l.words l.flags l.wears
    × (mirrored_device l.shape l.words l.flags l.wears
    ≡ all_completed (steps_of l.taken l.listed)
    (mirrored_device l.shape l.fn.words l.fn.flags l.fn.wears))
