use Rattle.std.proofs.Common.{◌≡◌, ◌<◌, ◌+◌, ℕ, get_or}
use Rattle.ee_flash.specs.Device.{word_at}
use Rattle.ee_flash.specs.Runs.{number_of}
use Rattle.ee_web.specs.Draft.{drafted_device}
use Rattle.ee_web.specs.Listing.{steps_of}
use Rattle.ee_web.proofs.draft.DraftFlashFlash.run.Given as goal

abbrev pub invariant-loop-behind : goal.invariant-loop-behind
invariant-loop-behind g l =
    let draft = l.fn.self in
    let device =
    drafted_device g.K.Lent.start (steps_of draft.count draft.listed.now) draft.wear.items
    draft.cuts draft.on in
    (k : ℕ) → k < l.behind → get_or l.room k 0 ≡ number_of (word_at device l.fn.page (l.fn.at + k))
