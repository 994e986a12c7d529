use Rattle.std.proofs.Common.{◌≡◌}
use Rattle.ee_flash.specs.Device.{word_at}
use Rattle.ee_flash.specs.Laws.{all_completed}
use Rattle.ee_web.specs.Listing.{steps_of}
use Rattle.ee_web.proofs.draft.DraftFlashFlash.word.Given as goal

-- the word after as many of the steps
abbrev pub invariant-listed : goal.invariant-listed
invariant-listed g l =
    l.word ≡ word_at (all_completed (steps_of l.taken l.self.listed.now) g.K.Lent.start) l.page l.at
