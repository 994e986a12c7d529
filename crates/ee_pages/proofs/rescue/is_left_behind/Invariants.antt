use Rattle.std.proofs.Common.{◌≡◌, ◌<◌, ℕ, false}
use Rattle.ee_codec.specs.Reading.{mark_of}
use Rattle.ee_pages.specs.Sets.{is_mark, set_of, word_of}
use Rattle.ee_pages.proofs.rescue.is_left_behind.Given as goal

abbrev pub invariant-loop-page : goal.invariant-loop-page
invariant-loop-page g l =
    (k : ℕ) → k < l.page
    → is_mark (mark_of (word_of (set_of l.fn.side (g.F.Flash.device l.flash)) k 3)) ≡ false
