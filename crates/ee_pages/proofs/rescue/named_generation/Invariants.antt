use Rattle.std.proofs.Common.{◌≡◌, ◌<◌, ℕ, None}
use Rattle.ee_codec.specs.Reading.{receive_of}
use Rattle.ee_pages.specs.Sets.{set_of, word_of}
use Rattle.ee_pages.proofs.rescue.named_generation.Given as goal

abbrev pub invariant-loop-page : goal.invariant-loop-page
invariant-loop-page g l =
    (k : ℕ) → k < l.page
    → receive_of (word_of (set_of l.fn.side (g.F.Flash.device l.flash)) k 0) ≡ None
