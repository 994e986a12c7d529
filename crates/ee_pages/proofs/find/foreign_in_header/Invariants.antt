use Rattle.std.proofs.Common.{◌≡◌, ℕ, ◌<◌, true}
use Rattle.ee_pages.specs.Legal.{fits, place_of}
use Rattle.ee_pages.specs.Sets.{set_of, word_of}
use Rattle.ee_pages.proofs.find.foreign_in_header.Given as goal

abbrev pub invariant-loop-at : goal.invariant-loop-at
invariant-loop-at g l =
    let device = g.F.Flash.device l.flash in
    (j : ℕ) → j < l.at
    → fits l.generation (place_of l.page j) (word_of (set_of l.side device) l.page j) ≡ true
