use Rattle.std.proofs.Common.{◌≡◌, ℕ, ◌<◌, ◌-◌, true}
use Rattle.ee_pages.specs.Layout.{front_to}
use Rattle.ee_pages.specs.Legal.{is_allowed_at}
use Rattle.ee_pages.specs.Sets.{page_of_slot, set_of}
use Rattle.ee_pages.proofs.find.front_of.Given as goal

abbrev pub invariant-loop-page : goal.invariant-loop-page
invariant-loop-page g l = record {
  used : l.used ≡ front_to (g.F.Flash.device l.flash) l.side l.page;
  allowed : (k j : ℕ) → k < l.page → j < (g.F.Flash.device l.flash).size.words
      → is_allowed_at (g.F.Flash.device l.flash).size l.generation
      (set_of l.side (g.F.Flash.device l.flash)) k j
      ≡ true;
  last : l.last ≡ page_of_slot (g.F.Flash.device l.flash).size (l.used - 1);
  within : l.last < (g.F.Flash.device l.flash).size.pages;
}
