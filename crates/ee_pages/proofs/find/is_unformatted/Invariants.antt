use Rattle.std.proofs.Common.{◌≡◌, ℕ, ◌<◌, true}
use Rattle.ee_flash.specs.Device.{page_at}
use Rattle.ee_pages.specs.Page.{is_blank}
use Rattle.ee_pages.proofs.find.is_unformatted.Given as goal

abbrev pub invariant-loop-page : goal.invariant-loop-page
invariant-loop-page g l =
    (k : ℕ) → k < l.page → is_blank (page_at (g.F.Flash.device l.flash) k) ≡ true
