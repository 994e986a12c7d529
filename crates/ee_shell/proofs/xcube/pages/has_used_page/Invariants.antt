use Rattle.std.proofs.Common.{◌≡◌, ℕ, ◌<◌, true}
use Rattle.ee_pages.specs.declared.state.State.TheVariants.{Erased}
use Rattle.ee_shell.specs.Xcube.Pages.{is_in}
use Rattle.ee_shell.proofs.xcube.pages.has_used_page.Given as goal

-- the pages so far are erased
abbrev pub invariant-loop-page : goal.invariant-loop-page
invariant-loop-page g l =
    (k : ℕ) → k < l.page → is_in Erased (g.F.Flash.device l.flash) k ≡ true
