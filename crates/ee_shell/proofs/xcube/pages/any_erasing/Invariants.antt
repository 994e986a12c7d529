use Rattle.std.proofs.Common.{◌≡◌}
use Rattle.ee_shell.specs.Xcube.Pages.{any_erasing}
use Rattle.ee_shell.proofs.xcube.pages.any_erasing.Given as goal

abbrev pub invariant-pages : goal.invariant-pages
invariant-pages g l = l.found ≡ any_erasing (g.F.Flash.device l.fn.flash) l.fn.first l.index
