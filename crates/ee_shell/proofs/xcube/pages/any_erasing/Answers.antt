use Rattle.std.proofs.Common.{◌∙◌, sym}
use Rattle.ee_shell.proofs.XcubeLemmas.Pages.{erasing-found, erasing-here, erasing-zero}
use Rattle.ee_shell.proofs.xcube.pages.any_erasing.Goals as goal
use Rattle.ee_shell.proofs.xcube.pages.any_erasing.Goals.{then-found, else-found}

pub pages-init : goal.pages-init
pages-init g c = sym (erasing-zero (g.F.Flash.device c.args.flash.now) c.args.first)

pub pages-preserved : goal.pages-preserved
pages-preserved g c =
    let device = g.F.Flash.device c.args.flash.now in
    elim c.if-found.branch [
      | then-found w ↦
          w.found-is ∙ w.if-found.true
          ∙ sym (erasing-found device c.args.first c.pages.index (sym c.pages.invariant ∙ w.if-found.true))
      | else-found w ↦
          w.found-is
          ∙ (w.is_state_word-found.ensures
          ∙ sym (erasing-here device c.args.first c.pages.index (sym c.pages.invariant ∙ w.if-found.false)))
    ]
