use Rattle.std.proofs.Common.{◌∙◌, ap, arith, rules}
use Rattle.ee_shell.proofs.DumpsLemmas.Sought.{page_is_free, place_more}
use Rattle.ee_shell.proofs.dumps.places.sought_in.Goals as goal

pub loop-at-preserved : goal.loop-at-preserved
loop-at-preserved g c =
    place_more c.args.sought (g.F.Flash.device c.args.flash.now) c.args.page c.loop-at.at
    c.loop-at.invariant (search rules)

pub returns-clause-none : goal.returns-clause-none
returns-clause-none g c =
    page_is_free c.args.sought (g.F.Flash.device c.args.flash.now) c.args.page c.loop-at.at
    (g.met.F.Flash.formed c.args.flash.now) c.requires
    (omega (arith, c.words-at-end.ensures.value ∙ ap (λ s. s.words) c.shape.ensures))
    c.loop-at.invariant
