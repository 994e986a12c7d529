use Rattle.std.proofs.lemmas.Result.{on_err_weaker, on_ok_weaker}
use Rattle.std.proofs.Common.{rules, ap, ◌∙◌}
use Rattle.ee_nor.specs.Pairs.{paired_device}
use Rattle.ee_nor.proofs.Steps.{erase_left, safe_erased}
use Rattle.ee_nor.proofs.Words.{paired_device-erased}
use Rattle.ee_nor.proofs.pairs.PairsFlash.erase.Goals as goal

pub invariant_of-self : goal.invariant_of-self
invariant_of-self g c = search (rules, safe_erased)

pub returns-clause-done : goal.returns-clause-done
returns-clause-done g c =
    on_ok_weaker c.erase.result
    (λ done. ap paired_device done
    ∙ paired_device-erased (g.N.Nor.nor c.args.self.now.nor) c.args.page)
    c.erase.ensures.done

pub returns-clause-cut : goal.returns-clause-cut
returns-clause-cut g c =
    let formed = g.met.N.Nor.formed in
    on_err_weaker c.erase.result
    (erase_left _ _ c.args.page (formed c.args.self.now.nor) (formed c.erase.new.self)
    c.requires c.args.self.now.safe) c.erase.ensures.cut
