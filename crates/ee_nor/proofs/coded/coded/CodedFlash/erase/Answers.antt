use Rattle.std.proofs.lemmas.Result.{on_err_weaker, on_ok_weaker}
use Rattle.std.proofs.Common.{ap, ◌∙◌}
use Rattle.ee_nor.specs.Coded.Coded.{coded_device}
use Rattle.ee_nor.proofs.CodedLemmas.Steps.{device_erased, erase_left, safe_erased}
use Rattle.ee_nor.proofs.coded.coded.CodedFlash.erase.Goals as goal

pub invariant_of-self : goal.invariant_of-self
invariant_of-self g c =
    let formed = g.met.N.EccNor.formed in
    record {
      safe = safe_erased _ _ c.args.page (formed c.args.self.now.nor) (formed c.erase.new.self)
          c.requires c.args.self.now.safe c.erase.result c.erase.ensures.done c.erase.ensures.cut;
    }

pub returns-clause-done : goal.returns-clause-done
returns-clause-done g c =
    on_ok_weaker c.erase.result
    (λ done. ap coded_device done
    ∙ device_erased (g.N.EccNor.ecc c.args.self.now.nor) c.args.page)
    c.erase.ensures.done

pub returns-clause-cut : goal.returns-clause-cut
returns-clause-cut g c =
    let formed = g.met.N.EccNor.formed in
    on_err_weaker c.erase.result
    (erase_left _ _ c.args.page (formed c.args.self.now.nor) (formed c.erase.new.self)
    c.requires c.args.self.now.safe) c.erase.ensures.cut
