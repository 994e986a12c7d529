use Rattle.std.proofs.lemmas.Result.{on_err_weaker, on_ok_weaker}
use Rattle.std.proofs.Common.{arith, ap, ◌∙◌}
use Rattle.ee_flash.specs.Size.{Size}
use Rattle.ee_nor.specs.Coded.Coded.{coded_number, payload_of_number}
use Rattle.ee_nor.proofs.CodedLemmas.Numbers.{coded_below, payload_fits}
use Rattle.ee_nor.proofs.CodedLemmas.Steps.{done_word, program_left, safe_programmed, still_erased}
use Rattle.ee_nor.proofs.coded.coded.CodedFlash.program.Goals as goal

pub program-requires-clause-erased : goal.program-requires-clause-erased
program-requires-clause-erased g c =
    still_erased _ c.args.page c.args.at (g.met.N.EccNor.formed c.args.self.now.nor)
    c.requires.page_in_range c.requires.place_in_range c.requires.erased

pub program-requires-clause-below_all_ones : goal.program-requires-clause-below_all_ones
program-requires-clause-below_all_ones g c =
    let below = c.requires.below_all_ones in
    let size = (g.N.EccNor.ecc c.args.self.now.nor).size in
    let limits = (g.met.N.EccNor.formed c.args.self.now.nor).within_limits in
    let is = c.coded_number-number.ensures.word
    ∙ ap (λ (size : Size). coded_number size c.args.value) c.shape.ensures in
    rw is
    (coded_below (payload_of_number size c.args.value) (payload_fits size c.args.value limits
    (omega (arith, below))))

pub invariant_of-self : goal.invariant_of-self
invariant_of-self g c =
    let below = c.requires.below_all_ones in
    let formed = g.met.N.EccNor.formed in
    let is = c.coded_number-number.ensures.word
    ∙ ap (λ (size : Size). coded_number size c.args.value) c.shape.ensures in
    record {
      safe = safe_programmed _ _ c.args.page c.args.at c.args.value
          (formed c.args.self.now.nor) (formed c.program.new.self)
          c.requires.page_in_range c.requires.place_in_range (omega (arith, below))
          c.requires.of_a_store c.program.result c.args.self.now.safe
          (rw is at c.program.ensures.done)
          (rw is at c.program.ensures.cut);
    }

pub returns-clause-done : goal.returns-clause-done
returns-clause-done g c =
    let below = c.requires.below_all_ones in
    let is = c.coded_number-number.ensures.word
    ∙ ap (λ (size : Size). coded_number size c.args.value) c.shape.ensures in
    on_ok_weaker c.program.result
    (done_word _ c.args.page c.args.at (g.met.N.EccNor.formed c.args.self.now.nor)
    c.requires.page_in_range c.requires.place_in_range c.args.value _ (omega (arith, below))
    c.requires.of_a_store) (rw is at c.program.ensures.done)

pub returns-clause-cut : goal.returns-clause-cut
returns-clause-cut g c =
    let below = c.requires.below_all_ones in
    let formed = g.met.N.EccNor.formed in
    let is = c.coded_number-number.ensures.word
    ∙ ap (λ (size : Size). coded_number size c.args.value) c.shape.ensures in
    on_err_weaker c.program.result
    (program_left _ _ c.args.page c.args.at c.args.value (formed c.args.self.now.nor)
    (formed c.program.new.self) c.requires.page_in_range c.requires.place_in_range
    (omega (arith, below)) c.requires.of_a_store c.requires.erased)
    (rw is at c.program.ensures.cut)
