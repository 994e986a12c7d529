use Rattle.std.proofs.Common.{rules}
use Rattle.std.proofs.lemmas.Result.{on_err_weaker, on_ok_weaker}
use Rattle.ee_nor.proofs.Steps.{erased_first, first_left, safe_after_first, safe_first_left, safe_second_left, second_done, second_left, still_erased, zero_done}
use Rattle.ee_nor.proofs.pairs.PairsFlash.program.Goals as goal

pub program-requires-clause-erased : goal.program-requires-clause-erased
program-requires-clause-erased g c =
    erased_first _ c.args.page c.args.at (g.met.N.Nor.formed c.args.self.now.nor)
    c.requires.page_in_range c.requires.place_in_range c.requires.erased

pub invariant_of-self : goal.invariant_of-self
invariant_of-self g c = record {
  safe = safe_first_left _ _ c.args.page c.args.at c.args.value
      (g.met.N.Nor.formed c.args.self.now.nor) c.requires.page_in_range c.requires.place_in_range
      c.requires.erased c.args.self.now.safe c.in_err-program.ensures.cut;
}

pub returns-in_err-program-clause-cut : goal.returns-in_err-program-clause-cut
returns-in_err-program-clause-cut g c =
    let left =
    first_left _ _ c.args.page c.args.at c.args.value (g.met.N.Nor.formed c.args.self.now.nor)
    c.requires.page_in_range c.requires.place_in_range c.requires.erased
    c.requires.below_all_ones c.in_err-program.ensures.cut in
    search rules

pub invariant_of-self-then-check : goal.invariant_of-self-then-check
invariant_of-self-then-check g c = record {
  safe = rw c.in_ok-program.ensures.done
      (safe_after_first _ c.args.page c.args.at (g.met.N.Nor.formed c.args.self.now.nor)
      c.requires.page_in_range c.requires.place_in_range c.requires.erased c.args.self.now.safe
      c.args.value);
}

pub returns-then-check-clause-done : goal.returns-then-check-clause-done
returns-then-check-clause-done g c =
    zero_done _ _ c.args.page c.args.at c.args.value (g.met.N.Nor.formed c.args.self.now.nor)
    c.requires.page_in_range c.requires.place_in_range c.requires.erased
    c.requires.below_all_ones (search rules) c.in_ok-program.ensures.done

pub program-requires-2-clause-erased : goal.program-requires-2-clause-erased
program-requires-2-clause-erased g c =
    rw c.in_ok-program.ensures.done
    (still_erased _ c.args.page c.args.at (g.met.N.Nor.formed c.args.self.now.nor)
    c.requires.page_in_range c.requires.place_in_range c.requires.erased c.args.value)

pub invariant_of-self-2 : goal.invariant_of-self-2
invariant_of-self-2 g c =
    let formed = g.met.N.Nor.formed c.args.self.now.nor in
    let check = c.complement_of-check.ensures in
    record {
      safe = safe_second_left _ _ c.args.page c.args.at c.args.value formed c.requires.page_in_range
          c.requires.place_in_range c.requires.erased
          _ c.in_ok-program.ensures.on c.in_ok-program.ensures.done c.requires.below_all_ones
          c.program-2.result c.args.self.now.safe (rw check at c.program-2.ensures.done)
          (rw check at c.program-2.ensures.cut);
    }

pub returns-clause-done : goal.returns-clause-done
returns-clause-done g c = search (rules, on_ok_weaker, second_done)

pub returns-clause-cut : goal.returns-clause-cut
returns-clause-cut g c = search (rules, on_err_weaker, second_left)
