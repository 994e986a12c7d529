use Rattle.std.proofs.Common.{◌≡◌, arith, rules}
use Rattle.ee_core.specs.State.{state_of}
use Rattle.ee_commands.proofs.Cleaning.{cleans_more}
use Rattle.ee_commands.proofs.Fronts.{front_all, front_more}
use Rattle.ee_commands.proofs.images.clean_all.Goals as goal

pub returns-clause-wear : goal.returns-clause-wear
returns-clause-wear g c =
    let now = g.V.Variables.device c.cleaning.store in
    let none : (state_of now).pending ≡ 0 =
    omega (arith, c.cleaning.invariant.count, c.cleaning.invariant.within) in
    front_all (g.V.Variables.device c.args.store.now) now c.cleaning.invariant.erased none

pub cleaning-preserved : goal.cleaning-preserved
cleaning-preserved g c =
    let device = g.V.Variables.device in
    record {
      stays_on = search rules;
      same_size = search rules;
      within = search rules;
      waited = search rules;
      count = search rules;
      kept = search rules;
      erased = search (rules, front_more);
      cleans =
          cleans_more c.cleaning.erased (device c.args.store.now) (device c.cleaning.store)
          (device c.clean_one.new.store) c.cleaning.invariant.cleans c.clean_one.ensures.cleans;
    }
