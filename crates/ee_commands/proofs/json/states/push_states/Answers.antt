use Rattle.std.proofs.Common.{arith, rules}
use Rattle.std.proofs.lemmas.Grind.{common_steps}
use Rattle.ee_commands.proofs.Objects.{objects_grow}
use Rattle.ee_commands.proofs.json.states.push_states.Goals as goal

pub pages-preserved : goal.pages-preserved
pages-preserved g c =
    objects_grow (g.F.Flash.device c.args.flash.now) c.pages.page c.args.out.now.items
    c.pages.out.items c.push_state.new.out.items c.state_of.result
    (g.met.F.Flash.formed c.args.flash.now) (search rules) c.pages.invariant c.state_of.ensures
    c.in_ok-push_state.ensures

pub returns : goal.returns
returns g c = grind (arith, common_steps, g.met.F.Flash.formed)
