use Rattle.std.proofs.Common.{◌∙◌, ◌++◌, ap}
use Rattle.std.proofs.lemmas.Result.{on_ok_weaker}
use Rattle.ee_shell.specs.Part.Inspecting.{live_slots}
use Rattle.ee_shell.proofs.PartLemmas.Inspections.{told_doubts}
use Rattle.ee_shell.proofs.part.inspecting.push_doubts.Goals as goal

pub returns : goal.returns
returns g c =
    let slots = live_slots (g.F.Flash.device c.args.flash.now) c.args.layout.now in
    let told =
    ap (λ l. c.args.out.now.items ++ l)
    (told_doubts c.args.telling slots c.args.spoken.now c.last_torn.result c.last_torn.ensures
    c.requires.spoken) in
    on_ok_weaker c.push_doubted.result (λ here. here ∙ told) c.push_doubted.ensures
