use Rattle.std.proofs.Common.{Some, ap}
use Rattle.std.proofs.lemmas.Result.{on_ok_weaker}
use Rattle.std.specs.Prelude.{codes}
use Rattle.ee_text.specs.Line.{line_of}
use Rattle.ee_shell.specs.Part.Inspecting.{all_doubts, all_torn, live_slots, set_text, usage_in}
use Rattle.ee_shell.specs.declared.part.inspecting.Usage.{Usage}
use Rattle.ee_shell.specs.declared.part.inspecting.Telling.TheVariants.{Lines}
use Rattle.ee_shell.proofs.PartLemmas.Inspections.{four_parts}
use Rattle.ee_shell.proofs.part.inspecting.push_live.Goals as goal

pub returns : goal.returns
returns g c =
    let device = g.F.Flash.device c.args.flash.now in
    let layout = c.args.layout.now in
    on_ok_weaker c.push_doubts.result (λ here. four_parts c.args.out.now.items
    (line_of (codes "scan ok")) (line_of (set_text (usage_in device layout)))
    (line_of (set_text c.usage_of.result)) (all_torn Lines device (Some layout.side))
    (all_doubts Lines (live_slots device layout))
    c.extend_from_slice.new.self.items c.push_set.new.out.items c.push_torn.new.out.items
    c.push_doubts.new.out.items
    c.in_ok-extend_from_slice.ensures.items c.in_ok-push_set.ensures
    (ap (λ (usage : Usage). line_of (set_text usage)) c.usage_of.ensures) c.in_ok-push_torn.ensures
    here) c.push_doubts.ensures
