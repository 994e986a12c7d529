use Rattle.ee_pages.specs.Sets.{other as other_of}
use Rattle.ee_core.proofs.Places.{added_from, behind_slot}
use Rattle.ee_core.proofs.copying.stage_put.Goals as goal

pub stage-requires : goal.stage-requires
stage-requires g c =
    let next = c.next_place-next.ensures in
    record {
      at = record {
        generation = c.requires.at.generation;
        filling = rw next.same c.requires.at.filling;
        stands = next.stands;
      };
      free = rw next.same c.requires.free;
    }

pub returns : goal.returns
returns g c =
    let next = c.next_place-next in
    let done = c.in_ok-stage.ensures in
    record {
      fills = added_from _ _ _ _ _ _ next.ensures.same done.fills;
      behind =
          rw done.fills.keeps.same_size
          (behind_slot _ (other_of c.args.layout.now.side) next.result next.ensures.stands);
    }
