use Rattle.std.proofs.Common.{◌<◌, ap, arith, subst, sym}
use Rattle.std.proofs.lemmas.Result.{IfOk-from_err, err_from_is_err_and}
use Rattle.ee_flash.specs.Size.{slot_count}
use Rattle.ee_core.proofs.Fillings.{FilledBy, all_put, none_put, one_put, one_put_partly, put_room}
use Rattle.ee_core.proofs.copying.put_all.Goals as goal

pub puts-init : goal.puts-init
puts-init g c =
    let old = g.F.Flash.device c.args.flash.now in
    record {
      filled =
          subst (λ slot. FilledBy old c.args.layout.now c.args.puts.now 0 old slot)
          (sym c.first_place-place.ensures.first)
          (none_put old c.args.layout.now c.args.puts.now c.requires.opened);
      behind = c.first_place-place.ensures.behind;
    }

pub stage_put-requires-clause-at : goal.stage_put-requires-clause-at
stage_put-requires-clause-at g c =
    let filled = c.puts.invariant.filled in
    record {
      generation = c.requires.opened.generation;
      filling = filled.filling;
      behind = c.puts.invariant.behind;
    }

pub stage_put-requires-clause-free : goal.stage_put-requires-clause-free
stage_put-requires-clause-free g c =
    let old = g.F.Flash.device c.args.flash.now in
    let mid = g.F.Flash.device c.puts.flash in
    let filled = c.puts.invariant.filled in
    let room : c.puts.place.slot < slot_count old.size =
    put_room old c.args.layout.now c.args.puts.now c.puts.put-index c.put-item.result mid mid
    c.puts.place.slot c.puts-test.true c.put-item.is filled (slot_count old.size)
    c.requires.fits in
    omega (arith, room, ap slot_count filled.keeps.same_size)

pub puts-preserved : goal.puts-preserved
puts-preserved g c =
    let old = g.F.Flash.device c.args.flash.now in
    let mid = g.F.Flash.device c.puts.flash in
    let new = g.F.Flash.device c.stage_put.new.flash in
    record {
      filled =
          one_put old c.args.layout.now c.args.puts.now c.puts.put-index c.put-item.result mid new
          c.puts.place.slot c.puts-test.true c.put-item.is c.puts.invariant.filled
          c.stage_put.new.place.slot c.in_ok-stage_put.ensures.fills;
      behind = c.in_ok-stage_put.ensures.behind;
    }

pub returns : goal.returns
returns g c =
    let held = c.puts.invariant in
    record {
      fills =
          all_put (g.F.Flash.device c.args.flash.now) c.args.layout.now c.args.puts.now
          c.puts.put-index (g.F.Flash.device c.puts.flash) c.puts.place.slot c.puts-test.false
          held.filled;
      behind = held.behind;
    }

pub returns-in_err-stage_put : goal.returns-in_err-stage_put
returns-in_err-stage_put g c =
    let old = g.F.Flash.device c.args.flash.now in
    let mid = g.F.Flash.device c.puts.flash in
    let new = g.F.Flash.device c.stage_put.new.flash in
    let is = err_from_is_err_and c.from_residual.result c.from_residual.ensures.1 in
    record {
      fills =
          rw is.1
          (one_put_partly old c.args.layout.now c.args.puts.now c.puts.put-index
          c.put-item.result mid new c.puts.place.slot c.puts-test.true c.put-item.is
          c.puts.invariant.filled c.in_err-stage_put.ensures.fills);
      behind = IfOk-from_err _ _ c.from_residual.ensures.0;
    }
