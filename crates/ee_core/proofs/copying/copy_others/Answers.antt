use Rattle.std.proofs.Common.{◌≡◌, ◌<◌, inl, inr, false, None, ap, refl, subst, sym, ◌∙◌, arith}
use Rattle.std.proofs.lemmas.Bool.{cases_Bool}
use Rattle.std.proofs.lemmas.Result.{IfOk-from_err, err_from_is_err_and}
use Rattle.ee_flash.specs.Size.{slot_count}
use Rattle.ee_pages.specs.Meaning.{meaning}
use Rattle.ee_pages.specs.LiveOrder.{IsNextLive}
use Rattle.ee_core.proofs.Fillings.{all_filled, next_filled, next_partly, none_filled, room}
use Rattle.ee_core.proofs.copying.copy_others.Goals as goal
use Rattle.ee_core.proofs.AfterCalls.{not_ok}
use Rattle.ee_core.proofs.Listed.{names-puts}
use Rattle.ee_core.specs.Puts.{puts_of}
use Rattle.ee_core.specs.declared.copying.Place.{Place}

pub live-init : goal.live-init
live-init g c =
    let device = g.F.Flash.device c.args.flash.now in
    rw c.requires.first
    (record {
      at = c.requires.at;
      filled =
          none_filled device c.args.layout.now c.args.place (puts_of c.args.puts.now)
          c.requires.at c.requires.only;
      below = omega arith;
      over = c.requires.over;
    })

pub copy_one-requires-clause-free : goal.copy_one-requires-clause-free
copy_one-requires-clause-free g c apart =
    let old = g.F.Flash.device c.args.flash.now in
    let filled = c.live.invariant.filled in
    let next = rw filled.keeps.same_slots at c.in-Some.ensures.next in
    let carries_is = c.has_put-carries.ensures.found ∙ sym (names-puts c.args.puts.now _) in
    let free : c.live.place.slot < slot_count old.size =
    room old c.args.layout.now c.args.place (puts_of c.args.puts.now)
    (g.C.LiveCursor.behind c.live.cursor) _ _ (g.F.Flash.device c.live.flash)
    (g.F.Flash.device c.live.flash) c.live.place.slot next filled (sym carries_is ∙ apart)
    c.in-Some.ensures.proper.1 (slot_count old.size) c.requires.fits in
    omega (arith, ap slot_count filled.keeps.same_size)

pub live-preserved : goal.live-preserved
live-preserved g c =
    let old = g.F.Flash.device c.args.flash.now in
    let filled = c.live.invariant.filled in
    let next = rw filled.keeps.same_slots at c.in-Some.ensures.next in
    let carries_is = c.has_put-carries.ensures.found ∙ sym (names-puts c.args.puts.now _) in
    let one = c.in_ok-copy_one.ensures in
    rw c.in-Some.ensures.moved (record {
      at = one.at;
      filled =
          next_filled old c.args.layout.now c.args.place (puts_of c.args.puts.now)
          (g.C.LiveCursor.behind c.live.cursor) _ _ (g.F.Flash.device c.live.flash)
          (g.F.Flash.device c.copy_one.new.flash) c.live.place.slot next filled
          c.copy_one.new.place.slot
          (λ same. (
            ap (λ (at : Place). at.slot) (one.passed (carries_is ∙ same)).1,
            (one.passed (carries_is ∙ same)).2,
          ))
          (λ apart. one.fills (carries_is ∙ apart));
      below = c.in-Some.ensures.proper.1;
      over = rw filled.keeps.same_slots at c.in-Some.ensures.over;
    })

pub returns : goal.returns
returns g c =
    let filled = c.live.invariant.filled in
    let none =
    subst (λ slots. IsNextLive (meaning slots) (g.C.LiveCursor.behind c.live.cursor) None)
    filled.keeps.same_slots c.in_default.ensures.next in
    record {
      fills =
          all_filled (g.F.Flash.device c.args.flash.now) c.args.layout.now c.args.place
          (puts_of c.args.puts.now) (g.C.LiveCursor.behind c.live.cursor)
          (g.F.Flash.device c.live.flash) c.live.place.slot filled c.live.invariant.below none;
      behind = c.live.invariant.at.behind;
    }

pub returns-in_err-copy_one : goal.returns-in_err-copy_one
returns-in_err-copy_one g c =
    let failed = err_from_is_err_and c.from_residual.result c.from_residual.ensures.1 in
    let filled = c.live.invariant.filled in
    let next = rw filled.keeps.same_slots at c.in-Some.ensures.next in
    let carries_is = c.has_put-carries.ensures.found ∙ sym (names-puts c.args.puts.now _) in
    let one = c.in_err-copy_one.ensures in
    let apart : c.has_put-carries.result ≡ false = elim (cases_Bool c.has_put-carries.result) [
      | inl same ↦ absurd (not_ok (one.passed same).0 refl)
      | inr other ↦ other
    ] in
    record {
      fills =
          rw failed.1
          (next_partly (g.F.Flash.device c.args.flash.now) c.args.layout.now c.args.place
          (puts_of c.args.puts.now) (g.C.LiveCursor.behind c.live.cursor) _ _
          (g.F.Flash.device c.live.flash) (g.F.Flash.device c.copy_one.new.flash)
          c.live.place.slot next filled (sym carries_is ∙ apart) c.in-Some.ensures.proper.1
          (one.fills apart));
      behind = IfOk-from_err _ _ c.from_residual.ensures.0;
    }
