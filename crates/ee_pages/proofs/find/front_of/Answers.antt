use Rattle.std.proofs.Common.{◌≡◌, inl, inr, ◌+◌, ◌-◌, ◌*◌, true, ap, arith, subst, ◌∙◌}
use Rattle.std.proofs.Math.Nat.{min-eq_right}
use Rattle.std.proofs.lemmas.Bool.{cases_lt}
use Rattle.std.proofs.lemmas.List.Sums.{prefix_len-le-length}
use Rattle.ee_flash.specs.Size.{Size, slot_count}
use Rattle.ee_pages.specs.Legal.{is_allowed_at}
use Rattle.ee_pages.specs.Page.{is_written}
use Rattle.ee_pages.specs.Sets.{front, page_of_slot, set_of, slots_of}
use Rattle.ee_pages.proofs.Passes.{last_then}
use Rattle.ee_pages.proofs.Slots.{length-slots}
use Rattle.ee_pages.proofs.find.front_of.Goals.{then-here-gt0, else-here-gt0}
use Rattle.ee_pages.proofs.find.front_of.Goals as goal

pub loop-page-preserved : goal.loop-page-preserved
loop-page-preserved g c =
    let device = g.F.Flash.device c.args.flash.now in
    let page = c.loop-page.page in
    let so_far = c.loop-page.invariant in
    let here = c.in-Ok.ensures in
    let next = ap (λ n. n + c.in-Ok.here) so_far.used ∙ here.used in
    record {
      used = next;
      allowed = λ k j h within. elim (cases_lt k page) [
        | inl less ↦ so_far.allowed k j less within
        | inr more ↦
            let e : page ≡ k = omega (arith, h, more) in
            subst
            (λ n. is_allowed_at device.size c.args.generation (set_of c.args.side device) n j
            ≡ true) e (here.allowed j within)
      ];
      last = elim c.if-here-gt0.branch [
        | then-here-gt0 w ↦ w.last-is
            ∙ last_then device.size c.loop-page.used c.in-Ok.here page
            (front (slots_of (set_of c.args.side device))) so_far.used next w.if-here-gt0.true
        | else-here-gt0 w ↦
            let e : c.loop-page.used - 1 ≡ c.loop-page.used + c.in-Ok.here - 1 =
            omega (arith, w.if-here-gt0.false) in
            w.last-is ∙ so_far.last ∙ ap (page_of_slot device.size) e
      ];
      within = elim c.if-here-gt0.branch [
        | then-here-gt0 w ↦ rw w.last-is
            (omega (
              arith,
              c.loop-page-test.true,
              c.pages-page-end.ensures.value,
              ap (λ (size : Size). size.pages) c.shape-shape.ensures,
            ))
        | else-here-gt0 w ↦ rw w.last-is so_far.within
      ];
    }

pub returns-clause-front : goal.returns-clause-front
returns-clause-front g c =
    let device = g.F.Flash.device c.args.flash.now in
    let slots = slots_of (set_of c.args.side device) in
    let end : c.loop-page.page ≡ device.size.pages =
    omega (
      arith,
      c.loop-page-test.false,
      c.loop-page.auto.page-end,
      c.pages-page-end.ensures.value,
      ap (λ (size : Size). size.pages) c.shape-shape.ensures,
    ) in
    let rows : c.loop-page.page * (device.size.words - 4) ≡ slot_count device.size =
    ap (λ n. n * (device.size.words - 4)) end in
    let count = length-slots c.args.side device (g.met.F.Flash.formed c.args.flash.now) in
    c.loop-page.invariant.used
    ∙ min-eq_right {n = front slots} (omega (arith, rows, count, prefix_len-le-length is_written slots))
