use Rattle.std.proofs.Common.{◌-◌, ◌≤◌, arith, drop, get_or, length}
use Rattle.ee_flash.specs.declared.word.Word.TheVariants.{Erased}
use Rattle.ee_pages.specs.Meaning.{latest_in, says}
use Rattle.ee_pages.proofs.SpanTells.{behind_all, one_before, tells_both, tells_nothing}
use Rattle.ee_pages.proofs.span.tell_run.Goals as goal

pub behind-init : goal.behind-init
behind-init g c =
    let end = length c.args.readings.now in
    record {
      within = omega arith;
      tells = λ words are.
          tells_nothing (latest_in (drop end words)) c.args.span.now
          (λ address. behind_all words end address are.as_many);
    }

pub behind-preserved : goal.behind-preserved
behind-preserved g c =
    let left = c.behind.left in
    record {
      within = omega (arith, c.behind.invariant.within);
      tells = λ words are.
          let within : left ≤ length words = omega (arith, c.behind.invariant.within, are.as_many) in
          let word = get_or words (left - 1) Erased in
          tells_both (says word) (latest_in (drop left words))
          (latest_in (drop (left - 1) words)) c.args.span.now c.behind.span c.note.new.self
          (λ address. one_before words left address c.behind-test.true within)
          (c.behind.invariant.tells words are)
          (c.note.ensures word
          (are.each (left - 1) (omega (arith, within, c.behind-test.true))));
    }
