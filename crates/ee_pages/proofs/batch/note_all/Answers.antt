use Rattle.std.proofs.Common.{◌<◌, List, ap, arith, length, get_or, refl, sym, take, ◌∙◌}
use Rattle.std.proofs.lemmas.List.{take_all}
use Rattle.ee_flash.specs.declared.word.Word.{Word}
use Rattle.ee_pages.specs.Nearest.{with_each_named}
use Rattle.ee_flash.specs.declared.word.Word.TheVariants.{Erased}
use Rattle.ee_pages.specs.declared.batch_items.TheConstants.{BATCH}
use Rattle.ee_pages.proofs.Nearest.{one_word}
use Rattle.ee_pages.proofs.batch.note_all.Goals as goal

pub loop-reading-init : goal.loop-reading-init
loop-reading-init g c = record {
  named = λ words are. sym (take_all BATCH c.args.nearest.now.named c.requires.few);
  rising = c.requires.rising;
  few = c.requires.few;
  places = c.requires.places;
}

pub loop-reading-preserved : goal.loop-reading-preserved
loop-reading-preserved g c =
    let place = c.loop-reading.reading-index in
    let inside : place < length c.args.readings.now = c.loop-reading-test.true in
    let noted = c.note_within-span.ensures in
    record {
      named = λ words are.
          let below : place < length words = omega (arith, inside, are.as_many) in
          one_word BATCH c.args.above words place (get_or words place Erased)
          c.args.nearest.now.named c.loop-reading.nearest.named
          c.note_within-span.new.nearest.named below refl (c.loop-reading.invariant.named words are)
          (noted.noted (get_or words place Erased) (are.each place below));
      rising = noted.rising;
      few = noted.few;
      places = noted.places;
    }

pub returns-clause-noted : goal.returns-clause-noted
returns-clause-noted g c = λ words are.
    c.loop-reading.invariant.named words are
    ∙ ap
    (λ (words : List Word).
    take BATCH (with_each_named c.args.above words c.args.nearest.now.named))
    (take_all c.loop-reading.reading-index words
    (omega (arith, c.loop-reading-test.false, are.as_many)))
