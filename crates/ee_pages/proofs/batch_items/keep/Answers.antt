use Rattle.std.proofs.Common.{◌<◌, length, get_or, arith, refl}
use Rattle.std.proofs.lemmas.List.{length-set}
use Rattle.std.proofs.lemmas.List.Elements.{All-set}
use Rattle.std.proofs.lemmas.Grind.{drop_more_same}
use Rattle.ee_pages.specs.Nearest.{IsOfAddress}
use Rattle.ee_pages.proofs.BatchLists.{one_dies, one_lives, proper_number, rest_stays}
use Rattle.ee_pages.proofs.batch_items.keep.Goals.{then-gives_value, else-gives_value}
use Rattle.ee_pages.proofs.batch_items.keep.Goals as goal

pub loop-place-preserved : goal.loop-place-preserved
loop-place-preserved c =
    let old = c.args.numbers.now in
    let now = c.loop-place.numbers in
    let place = c.loop-place.place in
    let kept = c.loop-place.kept in
    let so_far = c.loop-place.invariant in
    let number = get_or now place 0 in
    let few : place < length old = omega (arith, c.loop-place-test.true, c.requires) in
    elim c.if-gives_value.branch [
      | then-gives_value w ↦ rw (w.numbers-is, w.kept-is) (record {
        living =
            one_lives old now place kept few so_far.living so_far.rest so_far.as_long so_far.few
            number refl c.gives_value.result c.gives_value.ensures w.if-gives_value.true;
        rest = rest_stays old now place kept few so_far.living so_far.rest so_far.as_long so_far.few
            number refl;
        as_long = omega (arith, length-set now kept number, so_far.as_long);
        few = omega (arith, so_far.few);
        within = omega (arith, c.loop-place-test.true);
        proper =
            λ all. All-set IsOfAddress now kept number
            (proper_number old now place kept few so_far.living so_far.rest so_far.as_long
            so_far.few number refl (so_far.proper all)) (so_far.proper all);
      })
      | else-gives_value w ↦ rw (w.numbers-is, w.kept-is) (record {
        living =
            one_dies old now place kept few so_far.living so_far.rest so_far.as_long so_far.few
            number refl c.gives_value.result c.gives_value.ensures w.if-gives_value.false;
        rest = drop_more_same now old place so_far.rest;
        as_long = so_far.as_long;
        few = omega (arith, so_far.few);
        within = omega (arith, c.loop-place-test.true);
        proper = so_far.proper;
      })
    ]
