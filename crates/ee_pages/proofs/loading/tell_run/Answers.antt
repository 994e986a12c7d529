use Rattle.std.proofs.Common.{rules, ◌≡◌, arith, get_or, length, sym, ◌∙◌, ◌<◌}
use Rattle.ee_pages.specs.Meaning.{latest_in}
use Rattle.ee_pages.proofs.ToldLists.{told_next, untold_next}
use Rattle.ee_pages.proofs.loading.tell_run.Goals.{in-Some, in_default}
use Rattle.ee_pages.proofs.loading.tell_run.Goals as goal

pub loop-at-preserved : goal.loop-at-preserved
loop-at-preserved g c = λ words are.
    let now = c.loop-at.entries in
    let list = c.args.entries.now in
    let none = c.index-entries-at.result in
    let below : c.loop-at.at < length list =
    omega (arith, c.loop-at-test.true, c.loop-at.auto.at-end) in
    let told : latest_in words (get_or now c.loop-at.at none).address ≡ c.said_in.result =
    sym (c.said_in.ensures words are) in
    let so_far = c.loop-at.invariant words are in
    elim c.match-said_in.branch [
      | in-Some w ↦ search (
        rules,
        w.entries-is,
        told,
        told_next words now list c.loop-at.at w.index-entries-at-in-Some.result below
            c.loop-at.auto.entries so_far none w.in-Some.said,
      )
      | in_default w ↦ rw w.entries-is
          (untold_next words now list c.loop-at.at none below c.loop-at.auto.entries
          so_far none (told ∙ w.in_default.is))
    ]
