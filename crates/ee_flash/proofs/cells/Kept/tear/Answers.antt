use Rattle.std.proofs.Common.{◌≡◌, ◌+◌, ◌-◌, arith, inl, inr}
use Rattle.ee_flash.specs.Kept.{words_of}
use Rattle.ee_flash.proofs.Kept.{same_part, torn_one_more}
use Rattle.ee_flash.proofs.cells.Kept.tear.Goals as goal

pub loop-place-preserved : goal.loop-place-preserved
loop-place-preserved g c =
    torn_one_more c.args.start c.loop-place.place c.args.tear (words_of c.args.self.now)
    (words_of c.loop-place.self) (words_of c.set.new.self) c.erased-word.result c.word.result
    c.loop-place.invariant c.loop-place.auto.place (omega arith) c.word.ensures
    c.erased-word.ensures.word c.set.ensures

pub returns : goal.returns
returns g c =
    let end : c.args.start + (c.args.end - c.args.start) ≡ c.args.end = omega arith in
    same_part c.args.start (c.args.end - c.args.start) c.args.tear (words_of c.args.self.now) (words_of c.loop-place.self)
    (omega arith) c.loop-place.invariant.0
    (λ k h. c.loop-place.invariant.1 k (omega arith))
    (λ place h. c.loop-place.invariant.2 place (elim h [
      | inl before ↦ inl before
      | inr past ↦ inr (omega arith)
    ]))
