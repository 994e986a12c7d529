use Rattle.std.proofs.Common.{arith, subst}
use Rattle.ee_nor.proofs.PairRuns.{high-window}
use Rattle.ee_nor.specs.Nor.{numbers_at}
use Rattle.ee_nor.specs.Pairs.{AreHigh}
use Rattle.ee_nor.proofs.low_pair.first_low_from.Goals as goal

pub returns-in-Some-low_in_window-clause-before : goal.returns-in-Some-low_in_window-clause-before
returns-in-Some-low_in_window-clause-before g c =
    let word = c.in-Some-low_in_window.word in
    let high =
    subst (λ numbers. AreHigh numbers 0 word) c.in-Some.ensures
    c.in-Some-low_in_window.ensures.before in
    high-window (numbers_at (g.N.Nor.nor c.args.nor.now) c.args.page) c.args.from c.args.count word
    (omega (arith, c.in-Some-low_in_window.ensures.within)) high

pub returns-in-None-low_in_window-clause-none : goal.returns-in-None-low_in_window-clause-none
returns-in-None-low_in_window-clause-none g c =
    let high =
    subst (λ numbers. AreHigh numbers 0 c.args.count) c.in-Some.ensures
    c.in-None-low_in_window.ensures.none in
    high-window (numbers_at (g.N.Nor.nor c.args.nor.now) c.args.page) c.args.from c.args.count
    c.args.count
    (omega arith) high
