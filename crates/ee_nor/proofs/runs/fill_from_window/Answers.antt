use Rattle.std.proofs.Common.{ap, arith, ◌∙◌}
use Rattle.ee_flash.specs.Runs.{number_of}
use Rattle.ee_nor.specs.Pairs.{pair_in}
use Rattle.ee_nor.proofs.PairRuns.{same_run_of_pairs}
use Rattle.ee_nor.proofs.runs.fill_from_window.Goals as goal

pub returns : goal.returns
returns c = same_run_of_pairs c.args.numbers.now c.words.room 0 _ c.words.invariant.0 (λ k h.
    c.words.invariant.1 k (omega arith)
    ∙ ap (λ place. number_of (pair_in c.args.numbers.now place)) (omega arith))
