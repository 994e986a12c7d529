use Rattle.std.proofs.Common.{arith}
use Rattle.std.proofs.lemmas.List.Elements.{All-from_get_or}
use Rattle.ee_flash.specs.Device.{IsBelowAllOnes}
use Rattle.ee_flash.specs.declared.word.Word.TheVariants.{Erased}
use Rattle.ee_flash.proofs.cells.first_all_ones.Goals as goal

pub returns-clause-none : goal.returns-clause-none
returns-clause-none c = All-from_get_or IsBelowAllOnes c.args.words.now Erased (λ k within. c.loop-at.invariant k (omega arith))
