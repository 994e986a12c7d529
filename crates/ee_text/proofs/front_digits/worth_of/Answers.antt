use Rattle.std.proofs.Common.{refl}
use Rattle.ee_text.proofs.Eights.{worth_is}
use Rattle.ee_text.proofs.front_digits.worth_of.Goals as goal

pub returns : goal.returns
returns c = λ digits long below is. worth_is c.args.word digits long below is _ _ refl refl
