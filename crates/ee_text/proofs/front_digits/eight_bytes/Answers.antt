use Rattle.std.proofs.Common.{◌∙◌, ap, arith, subst, sym}
use Rattle.std.specs.List.{prefix_len}
use Rattle.ee_text.proofs.Eights.{IsFront, front_is_digits, front_is_worth, is_digit}
use Rattle.ee_text.proofs.front_digits.eight_bytes.Goals as goal

front : (c : goal.After-worth_of) → IsFront c.args.bytes.now c.front_len-count.result
front c =
    subst (IsFront c.args.bytes.now)
    (sym
    (c.front_len-count.ensures.count ∙ ap (prefix_len is_digit) c.as_digits-digits.ensures))
    (front_is_digits c.args.bytes.now c.fits-bytes)

pub returns-clause-worth : goal.returns-clause-worth
returns-clause-worth c =
    front_is_worth c.args.bytes.now c.as_digits-digits.result c.from_be_bytes-word.result
    c.front_len-count.result _ c.worth_of.result (omega arith)
    c.as_digits-digits.ensures c.from_be_bytes-word.ensures (front c) (omega arith)
    c.worth_of.ensures

pub returns-clause-all : goal.returns-clause-all
returns-clause-all c = (front c).all
