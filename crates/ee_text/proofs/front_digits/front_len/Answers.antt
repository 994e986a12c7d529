use Rattle.std.proofs.Common.{◌%◌, ◌^◌, ◌<◌, ◌∙◌, ap, arith, ltb, map, not, replicate, w8}
use Rattle.std.proofs.lemmas.List.{length-map}
use Rattle.std.proofs.lemmas.List.Sums.{prefix_len-le-length}
use Rattle.std.proofs.lemmas.Simd.{mask_l-mod, tops_compared, trailing_mask_l, zip2_splat_left}
use Rattle.std.specs.Simd.Lanes.{mask_l}
use lib.Count.{count_trailing_zeros}
use Rattle.ee_text.proofs.front_digits.front_len.Goals as goal

pub returns-else-others-eq0-clause-count : goal.returns-else-others-eq0-clause-count
returns-else-others-eq0-clause-count c =
    let digits = c.args.digits in
    let compared =
    tops_compared w8 ltb (replicate 8 9) digits ∙ zip2_splat_left ltb 9 8 digits c.requires in
    let mask =
    ap (λ l. mask_l l % 2 ^ 64) compared
    ∙ mask_l-mod (map (λ digit. ltb 9 digit) digits) 64
    (omega (arith, c.requires, length-map digits (λ digit. ltb 9 digit))) in
    let some : 0 < mask_l (map (λ digit. ltb 9 digit) digits) =
    omega (arith, mask, c.if-others-eq0.false) in
    ap (count_trailing_zeros 64) mask
    ∙ trailing_mask_l (λ digit. ltb 9 digit) 64 digits (omega (arith, c.requires)) some

pub returns-else-others-eq0-clause-few : goal.returns-else-others-eq0-clause-few
returns-else-others-eq0-clause-few c =
    omega (
      arith,
      returns-else-others-eq0-clause-count c,
      prefix_len-le-length (λ digit. not (ltb 9 digit)) c.args.digits,
      c.requires,
    )
