use Rattle.std.proofs.Common.{arith}
use Rattle.std.proofs.lemmas.Simd.{zip2_splat}
use Rattle.ee_text.proofs.front_digits.as_digits.Goals as goal

pub returns : goal.returns
returns c = zip2_splat _ c.args.bytes.now 8 48 (omega arith)
