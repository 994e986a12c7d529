use Rattle.std.proofs.Common.{◌*◌, ◌/◌, ◌%◌, ◌^◌, ◌<◌, ℕ, arith, refl}
use Rattle.ee_records.proofs.words.byte_of.Goals as goal

byte_fits : (value : ℕ) → value % 256 < 256
byte_fits value = omega arith

pub overflow_cast-result-2 : goal.overflow_cast-result-2
overflow_cast-result-2 c = record { fits = byte_fits (c.args.value / 2 ^ (8 * c.args.place)) }

pub returns : goal.returns
returns c = refl
