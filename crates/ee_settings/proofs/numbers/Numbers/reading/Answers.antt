use Rattle.std.proofs.Common.{rules}
use Rattle.ee_settings.proofs.numbers.Numbers.reading.Goals as goal

pub returns-in-Some : goal.returns-in-Some
returns-in-Some c = search rules
