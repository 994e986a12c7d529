use Rattle.std.proofs.Common.{rules}
use Rattle.ee_settings.proofs.schema.Schema.set.Goals as goal

pub returns : goal.returns
returns g c = search rules fits 100
