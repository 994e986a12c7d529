use Rattle.std.proofs.Common.{rules}
use Rattle.ee_commands.proofs.NewImages.{is_formatted}
use Rattle.ee_commands.proofs.images.format_image.Goals as goal

pub returns-clause-formatted : goal.returns-clause-formatted
returns-clause-formatted g c = search (rules, is_formatted)
