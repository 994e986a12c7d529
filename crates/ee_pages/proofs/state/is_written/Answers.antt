use Rattle.std.proofs.Common.{rules}
use Rattle.ee_pages.proofs.state.is_written.Goals as goal

pub returns : goal.returns
returns c = search rules
