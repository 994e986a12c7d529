use Rattle.std.proofs.Common.{rules}
use Rattle.ee_pages.proofs.side.first_page.Goals as goal

pub returns-in-Second : goal.returns-in-Second
returns-in-Second g c = search rules fits 100 parts 0
