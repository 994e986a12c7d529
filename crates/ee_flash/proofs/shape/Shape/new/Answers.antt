use Rattle.std.proofs.Common.{rules}
use Rattle.ee_flash.proofs.shape.Shape.new.Goals as goal

pub returns-else-pages-ge1 : goal.returns-else-pages-ge1
returns-else-pages-ge1 g c = search rules fits 100 parts 0
