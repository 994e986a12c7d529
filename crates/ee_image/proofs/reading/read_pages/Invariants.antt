use Rattle.ee_image.specs.Reading.{ArePagesRead}
use Rattle.ee_image.proofs.reading.read_pages.Given as goal

-- the lines so far were pages', which were kept
abbrev pub invariant-loop-page : goal.invariant-loop-page
invariant-loop-page g l = ArePagesRead l.shape.words l.page l.text l.rest l.cells l.wear.items
