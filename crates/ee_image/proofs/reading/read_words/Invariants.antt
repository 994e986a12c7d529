use Rattle.ee_image.specs.Reading.{AreWordsRead}
use Rattle.ee_image.proofs.reading.read_words.Given as goal

-- the text began with so many words, which came behind the cells
abbrev pub invariant-loop : goal.invariant-loop
invariant-loop g l = AreWordsRead l.counter l.text l.rest l.fn.cells l.cells
