use Rattle.std.proofs.Common.{◌≡◌, [], ◌∷◌, ◌++◌, rules}
use Rattle.ee_image.proofs.Taken.{one_word_more, too_few_words}
use Rattle.ee_image.proofs.reading.read_words.Goals as goal

pub loop-preserved : goal.loop-preserved
loop-preserved g c =
    let pushed : c.push.new.self ≡ c.loop.cells ++ c.in-Some.word ∷ [] = search rules in
    one_word_more c.loop.counter c.args.text.now c.loop.rest.now c.in-Some.behind.now
    c.args.cells.now c.loop.cells c.push.new.self c.in-Some.word c.loop.invariant
    c.in-Some.ensures.found pushed

pub returns-in_default-clause-fault : goal.returns-in_default-clause-fault
returns-in_default-clause-fault g c =
    too_few_words c.args.count c.loop.counter c.args.text.now c.loop.rest.now c.args.cells.now
    c.loop.cells c.loop.invariant c.loop-test.true
    (λ begins.
    c.in_default.ensures.only begins.word begins.behind begins.below_all_ones begins.text_is)
