use Rattle.ee_web.proofs.PlayedSteps.{word_programmed}
use Rattle.ee_web.proofs.playing.program.Goals as goal

pub returns-clause-done : goal.returns-clause-done
returns-clause-done c wears =
    word_programmed c.args.shape c.args.words.now c.args.flags.now wears c.args.page c.args.at
    c.args.value c.words.result c.requires.words c.requires.flags c.requires.page_in_range
    c.requires.place_in_range c.requires.below_all_ones c.words.ensures.value
