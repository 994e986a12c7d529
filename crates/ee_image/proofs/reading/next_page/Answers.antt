use Rattle.std.proofs.Common.{rules, arith}
use Rattle.std.proofs.lemmas.Grind.{common_steps}
use Rattle.ee_text.proofs.Public.{passed_on}
use Rattle.ee_image.proofs.Taken.{goes_on_wrong, page_read, words_wrong}
use Rattle.ee_image.proofs.reading.next_page.Goals as goal

pub returns-in_err-read_words-clause-fault : goal.returns-in_err-read_words-clause-fault
returns-in_err-read_words-clause-fault g c = search (rules, passed_on, words_wrong)

pub returns-in-10-clause-found : goal.returns-in-10-clause-found
returns-in-10-clause-found g c = search (rules, common_steps, page_read)

pub returns-in_default-2-clause-fault : goal.returns-in_default-2-clause-fault
returns-in_default-2-clause-fault g c =
    goes_on_wrong c.args.words c.args.text.now c.in-Some.rest.now c.in_ok-read_words.field-0.now
    c.args.cells.now c.read_words.new.cells c.requires
    (λ wear behind fits e. (c.in-Some.ensures.only wear behind fits e).1)
    c.in_ok-read_words.ensures.found
    (λ behind e. grind (arith, common_steps))

pub returns-in_default-clause-fault : goal.returns-in_default-clause-fault
returns-in_default-clause-fault g c = grind (arith, common_steps)
