use Rattle.std.proofs.Common.{ap, ◌∙◌}
use Rattle.ee_flash.specs.Size.{Size}
use Rattle.ee_pages.specs.Sets.{other as other_of}
use Rattle.ee_core.proofs.Places.{next_page, same_page}
use Rattle.ee_core.proofs.copying.next_place.Goals as goal

pub returns-then-place-words-clause-stands : goal.returns-then-place-words-clause-stands
returns-then-place-words-clause-stands g c =
    next_page _ (other_of c.args.layout.now.side) c.args.place c.words.result c.words.ensures.some
    (c.words.ensures.value ∙ ap (λ (size : Size). size.words) c.shape.ensures) c.requires.behind
    c.if-place-words.true

pub returns-clause-stands : goal.returns-clause-stands
returns-clause-stands g c =
    same_page _ (other_of c.args.layout.now.side) c.args.place c.words.result c.words.ensures.some
    (c.words.ensures.value ∙ ap (λ (size : Size). size.words) c.shape.ensures) c.requires.behind
    c.if-place-words.false
