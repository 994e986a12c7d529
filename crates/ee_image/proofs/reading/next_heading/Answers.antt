use Rattle.ee_image.proofs.Lines.{other_size}
use Rattle.ee_image.proofs.reading.next_heading.Goals as goal

pub returns-in_err-read_heading-clause-none : goal.returns-in_err-read_heading-clause-none
returns-in_err-read_heading-clause-none c =
    rw c.from_residual-in_err-read_heading.ensures
    (other_size c.args.text.now c.in_ok-line.line.now c.in_ok-line.rest.now
    c.in_ok-line.ensures.parts c.in_ok-line.ensures.first
    (λ size fits same. let some = c.in_err-read_heading.ensures.only size fits same in cc some))
