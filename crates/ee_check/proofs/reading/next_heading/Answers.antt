use Rattle.ee_text.proofs.Public.{no_line}
use Rattle.ee_check.specs.Text.{heading}
use Rattle.ee_check.proofs.Fields.{none_beside}
use Rattle.ee_check.proofs.Lines.{other_heading}
use Rattle.ee_check.proofs.reading.next_heading.Goals as goal

pub returns-in_err-line-clause-none : goal.returns-in_err-line-clause-none
returns-in_err-line-clause-none c =
    rw c.from_residual.ensures
    (λ claim more proper e. no_line c.args.text.now
    (heading claim.slots claim.fill claim.live claim.writes) more c.in_err-line.ensures.none
    e)

pub returns-clause-none : goal.returns-clause-none
returns-clause-none c =
    rw c.zip.ensures (none_beside c.read_heading.result _ _ (λ none. other_heading c.args.text.now
    c.in_ok-line.line.now c.in_ok-line.rest.now c.in_ok-line.ensures.parts
    c.in_ok-line.ensures.first
    (λ slots fill live writes a b d e same. let some =
    c.read_heading.ensures.only slots fill live writes a b d e same in
    cc (none, some))))
