use Rattle.ee_check.proofs.Fields.{none_beside}
use Rattle.ee_check.proofs.Lines.{other_stretch}
use Rattle.ee_check.proofs.reading.next_stretch.Goals as goal

pub returns-clause-none : goal.returns-clause-none
returns-clause-none c =
    rw c.zip.ensures (none_beside c.read_stretch.result _ _ (λ none. other_stretch c.args.text.now
    c.in_ok-line.line.now c.in_ok-line.rest.now c.in_ok-line.ensures.parts
    c.in_ok-line.ensures.first
    (λ stretch proper same.
    let some = c.read_stretch.ensures.only stretch proper same in cc (none, some))))
