use Rattle.std.proofs.Common.{◌<◌, ◌-◌, ◌%◌, ◌^◌, ◌∙◌, None, get_or, sym, ap, arith}
use Rattle.std.proofs.lemmas.List.{length-set}
use Rattle.std.specs.Prelude.{◌≢◌}
use Rattle.ee_pages.specs.Nearest.{last_named, named_by}
use Rattle.ee_pages.specs.declared.batch_items.TheConstants.{BATCH}
use Rattle.ee_pages.proofs.Nearest.{last-same}
use Rattle.ee_pages.proofs.Noting.{noted_anew, noted_first, noted_nowhere}
use Rattle.ee_pages.proofs.batch_items.Batch.put.Goals.{else-through-gt0-via-then-through-gt0+else-has, else-through-gt0-via-else-through-gt0}
use Rattle.ee_pages.proofs.batch_items.Batch.put.Goals as goal

pub returns-then-has-clause-noted : goal.returns-then-has-clause-noted
returns-then-has-clause-noted c =
    let list = c.args.self.now.named in
    let through = c.place_through-through.ensures in
    c.set.ensures
    ∙ noted_anew BATCH c.requires.rising.0 list (named_by c.args.number)
    c.place_through-through.result c.requires.rising.1 c.requires.few through.within
    (λ some. omega (arith, through.through some, c.address_in-address.ensures))
    (λ h. omega (arith, through.behind h, c.address_in-address.ensures))
    c.if-through-gt0.true ((c.has.ensures.yes c.if-has.true).1 ∙ c.address_in-address.ensures)

pub returns-then-has-clause-same : goal.returns-then-has-clause-same
returns-then-has-clause-same c = λ isnt.
    let list = c.args.self.now.named in
    let place = c.place_through-through.result - 1 in
    let has = c.has.ensures.yes c.if-has.true in
    record {
      same_length = rw c.set.ensures (length-set list place (named_by c.args.number));
      same_last =
          λ above. ap (last_named above) c.set.ensures
          ∙ last-same list above place (named_by c.args.number) (0, None) has.0
          (has.1 ∙ c.address_in-address.ensures);
    }

pub returns-then-through-lt-BATCH-clause-noted : goal.returns-then-through-lt-BATCH-clause-noted
returns-then-through-lt-BATCH-clause-noted c =
    let list = c.args.self.now.named in
    let place = c.place_through-through.result in
    let through = c.place_through-through.ensures in
    let other : 0 < place → (get_or list (place - 1) (0, None)).0 ≢ c.args.number % 2 ^ 16 =
    elim c.else-through-gt0.branch [
      | else-through-gt0-via-then-through-gt0+else-has w ↦
          λ some same. w.has.ensures.no w.if-has.false (omega (arith, some, through.within))
          (same ∙ sym c.address_in-address.ensures)
      | else-through-gt0-via-else-through-gt0 w ↦
          λ some same. absurd (omega (arith, some, w.if-through-gt0.false))
    ] in
    c.insert.ensures
    ∙ noted_first BATCH c.requires.rising.0 list (named_by c.args.number) place c.requires.rising.1
    c.requires.few through.within
    (λ some. omega (arith, through.through some, c.address_in-address.ensures))
    (λ h. omega (arith, through.behind h, c.address_in-address.ensures)) other

pub returns-else-through-lt-BATCH-clause-noted : goal.returns-else-through-lt-BATCH-clause-noted
returns-else-through-lt-BATCH-clause-noted c =
    let list = c.args.self.now.named in
    let place = c.place_through-through.result in
    let through = c.place_through-through.ensures in
    let other : 0 < place → (get_or list (place - 1) (0, None)).0 ≢ c.args.number % 2 ^ 16 =
    elim c.else-through-gt0.branch [
      | else-through-gt0-via-then-through-gt0+else-has w ↦
          λ some same. w.has.ensures.no w.if-has.false (omega (arith, some, through.within))
          (same ∙ sym c.address_in-address.ensures)
      | else-through-gt0-via-else-through-gt0 w ↦
          λ some same. absurd (omega (arith, some, w.if-through-gt0.false))
    ] in
    noted_nowhere BATCH c.requires.rising.0 list (named_by c.args.number) place c.requires.rising.1
    c.requires.few through.within
    (λ some. omega (arith, through.through some, c.address_in-address.ensures))
    (λ h. omega (arith, through.behind h, c.address_in-address.ensures)) other
    (omega (arith, c.if-through-lt-BATCH.false)) c.requires.proper.0
