use Rattle.std.proofs.Common.{◌≡◌, ◌≤◌, ◌<◌, ◌+◌, ◌⊎◌, ◌%◌, ◌^◌, ◌∙◌, sym, subst}
use Rattle.ee_pages.specs.declared.batch_items.TheConstants.{BATCH}
use Rattle.ee_pages.proofs.Noting.{still_few, still_rising, word_kept_away, word_noted, word_of_other}
use Rattle.ee_pages.proofs.batch.note_within.Goals as goal

pub returns-then-not-is_within-clause-noted : goal.returns-then-not-is_within-clause-noted
returns-then-not-is_within-clause-noted g c = λ word reads.
    word_kept_away BATCH c.args.above c.args.span c.args.nearest.now.named c.requires.rising
    c.requires.few c.requires.places word c.args.reading
    (g.met.F.Flash.shown c.args.flash.now word c.args.reading reads)
    (subst (λ n. (n ≤ c.args.above) ⊎ (c.args.above + c.args.span < n))
    c.address_in-address.ensures (c.is_within.ensures.no c.if-not-is_within.true))

pub returns-then-address_in-address-clause-noted :
    goal.returns-then-address_in-address-clause-noted
returns-then-address_in-address-clause-noted g c = λ word reads.
    word_of_other BATCH c.args.above c.args.span c.args.nearest.now.named c.requires.rising
    c.requires.few c.requires.places word c.args.reading c.number-number.result
    (g.met.F.Flash.shown c.args.flash.now word c.args.reading reads)
    (c.number-number.ensures word reads)
    (λ same. c.if-address_in-address.true
    (c.address_in.ensures ∙ same ∙ sym c.address_in-address.ensures))

pub span_of-requires-clause-rising : goal.span_of-requires-clause-rising
span_of-requires-clause-rising g c =
    let within = c.is_within.ensures.yes c.if-not-is_within.false in
    let same : c.number-number.result % 2 ^ 16 ≡ c.args.reading % 2 ^ 16 =
    sym c.address_in.ensures ∙ c.if-address_in-address.false ∙ c.address_in-address.ensures in
    let high : c.args.above < c.number-number.result % 2 ^ 16 =
    subst (λ n. c.args.above < n) (c.address_in-address.ensures ∙ sym same) within.0 in
    still_rising BATCH c.args.above c.number-number.result c.args.nearest.now.named
    c.note_any.new.self.named c.requires.rising c.requires.few high c.note_any.ensures.noted
    c.note_any.ensures.unsaid

pub returns-then-note_any-clause-noted : goal.returns-then-note_any-clause-noted
returns-then-note_any-clause-noted g c = λ word reads.
    let within = c.is_within.ensures.yes c.if-not-is_within.false in
    let same : c.number-number.result % 2 ^ 16 ≡ c.args.reading % 2 ^ 16 =
    sym c.address_in.ensures ∙ c.if-address_in-address.false ∙ c.address_in-address.ensures in
    let high : c.args.above < c.number-number.result % 2 ^ 16 =
    subst (λ n. c.args.above < n) (c.address_in-address.ensures ∙ sym same) within.0 in
    let low : c.number-number.result % 2 ^ 16 ≤ c.args.above + c.args.span =
    subst (λ n. n ≤ c.args.above + c.args.span) (c.address_in-address.ensures ∙ sym same) within.1 in
    word_noted BATCH c.args.above c.args.span c.args.nearest.now.named c.requires.rising
    c.requires.few c.requires.places word c.number-number.result c.note_any.new.self.named
    (c.number-number.ensures word reads) high low c.note_any.ensures.noted c.note_any.ensures.unsaid

pub returns-then-note_any-clause-rising : goal.returns-then-note_any-clause-rising
returns-then-note_any-clause-rising g c =
    let within = c.is_within.ensures.yes c.if-not-is_within.false in
    let same : c.number-number.result % 2 ^ 16 ≡ c.args.reading % 2 ^ 16 =
    sym c.address_in.ensures ∙ c.if-address_in-address.false ∙ c.address_in-address.ensures in
    let high : c.args.above < c.number-number.result % 2 ^ 16 =
    subst (λ n. c.args.above < n) (c.address_in-address.ensures ∙ sym same) within.0 in
    still_rising BATCH c.args.above c.number-number.result c.args.nearest.now.named
    c.note_any.new.self.named c.requires.rising c.requires.few high c.note_any.ensures.noted
    c.note_any.ensures.unsaid

pub returns-then-note_any-clause-few : goal.returns-then-note_any-clause-few
returns-then-note_any-clause-few g c =
    let within = c.is_within.ensures.yes c.if-not-is_within.false in
    let same : c.number-number.result % 2 ^ 16 ≡ c.args.reading % 2 ^ 16 =
    sym c.address_in.ensures ∙ c.if-address_in-address.false ∙ c.address_in-address.ensures in
    let high : c.args.above < c.number-number.result % 2 ^ 16 =
    subst (λ n. c.args.above < n) (c.address_in-address.ensures ∙ sym same) within.0 in
    still_few BATCH c.args.above c.number-number.result c.args.nearest.now.named
    c.note_any.new.self.named c.requires.rising c.requires.few high c.note_any.ensures.noted
    c.note_any.ensures.unsaid

pub returns-else-note_any-clause-noted : goal.returns-else-note_any-clause-noted
returns-else-note_any-clause-noted g c = λ word reads.
    let within = c.is_within.ensures.yes c.if-not-is_within.false in
    let same : c.number-number.result % 2 ^ 16 ≡ c.args.reading % 2 ^ 16 =
    sym c.address_in.ensures ∙ c.if-address_in-address.false ∙ c.address_in-address.ensures in
    let high : c.args.above < c.number-number.result % 2 ^ 16 =
    subst (λ n. c.args.above < n) (c.address_in-address.ensures ∙ sym same) within.0 in
    let low : c.number-number.result % 2 ^ 16 ≤ c.args.above + c.args.span =
    subst (λ n. n ≤ c.args.above + c.args.span) (c.address_in-address.ensures ∙ sym same) within.1 in
    word_noted BATCH c.args.above c.args.span c.args.nearest.now.named c.requires.rising
    c.requires.few c.requires.places word c.number-number.result c.note_any.new.self.named
    (c.number-number.ensures word reads) high low c.note_any.ensures.noted c.note_any.ensures.unsaid

pub returns-else-note_any-clause-rising : goal.returns-else-note_any-clause-rising
returns-else-note_any-clause-rising g c =
    let within = c.is_within.ensures.yes c.if-not-is_within.false in
    let same : c.number-number.result % 2 ^ 16 ≡ c.args.reading % 2 ^ 16 =
    sym c.address_in.ensures ∙ c.if-address_in-address.false ∙ c.address_in-address.ensures in
    let high : c.args.above < c.number-number.result % 2 ^ 16 =
    subst (λ n. c.args.above < n) (c.address_in-address.ensures ∙ sym same) within.0 in
    still_rising BATCH c.args.above c.number-number.result c.args.nearest.now.named
    c.note_any.new.self.named c.requires.rising c.requires.few high c.note_any.ensures.noted
    c.note_any.ensures.unsaid
