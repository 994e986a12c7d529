use Rattle.std.proofs.Common.{◌≡◌, ◌≤◌, ◌%◌, ◌^◌, ◌-◌, ◌∙◌, arith, get_or, length, subst, sym}
use Rattle.ee_codec.specs.Words.{IsAddress}
use Rattle.ee_flash.specs.declared.word.Word.TheVariants.{Erased}
use Rattle.ee_pages.proofs.Readings.{said_of, silent_by}
use Rattle.ee_pages.proofs.SpanTells.{behind_all}
use Rattle.ee_pages.proofs.ToldLists.{all_say, none_said, one_word_lower}
use Rattle.ee_pages.proofs.loading.said_in.Goals as goal

pub behind-init : goal.behind-init
behind-init g c = record {
  within = omega arith;
  silent = λ words are. behind_all words (length c.args.readings.now) c.args.address are.as_many;
}

pub returns-then-is_some : goal.returns-then-is_some
returns-then-is_some g c = λ words are.
    let readings = c.args.readings.now in
    let left = c.behind.left in
    let reading = get_or readings (left - 1) 0 in
    let word = get_or words (left - 1) Erased in
    let ends : reading % 2 ^ 16 ≡ c.args.address =
    sym c.address_in.ensures ∙ c.if-address_in-get.true ∙ c.get.ensures.number in
    let proper : IsAddress c.args.address =
    subst IsAddress c.get.ensures.number c.get.ensures.proper in
    let within : left ≤ length words = omega (arith, c.behind.invariant.within, are.as_many) in
    let reads = are.each (left - 1) (omega (arith, within, c.behind-test.true)) in
    all_say (left - 1) words c.args.address c.said_by-said.result
    (one_word_lower words left c.args.address c.behind-test.true within
    (c.behind.invariant.silent words are)
    ∙ said_of word reading c.args.address c.said_by-said.result proper ends
    (c.said_by-said.ensures word reads))
    (sym c.if-is_some.ensures)

pub behind-preserved-else-is_some : goal.behind-preserved-else-is_some
behind-preserved-else-is_some g c =
    let readings = c.args.readings.now in
    let left = c.behind.left in
    let reading = get_or readings (left - 1) 0 in
    let ends : reading % 2 ^ 16 ≡ c.args.address =
    sym c.address_in.ensures ∙ c.if-address_in-get.true ∙ c.get.ensures.number in
    let proper : IsAddress c.args.address =
    subst IsAddress c.get.ensures.number c.get.ensures.proper in
    record {
      within = omega (arith, c.behind.invariant.within);
      silent = λ words are.
          let within : left ≤ length words = omega (arith, c.behind.invariant.within, are.as_many) in
          let reads = are.each (left - 1) (omega (arith, within, c.behind-test.true)) in
          one_word_lower words left c.args.address c.behind-test.true within
          (c.behind.invariant.silent words are)
          ∙ said_of (get_or words (left - 1) Erased) reading c.args.address c.said_by-said.result
          proper ends (c.said_by-said.ensures (get_or words (left - 1) Erased) reads)
          ∙ none_said c.said_by-said.result (sym c.if-is_some.ensures);
    }

pub behind-preserved : goal.behind-preserved
behind-preserved g c =
    let readings = c.args.readings.now in
    let left = c.behind.left in
    record {
      within = omega (arith, c.behind.invariant.within);
      silent = λ words are.
          let within : left ≤ length words = omega (arith, c.behind.invariant.within, are.as_many) in
          let reads = are.each (left - 1) (omega (arith, within, c.behind-test.true)) in
          let word = get_or words (left - 1) Erased in
          let reading = get_or readings (left - 1) 0 in
          one_word_lower words left c.args.address c.behind-test.true within
          (c.behind.invariant.silent words are)
          ∙ silent_by word reading c.args.address
          (g.met.F.Flash.shown c.args.flash.now word reading reads)
          (λ ends. c.if-address_in-get.false
          (c.address_in.ensures ∙ ends ∙ sym c.get.ensures.number));
    }
