use borrow.Rule.Slice.PartMut.{put_mid}
use Rattle.std.proofs.Common.{◌≡◌, ◌∙◌, ◌*◌, ◌+◌, ◌-◌, ℕ, List, length, replicate, set, get_or, ◌≤◌, ap, arith}
use Rattle.std.proofs.lemmas.Nat.{row_fits}
use Rattle.ee_flash.specs.Size.{page_count}
use Rattle.ee_flash.specs.Device.{Device, all_ones}
use Rattle.ee_flash.specs.Step.{one_more, with_page_worn}
use Rattle.ee_flash.specs.declared.word.Word.{Word}
use Rattle.ee_web.specs.Mirror.{mirrored_device}
use Rattle.ee_web.proofs.PlayedSteps.{page_erased, part_length}
use Rattle.ee_web.proofs.playing.erase.Goals as goal

pub returns-clause-done : goal.returns-clause-done
returns-clause-done c =
    let size = c.args.shape in
    let start = c.args.page * c.words.result in
    let width = start + c.words-2.result - start in
    let is_width : width ≡ size.words = omega (arith, c.words-2.ensures.value) in
    let is_start : start ≡ c.args.page * size.words =
    ap (λ (n : ℕ). c.args.page * n) c.words.ensures.value in
    let ones = c.fill.ensures.after (λ y same. same) in
    let zeros = c.fill-2.ensures.after (λ y same. same) in
    let words_length = c.requires.mirror.words_length in
    let flags_length = c.requires.mirror.flags_length in
    let fits : start + width ≤ length c.args.words.now =
    omega (
      arith,
      row_fits c.args.page size.words (page_count size) size.words
          c.requires.page_in_range (omega arith),
    ) in
    let ones_there : c.fill.new.self ≡ replicate width all_ones =
    ones
    ∙ ap (λ (n : ℕ). replicate n all_ones) (part_length c.args.words.now start width fits) in
    let zeros_there : c.fill-2.new.self ≡ replicate width 0 =
    zeros
    ∙ ap (λ (n : ℕ). replicate n 0) (part_length c.args.flags.now start width (omega arith)) in
    let with_pages : List (List Word) → Device =
    λ pages. with_page_worn c.args.page
    (record (mirrored_device size c.args.words.now c.args.flags.now c.args.wears.now)
    { image = pages }) in
    let wear : set c.args.wears.now c.args.page c.saturating_add.result
    ≡ set c.args.wears.now c.args.page (one_more (get_or c.args.wears.now c.args.page 0)) =
    ap (set c.args.wears.now c.args.page) c.saturating_add.ensures in
    ap
    (λ (counts : List ℕ). mirrored_device size
    (put_mid start width c.args.words.now c.fill.new.self)
    (put_mid start width c.args.flags.now c.fill-2.new.self) counts) wear
    ∙ ap with_pages
    (page_erased size c.args.words.now c.args.flags.now c.fill.new.self c.fill-2.new.self
    c.args.page start width words_length flags_length c.requires.page_in_range is_start
    is_width ones_there zeros_there)
