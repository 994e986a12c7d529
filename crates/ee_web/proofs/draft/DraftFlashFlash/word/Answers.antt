use Rattle.std.proofs.Common.{arith, ◌≡◌, ◌∙◌, ◌+◌, ◌*◌, ℕ, List, get_or, ap, sym}
use Rattle.ee_flash.specs.Device.{word_at}
use Rattle.ee_flash.specs.Laws.{all_completed}
use Rattle.ee_flash.specs.Step.{Step}
use Rattle.ee_flash.specs.Size.{page_count}
use Rattle.ee_web.specs.DraftLaws.{IsFormed-drafted}
use Rattle.ee_web.specs.Listing.{steps_of}
use Rattle.ee_web.specs.Mirror.{word_of_number}
use Rattle.ee_web.proofs.DraftSteps.{none_listed, word_below, word_next, word_start}
use Rattle.ee_web.proofs.draft.DraftFlashFlash.word.Goals as goal

pub listed-init : goal.listed-init
listed-init g c =
    let draft = c.args.self.now in
    let start = g.K.Lent.start in
    let is_place = c.words.ensures.value in
    c.decode-word.ensures
    ∙ ap
    (λ (words : ℕ). word_of_number (get_or draft.words.now (c.args.page * words + c.args.at) 0)
    (get_or draft.flags.now (c.args.page * words + c.args.at) 0)) is_place
    ∙ sym
    (word_start start draft.shape draft.words.now draft.flags.now c.args.page c.args.at
    draft.same_size draft.same_words draft.words_length draft.flags_length
    c.requires.page_in_range c.requires.place_in_range)
    ∙ sym
    (ap (λ (steps : List Step). word_at (all_completed steps start) c.args.page c.args.at)
    (none_listed draft.listed.now))

pub listed-preserved : goal.listed-preserved
listed-preserved g c =
    let draft = c.args.self.now in
    word_next g.K.Lent.start draft.listed.now draft.count c.listed.taken c.args.page c.args.at
    c.listed.word c.leaves-word.result _ draft.fresh draft.within c.listed-test.true draft.taken
    c.requires.page_in_range c.requires.place_in_range c.listed.invariant c.leaves-word.ensures

pub returns-clause-value : goal.returns-clause-value
returns-clause-value g c =
    let draft = c.args.self.now in
    let all_seen : c.listed.taken ≡ draft.count =
    omega (arith, c.listed-test.false, c.listed.auto.taken-end) in
    c.listed.invariant
    ∙ ap
    (λ (taken : ℕ). word_at (all_completed (steps_of taken draft.listed.now) g.K.Lent.start)
    c.args.page c.args.at) all_seen

pub returns-clause-below_all_ones : goal.returns-clause-below_all_ones
returns-clause-below_all_ones g c value is =
    let draft = c.args.self.now in
    word_below _ c.args.page c.args.at
    (IsFormed-drafted g.K.Lent.start (steps_of draft.count draft.listed.now) draft.wear.items
    draft.cuts draft.on draft.fresh draft.taken
    (draft.wear_length ∙ ap page_count (sym draft.same_size)) draft.wear_fits
    draft.cuts_fit) c.requires.page_in_range c.requires.place_in_range value
    (sym (returns-clause-value g c) ∙ is)
