use Rattle.std.proofs.Common.{◌∙◌, ap, arith, subst}
use Rattle.ee_flash.specs.Taking.{Completes, StopsAmong}
use Rattle.ee_core.proofs.PublicSteps.{clear_is}
use Rattle.ee_pages.specs.Sets.{other, set_of, slots_of}
use Rattle.ee_core.proofs.Emptying.{cut_clear, empties}
use Rattle.ee_core.proofs.Making.{always_on_err, few_pending, store_after_move}
use Rattle.ee_core.proofs.MovingFacts.{live_or_moved}
use Rattle.ee_core.proofs.Nothing.{all_forgotten}
use Rattle.ee_core.specs.CallSteps.{map_in}
use Rattle.ee_core.specs.Puts.{each_forgotten}
use Rattle.ee_core.proofs.Taken.{among_on, cut_taken, goes_on_taken}
use Rattle.ee_core.proofs.changing.empty.Goals as goal

pub returns-in_err-transfer_nothing-clause-cut : goal.returns-in_err-transfer_nothing-clause-cut
returns-in_err-transfer_nothing-clause-cut g c =
    let old = g.F.Flash.device c.args.flash.now in
    let new = g.F.Flash.device c.transfer_nothing.new.flash in
    let layout = c.args.layout.now in
    let left = c.in_err-transfer_nothing.ensures.moves in
    let cut = cut_taken (among_on c.requires.may.on c.in_err-transfer_nothing.ensures.steps.cut) in
    let few =
    few_pending new (other layout.side) (g.met.F.Flash.formed c.transfer_nothing.new.flash) in
    always_on_err _ (cut_clear old new layout.side layout.generation c.requires.layout.live
    c.requires.may cut (omega (arith, few, ap (λ size. size.pages) cut.same_size))
    (live_or_moved old new layout.side layout.generation each_forgotten c.requires.layout.live
    left.cut) (left.left c.requires.may.on)
    (subst (λ list. StopsAmong list old new) (clear_is old layout c.requires.layout)
    c.in_err-transfer_nothing.ensures.steps.cut))

pub returns-in_err-transfer_nothing-clause-store : goal.returns-in_err-transfer_nothing-clause-store
returns-in_err-transfer_nothing-clause-store g c =
    let old = g.F.Flash.device c.args.flash.now in
    let new = g.F.Flash.device c.transfer_nothing.new.flash in
    let layout = c.args.layout.now in
    store_after_move old new layout.side layout.generation each_forgotten
    (cut_taken (among_on c.requires.may.on c.in_err-transfer_nothing.ensures.steps.cut)).is_off
    (live_or_moved old new layout.side layout.generation each_forgotten c.requires.layout.live
    c.in_err-transfer_nothing.ensures.moves.cut)

pub returns-clause-emptied : goal.returns-clause-emptied
returns-clause-emptied g c =
    let old = g.F.Flash.device c.args.flash.now in
    let new = g.F.Flash.device c.transfer_nothing.new.flash in
    let layout = c.args.layout.now in
    let done = c.in_ok-transfer_nothing.ensures in
    empties old new layout.side layout.generation
    c.requires.layout.live c.requires.may
    (few_pending old layout.side (g.met.F.Flash.formed c.args.flash.now)) (goes_on_taken _ done.steps.done)
    done.moves.moved done.moves.wear done.moves.new_pages done.moves.old_pages
    (subst (λ list. Completes list old new) (clear_is old layout c.requires.layout)
    done.steps.done)

pub returns-clause-nothing : goal.returns-clause-nothing
returns-clause-nothing g c =
    let old = g.F.Flash.device c.args.flash.now in
    let new = g.F.Flash.device c.transfer_nothing.new.flash in
    let layout = c.args.layout.now in
    let done = c.in_ok-transfer_nothing.ensures.moves in
    λ address. ap (λ set. map_in set new address) done.other_set ∙ done.moved.map_is address
    ∙ all_forgotten (slots_of (set_of layout.side old)) address
