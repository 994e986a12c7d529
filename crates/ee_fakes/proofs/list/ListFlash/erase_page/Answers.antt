use Rattle.std.proofs.Common.{◌+◌, ◌-◌, List, sym, ◌∙◌, ap, arith}
use Rattle.ee_flash.specs.Device.{Device}
use Rattle.ee_flash.specs.declared.word.Word.{Word}
use Rattle.ee_fakes.specs.Listed.{Listed, device_of_list, state_of_list}
use Rattle.ee_fakes.proofs.Leaving.{All-left_items, pages_of-left_items}
use Rattle.ee_fakes.proofs.list.ListFlash.erase_page.Goals as goal

pub invariant_of-self-clause-below_all_ones : goal.invariant_of-self-clause-below_all_ones
invariant_of-self-clause-below_all_ones g c =
    let flash = c.args.self.now in
    All-left_items flash.shape flash.cells.items c.args.page c.args.list.now c.args.rest
    (sym flash.cells.ok.0 ∙ flash.cells_length) c.requires _ c.page_start-start.result
    (c.page_start-start.result + c.words.result - c.page_start-start.result) _ _
    flash.cells.ok.0 c.page_start-start.ensures.value (omega arith) c.deref_mut.ensures.value
    c.erase_words.ensures flash.below_all_ones

pub returns : goal.returns
returns g c =
    let flash = c.args.self.now in
    let image =
    pages_of-left_items flash.shape flash.cells.items c.args.page c.args.list.now c.args.rest
    (sym flash.cells.ok.0 ∙ flash.cells_length) c.requires _ c.page_start-start.result
    (c.page_start-start.result + c.words.result - c.page_start-start.result) _ _
    flash.cells.ok.0 c.page_start-start.ensures.value (omega arith)
    c.deref_mut.ensures.value c.erase_words.ensures in
    ap (λ (pages : List (List Word)). let old : Listed = state_of_list flash in
    let device : Device = device_of_list flash in
    let now : Listed = record old { device = record device { image = pages } } in now) image
