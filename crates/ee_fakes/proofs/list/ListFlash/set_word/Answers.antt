use Rattle.std.proofs.Common.{ℕ, ◌+◌, ◌≡◌, List, set, sym, ◌∙◌, ap, arith}
use Rattle.std.proofs.lemmas.List.Elements.{All-set}
use Rattle.ee_flash.specs.Device.{Device, IsBelowAllOnes}
use Rattle.ee_flash.specs.Pages.{pages_of}
use Rattle.ee_flash.specs.declared.word.Word.{Word}
use Rattle.ee_flash.proofs.Public.{pages_of-set}
use Rattle.ee_fakes.specs.Listed.{Listed, device_of_list, state_of_list}
use Rattle.ee_fakes.proofs.list.ListFlash.set_word.Goals as goal

pub returns : goal.returns
returns g c =
    let flash = c.args.self.now in
    let cells = flash.cells.items in
    let image : pages_of flash.shape (set cells (c.page_start-start.result + c.args.at) c.args.word)
    ≡ _ =
    ap (λ place. pages_of flash.shape (set cells place c.args.word))
    (ap (λ (start : ℕ). start + c.args.at) c.page_start-start.ensures.value)
    ∙ pages_of-set flash.shape cells c.args.page c.args.at c.args.word
    (sym flash.cells.ok.0 ∙ flash.cells_length) c.requires.page_in_range
    c.requires.place_in_range in
    ap (λ (pages : List (List Word)). let old : Listed = state_of_list flash in
    let device : Device = device_of_list flash in
    let now : Listed = record old { device = record device { image = pages } } in now) image

pub overflow_add-start : goal.overflow_add-start
overflow_add-start g c = omega (arith, c.args.self.now.cells.ok.0)

pub index_mut-requires : goal.index_mut-requires
index_mut-requires g c = omega (arith, c.args.self.now.cells.ok.0)

pub invariant_of-self-clause-below_all_ones : goal.invariant_of-self-clause-below_all_ones
invariant_of-self-clause-below_all_ones g c =
    let flash = c.args.self.now in
    All-set IsBelowAllOnes flash.cells.items (c.page_start-start.result + c.args.at) c.args.word
    c.requires.below_all_ones flash.below_all_ones
