use Rattle.std.proofs.Common.{refl, sym, ◌∙◌}
use Rattle.ee_fakes.specs.Listed.{state_of_list}
use Rattle.ee_fakes.proofs.Leaving.{after_whole_erase, whole_page}
use Rattle.ee_fakes.proofs.list.ListFlash.whole_erase.Goals as goal

pub returns : goal.returns
returns g c =
    let flash = c.args.self.now in
    let blank =
    whole_page flash.shape flash.cells.items c.args.page
    (sym flash.cells.ok.0 ∙ flash.cells_length) c.requires in
    after_whole_erase c.args.page (state_of_list flash) (state_of_list c.erase_page.new.self)
    (state_of_list c.wear_out.new.self) blank refl c.erase_page.ensures c.wear_out.ensures
