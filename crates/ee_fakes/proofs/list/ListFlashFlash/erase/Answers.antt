use Rattle.std.proofs.Common.{◌<◌, arith, inl, length, refl}
use Rattle.ee_flash.specs.Formed.{length-pages_of}
use Rattle.ee_flash.specs.Step.{Erase}
use Rattle.ee_fakes.specs.Listed.{device_of_list, state_of_list}
use Rattle.ee_fakes.proofs.Leaving.{IsCutIn-erase, after_cut}
use Rattle.ee_fakes.proofs.list.ListFlashFlash.erase.Goals as goal

pub returns-in-Cut-clause-cut : goal.returns-in-Cut-clause-cut
returns-in-Cut-clause-cut g c =
    let flash = c.args.self.now in
    let in_range : c.args.page < length (device_of_list flash).image =
    omega (arith, length-pages_of flash.shape flash.cells.items) in
    let left =
    after_cut (Erase c.args.page) c.in-Cut.list (state_of_list flash)
    (state_of_list c.begin.new.self) (state_of_list c.cut_erase.new.self)
    c.in_ok-begin.ensures.begun c.cut_erase.ensures in
    inl
    (IsCutIn-erase c.args.page (device_of_list flash) _ c.in-Cut.list c.in_ok-begin.ensures.on
    in_range refl refl left)
