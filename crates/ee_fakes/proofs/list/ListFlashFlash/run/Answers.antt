use Rattle.std.proofs.Common.{arith, length, sym, ◌∙◌}
use Rattle.ee_flash.proofs.Public.{read_by_place}
use Rattle.ee_flash.specs.Runs.{IsOwnReading}
use Rattle.ee_fakes.specs.Formed.{IsFormed-listed}
use Rattle.ee_fakes.specs.Listed.{device_of_list}
use Rattle.ee_fakes.proofs.list.ListFlashFlash.run.Goals as goal

pub returns : goal.returns
returns g c =
    let flash = c.args.self.now in
    let device = device_of_list flash in
    let formed = IsFormed-listed flash.shape flash.cells.items flash.wear.items flash.cuts flash.on
    flash.within_limits (sym flash.cells.ok.0 ∙ flash.cells_length) flash.below_all_ones
    (sym flash.wear.ok.0 ∙ flash.wear_length) flash.wear_fits flash.cuts_fit in
    read_by_place IsOwnReading device c.args.page c.args.at (length c.args.room.now)
    c.loop-behind.room formed c.requires.page_in_range c.requires.places_in_range
    c.loop-behind.auto.room (λ k h. c.loop-behind.invariant k (omega arith))
