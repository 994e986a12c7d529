use Rattle.std.proofs.Common.{ℕ, ◌+◌, ap, length}
use Rattle.ee_flash.specs.Kept.{words_of}
use Rattle.ee_flash.proofs.Pages.{same_run_of}
use Rattle.ee_flash.proofs.Runs.{own_readings}
use Rattle.ee_flash.proofs.memory.MemFlashFlash.run.Goals as goal

pub returns : goal.returns
returns g c =
    let flash = c.args.self.now in
    own_readings _ _
    (same_run_of flash.shape (words_of flash.cells) c.args.page c.args.at (length c.args.room.now) _ _
    c.requires.page_in_range c.requires.places_in_range
    (ap (λ (start : ℕ). start + c.args.at) c.page_start.ensures.value) c.run.ensures)
