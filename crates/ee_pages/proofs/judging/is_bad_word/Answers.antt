use Rattle.std.proofs.Common.{◌∙◌}
use Rattle.ee_pages.specs.Sets.{set_of}
use Rattle.ee_pages.proofs.RescueReads.{bad_by}
use Rattle.ee_pages.proofs.judging.is_bad_word.Goals as goal

pub returns : goal.returns
returns g c =
    let device = g.F.Flash.device c.args.flash.now in
    let set = c.args.set.now in
    c.is_bad.ensures
    ∙ bad_by _ device.size (set_of set.side device) set.generation set.written c.args.page c.args.at
    _ c.shape.ensures c.requires.set.generation c.requires.set.written c.set_word-word.ensures
