use Rattle.std.proofs.Common.{arith}
use Rattle.ee_nor.specs.Nor.{number_count}
use Rattle.ee_fakes.proofs.Numbering.{length_found}
use Rattle.ee_fakes.proofs.numbers.ListNorNor.window.Goals as goal

pub part-requires : goal.part-requires
part-requires g c =
    let flash = c.args.self.now in
    let found = c.index.result.now in
    let count =
    length_found flash.pages.items (number_count flash.shape) c.args.page found
    (omega (arith, flash.image_length)) c.index.ensures flash.page_lengths in
    omega (arith, found.ok.0, count, c.deref.ensures.len)
