use Rattle.std.proofs.Common.{◌*◌, ◌≡◌, replicate, ap, ◌∙◌, rules}
use Rattle.ee_flash.specs.Size.{page_count}
use Rattle.ee_flash.specs.Pages.{pages_of}
use Rattle.ee_flash.specs.declared.word.Word.TheVariants.{Erased}
use Rattle.ee_flash.proofs.Pages.{pages_of-replicate}
use Rattle.ee_flash.proofs.memory.MemFlash.blank.Goals as goal

pub returns : goal.returns
returns g c =
    let size = c.args.shape in
    let cells : c.in_ok-cells.cells ≡ replicate (page_count size * size.words) Erased =
    search rules in
    let wear : c.in_ok-wear.wear.items ≡ replicate (page_count size) 0 = search rules in
    let image : pages_of size c.in_ok-cells.cells ≡ _ =
    ap (pages_of size) cells ∙ pages_of-replicate size Erased in
    cc
