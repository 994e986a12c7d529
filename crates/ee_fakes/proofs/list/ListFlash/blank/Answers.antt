use Rattle.std.proofs.Common.{arith, ◌*◌, ◌≡◌, replicate, ap, ◌∙◌, rules}
use Rattle.std.proofs.lemmas.Grind.{common_steps}
use Rattle.ee_flash.specs.Size.{page_count}
use Rattle.ee_flash.specs.Pages.{pages_of}
use Rattle.ee_flash.specs.declared.word.Word.TheVariants.{Erased}
use Rattle.ee_flash.proofs.Public.{pages_of-replicate}
use Rattle.ee_fakes.proofs.list.ListFlash.blank.Goals as goal

pub returns : goal.returns
returns g c =
    let size = c.args.shape in
    let cells : c.in_ok-cells.cells.items ≡ replicate (page_count size * size.words) Erased =
    search rules in
    let wear : c.in_ok-wear.wear.items ≡ replicate (page_count size) 0 = search rules in
    let image : pages_of size c.in_ok-cells.cells.items ≡ _ =
    ap (pages_of size) cells ∙ pages_of-replicate size Erased in
    cc

pub invariant_of-result : goal.invariant_of-result
invariant_of-result g c = grind (arith, common_steps)
