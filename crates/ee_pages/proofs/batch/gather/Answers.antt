use Rattle.std.proofs.Common.{◌≡◌, ◌-◌, ap, arith}
use Rattle.ee_flash.specs.Size.{Size}
use Rattle.ee_pages.specs.Sets.{set_of, slots_of}
use Rattle.ee_pages.proofs.Nearest.{all_gathered}
use Rattle.ee_pages.proofs.Slots.{length-slots}
use Rattle.ee_pages.specs.declared.batch_items.TheConstants.{BATCH}
use Rattle.ee_pages.proofs.batch.gather.Goals as goal

pub returns : goal.returns
returns g c =
    let device = g.F.Flash.device c.args.flash.now in
    let end : c.loop-page.page ≡ device.size.pages =
    omega (
      arith,
      c.loop-page-test.false,
      c.loop-page.auto.page-end,
      c.pages-page-end.ensures.value,
      ap (λ (size : Size). size.pages) c.shape.ensures,
    ) in
    all_gathered BATCH c.args.above (slots_of (set_of c.args.side device)) c.loop-page.page
    device.size.pages (device.size.words - 4) c.loop-page.nearest.named c.loop-page.invariant
    end (length-slots c.args.side device (g.met.F.Flash.formed c.args.flash.now))
