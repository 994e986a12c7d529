use Rattle.std.proofs.Common.{◌≡◌, ◌+◌, ◌<◌, ◌-◌, ◌*◌, ◌∙◌, ap, arith, get_or, length, sym}
use Rattle.ee_flash.specs.declared.word.Word.TheVariants.{Erased, Held}
use Rattle.ee_pages.specs.Meaning.{says}
use Rattle.ee_pages.specs.Sets.{set_of, slots_of}
use Rattle.ee_pages.proofs.Readings.{says_by_number}
use Rattle.ee_pages.proofs.RunSlots.{slot_reads, whole_run}
use Rattle.ee_pages.proofs.side.page_number.Goals as goal

pub returns : goal.returns
returns g c = λ address.
    let reads = g.F.Flash.reads c.args.flash.now in
    let device = g.F.Flash.device c.args.flash.now in
    let here = c.first_page.result + c.args.page in
    let formed = g.met.F.Flash.formed c.args.flash.now in
    let at = ap (λ n. n + c.args.page) c.first_page.ensures in
    let run =
    whole_run reads device c.args.side c.args.page here formed c.requires.page_in_range at
    c.args.slot 1 1 c.run-run.result.now (omega (arith, c.requires.slot_in_range)) (omega arith)
    c.run-run.ensures in
    let one : 0 < length c.run-run.result.now = omega (arith, run.0) in
    let place : c.args.page * (device.size.words - 4) + c.args.slot
    ≡ c.args.page * (device.size.words - 4) + (c.args.slot + 0) =
    omega arith in
    let word = get_or (slots_of (set_of c.args.side device))
    (c.args.page * (device.size.words - 4) + (c.args.slot + 0)) Erased in
    let reads_it =
    slot_reads reads device c.args.side c.args.page here formed c.requires.page_in_range at
    c.args.slot 0 c.run-run.result.now (omega (arith, run.0, c.requires.slot_in_range)) run.1 one in
    ap (λ n. says (get_or (slots_of (set_of c.args.side device)) n Erased) address) place
    ∙ sym (says_by_number word address)
    ∙ ap (λ n. says (Held n) address) (sym (c.number.ensures word reads_it))
