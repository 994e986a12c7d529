use Rattle.std.proofs.Common.{◌≡◌, ℕ, ◌+◌, ◌*◌, ◌-◌, ◌<◌, true, get_or}
use Rattle.ee_flash.specs.declared.word.Word.TheVariants.{Erased}
use Rattle.ee_pages.specs.Page.{is_written}
use Rattle.ee_pages.specs.Sets.{set_of, slots_of}
use Rattle.ee_pages.proofs.rescue.front_in_page.Given as goal

abbrev pub invariant-loop-slot : goal.invariant-loop-slot
invariant-loop-slot g l =
    let device = g.F.Flash.device l.flash in
    (k : ℕ) → k < l.slot
    → is_written
    (get_or (slots_of (set_of l.side device)) (l.page * (device.size.words - 4) + k)
    Erased)
    ≡ true
