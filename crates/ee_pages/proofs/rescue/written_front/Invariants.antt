use Rattle.std.proofs.Common.{◌≡◌, ℕ, ◌-◌, ◌*◌, ◌<◌, true, get_or}
use Rattle.ee_flash.specs.declared.word.Word.TheVariants.{Erased}
use Rattle.ee_pages.specs.Page.{is_written}
use Rattle.ee_pages.specs.Sets.{set_of, slots_of}
use Rattle.ee_pages.proofs.rescue.written_front.Given as goal

abbrev pub invariant-loop-page : goal.invariant-loop-page
invariant-loop-page g l =
    let device = g.F.Flash.device l.flash in
    (k : ℕ) → k < l.page * (device.size.words - 4)
    → is_written (get_or (slots_of (set_of l.side device)) k Erased) ≡ true
