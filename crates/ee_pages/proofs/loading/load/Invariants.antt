use Rattle.std.proofs.Common.{◌≡◌, ◌*◌, ◌-◌, None, take}
use Rattle.ee_pages.specs.Loading.{loaded, told}
use Rattle.ee_pages.specs.Sets.{set_of, slots_of}
use Rattle.ee_pages.proofs.loading.load.Given as goal

abbrev pub invariant-loop-page : goal.invariant-loop-page
invariant-loop-page g l =
    let device = g.F.Flash.device l.flash in
    l.entries
    ≡ told (take (l.page * (device.size.words - 4)) (slots_of (set_of l.layout.side device)))
    (loaded (λ address. None) l.fn.entries)
