use Rattle.std.proofs.Common.{◌≡◌, ◌+◌, ◌-◌, arith}
use Rattle.ee_pages.specs.Sets.{first_page, page_of_slot}
use Rattle.ee_pages.proofs.Scans.{foreign_fault, layout_found}
use Rattle.ee_pages.proofs.find.scan.Goals as goal

pub returns-in-Err-clause-fault : goal.returns-in-Err-clause-fault
returns-in-Err-clause-fault g c =
    foreign_fault (g.F.Flash.device c.args.flash.now) c.in_ok-side.side c.in_ok-side.generation
    c.first_page-start.result c.in-Err.page c.in-Err.at c.if-is_unformatted.ensures
    c.in_ok-side.ensures.live c.first_page-start.ensures c.in-Err.ensures.found

pub returns-in-Ok-clause-layout : goal.returns-in-Ok-clause-layout
returns-in-Ok-clause-layout g c =
    let device = g.F.Flash.device c.args.flash.now in
    let current : c.first_page-start.result + c.in-Ok.page
    ≡ first_page device.size c.in_ok-side.side + page_of_slot device.size (c.in-Ok.fill - 1) =
    omega (arith, c.first_page-start.ensures, c.in-Ok.ensures.page) in
    layout_found device c.in_ok-side.side c.in_ok-side.generation c.in-Ok.fill
    (c.first_page-start.result + c.in-Ok.page) (g.met.F.Flash.formed c.args.flash.now)
    c.in_ok-side.ensures.live c.in-Ok.ensures.front c.in-Ok.ensures.allowed current
