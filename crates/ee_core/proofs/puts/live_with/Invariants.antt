use Rattle.ee_core.proofs.Words.{◌≡◌, take}
use Rattle.ee_core.proofs.Sets.{changed_by, live_in}
use Rattle.ee_core.proofs.Calls.{map_in, puts_of}
use Rattle.ee_core.proofs.puts.live_with.Given as goal

abbrev pub invariant-entries : goal.invariant-entries
invariant-entries g l =
    l.count
    ≡ live_in
    (changed_by (puts_of (take l.put-index l.puts))
    (map_in l.layout.side (g.F.Flash.device l.flash)))
