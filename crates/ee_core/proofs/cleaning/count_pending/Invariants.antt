use Rattle.ee_core.proofs.Words.{◌≡◌, ◌≤◌, ◌-◌, take}
use Rattle.ee_core.proofs.Sets.{pending_of, set_of}
use Rattle.ee_core.proofs.cleaning.count_pending.Given as goal

abbrev pub invariant-pages : goal.invariant-pages
invariant-pages g l = record {
  few : l.count ≤ l.page;
  count : l.count
      ≡ pending_of (take (l.page - l.first) (set_of l.fn.side (g.F.Flash.device l.flash)));
}
