use Rattle.std.proofs.Common.{◌≡◌, ◌+◌, drop, nat_cmp}
use Rattle.std.specs.BTreeMap.{get}
use Rattle.ee_settings.specs.Listing.{named_from}
use Rattle.ee_settings.proofs.listing.named_addresses.Given as goal

-- the entries from this one on are there
abbrev pub invariant-loop-index : goal.invariant-loop-index
invariant-loop-index g l = get nat_cmp l.named ≡ named_from (l.index + 1) (drop l.index l.settings)
