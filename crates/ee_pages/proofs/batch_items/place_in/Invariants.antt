use Rattle.std.proofs.Common.{◌≤◌, ◌<◌, ◌%◌, ◌^◌, length, get_or}
use Rattle.ee_pages.proofs.batch_items.place_in.Given as goal

abbrev pub invariant-behind : goal.invariant-behind
invariant-behind l = record {
  within : l.place ≤ length l.rising;
  above : l.place < length l.rising → l.address < get_or l.rising l.place 0 % 2 ^ 16;
}

abbrev pub decreases-behind : goal.decreases-behind
decreases-behind l = l.place
