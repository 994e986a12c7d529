use Rattle.std.proofs.Common.{◌≡◌, false, take}
use Rattle.ee_core.specs.Puts.{is_put}
use Rattle.ee_index.proofs.entries.place_in.Given as goal

abbrev pub invariant-entries : goal.invariant-entries
invariant-entries l = is_put (take l.place l.puts) l.address ≡ false
