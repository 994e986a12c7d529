use Rattle.ee_core.proofs.Words.{◌≡◌, false, take}
use Rattle.ee_core.proofs.Calls.{is_put}
use Rattle.ee_core.proofs.puts.has_put.Given as goal

abbrev pub invariant-entries : goal.invariant-entries
invariant-entries l = is_put (take l.put-index l.puts) l.address ≡ false
