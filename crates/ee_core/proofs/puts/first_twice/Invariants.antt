use Rattle.ee_core.proofs.Words.{◌≡◌, ◌<◌, ℕ, false, take, All}
use Rattle.ee_core.proofs.Sets.{IsAddress}
use Rattle.ee_core.proofs.Calls.{is_twice}
use Rattle.ee_core.proofs.puts.first_twice.Given as goal

abbrev pub invariant-entries : goal.invariant-entries
invariant-entries l = record {
  none : (lower : ℕ) → lower < l.place → is_twice l.puts lower ≡ false;
  proper : All (λ put. IsAddress put.address) (take l.place l.puts);
}
