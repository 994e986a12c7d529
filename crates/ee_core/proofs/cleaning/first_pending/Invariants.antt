use Rattle.ee_core.proofs.Words.{◌≡◌, ◌≤◌, ◌<◌, ℕ, true}
use Rattle.ee_core.proofs.Sets.{page_at, is_blank}
use Rattle.ee_core.proofs.cleaning.first_pending.Given as goal

abbrev pub invariant-lower : goal.invariant-lower
invariant-lower g l =
    (k : ℕ) → l.first ≤ k → k < l.page → is_blank (page_at (g.F.Flash.device l.flash) k) ≡ true
