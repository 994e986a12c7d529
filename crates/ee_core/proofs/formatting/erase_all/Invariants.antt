use Rattle.std.proofs.Common.{◌≡◌, ◌-◌, ℕ, ◌<◌, ◌≤◌, true, take}
use Rattle.ee_flash.specs.Device.{page_at}
use Rattle.ee_pages.specs.Page.{is_blank}
use Rattle.ee_core.specs.Starts.{IsStartable}
use Rattle.ee_core.specs.State.{Wears, not_blank_from}
use Rattle.std.specs.List.{flat_map, range_with_len}
use Rattle.ee_flash.specs.Taking.{Completes}
use Rattle.ee_core.proofs.Taken.{erase_words}
use Rattle.ee_core.proofs.formatting.erase_all.Given as goal

abbrev pub invariant-pages : goal.invariant-pages
invariant-pages g l =
    let old = g.F.Flash.device l.fn.flash in
    let now = g.F.Flash.device l.flash in
    record {
      blank : (k : ℕ) → k < l.page → is_blank (page_at now k) ≡ true;
      rest : (k : ℕ) → l.page ≤ k → page_at now k ≡ page_at old k;
      wear : Wears (not_blank_from 0 (take l.page old.image)) old now;
      steps : Completes
          (flat_map (λ k. erase_words (page_at old k) k) (range_with_len 0 (l.page - 0))) old now;
      startable : IsStartable old → IsStartable now;
    }
