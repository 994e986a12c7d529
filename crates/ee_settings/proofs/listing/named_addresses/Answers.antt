use Rattle.std.proofs.Common.{◌≡◌, ◌-◌, ◌+◌, arith, drop, nat_cmp}
use Rattle.std.proofs.lemmas.Grind.{common_steps}
use Rattle.std.specs.BTreeMap.{get}
use Rattle.ee_settings.proofs.Listings.{named_before}
use Rattle.ee_settings.specs.Listing.{named_from}
use Rattle.ee_settings.proofs.listing.named_addresses.Goals as goal

pub loop-index-preserved : goal.loop-index-preserved
loop-index-preserved g c =
    let settings = c.args.settings.now in
    let n = c.loop-index.index - 1 in
    let above : n + 1 ≡ c.loop-index.index = omega arith in
    let so_far : get nat_cmp c.loop-index.named ≡ named_from (n + 1 + 1) (drop (n + 1) settings) =
    rw above c.loop-index.invariant in
    named_before settings n c.index-settings-index.result c.numbers-numbers.result
    c.loop-index.named c.insert.new.self (omega arith) c.index-settings-index.is
    c.numbers-numbers.ensures.numbers c.in_ok-insert.ensures.updates so_far

pub returns : goal.returns
returns g c =
    let first : c.loop-index.index ≡ 0 = omega arith in
    rw first at c.loop-index.invariant

pub loop-index-init : goal.loop-index-init
loop-index-init g c = grind (arith, common_steps)
