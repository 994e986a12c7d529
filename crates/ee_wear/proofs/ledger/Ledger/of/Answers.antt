use Rattle.std.proofs.Common.{rules, arith, refl, ◌≡◌, ◌∙◌, ◌*◌, ℕ, ap}
use Rattle.std.specs.Prelude.{Ok}
use Rattle.std.specs.List.{sum}
use Rattle.std.proofs.lemmas.Iterator.{YieldsList-from_map, YieldsList-from_range, items_from_collect}
use Rattle.std.proofs.lemmas.Iterator.Consumers.{YieldsList-at}
use Rattle.ee_flash.specs.Size.{page_count}
use Rattle.ee_flash.specs.Device.{wear_at}
use Rattle.ee_wear.proofs.Counts.{IsLedger-wear, wear_read}
use Rattle.ee_wear.proofs.ledger.Ledger.of.Goals as goal

pub returns-clause-wear : goal.returns-clause-wear
returns-clause-wear g c =
    let device = g.F.Flash.device c.args.flash.now in
    let as_many : 2 * c.pages-pages.result ≡ page_count device.size =
    ap (λ pages. 2 * pages)
    (c.pages-pages.ensures.value ∙ ap (λ size. size.pages) c.shape.ensures) in
    let pages =
    YieldsList-at c.map.ensures.source
    (YieldsList-from_range 0 _ (page_count device.size) refl (omega (arith, as_many))) in
    items_from_collect {E = ℕ} (Ok c.in_ok-counts.counts) c.in_ok-counts.ensures.ran
    (YieldsList-from_map _ (wear_at device) pages c.map.ensures.closure
    (λ page wear captured call. search rules))
    ∙ wear_read device (g.met.F.Flash.formed c.args.flash.now)

pub returns-clause-total : goal.returns-clause-total
returns-clause-total g c = ap sum (returns-clause-wear g c)

pub invariant_of-result : goal.invariant_of-result
invariant_of-result g c =
    rw (returns-clause-wear g c) (IsLedger-wear _ (g.met.F.Flash.formed c.args.flash.now))
