use Rattle.std.proofs.Common.{ap, ◌∙◌}
use Rattle.std.proofs.lemmas.Result.{IfOk-weaker}
use Rattle.ee_settings.specs.Listing.{listed_in}
use Rattle.ee_settings.proofs.listing.list_on.Goals as goal

pub returns : goal.returns
returns g c =
    IfOk-weaker c.list_both.result _ _
    (λ listed each. each c.args.settings.now c.in_ok-named.ensures
    ∙ ap (listed_in c.args.settings.now) c.in_ok-stored.ensures) c.list_both.ensures
