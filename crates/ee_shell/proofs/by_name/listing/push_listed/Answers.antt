use Rattle.std.proofs.Common.{rules}
use Rattle.std.proofs.lemmas.Result.{on_ok_weaker}
use Rattle.ee_shell.proofs.ByNameLemmas.Listings.{line_made}
use Rattle.ee_shell.proofs.ByNameLemmas.Writing.{written_ok}
use Rattle.ee_shell.proofs.by_name.listing.push_listed.Goals as goal

pub returns : goal.returns
returns g c =
    on_ok_weaker c.extend_from_slice.result (λ here. search (rules, line_made))
    (written_ok c.extend_from_slice.result _ _ _ c.extend_from_slice.ensures.items)
