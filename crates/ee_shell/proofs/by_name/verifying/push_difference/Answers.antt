use Rattle.std.proofs.Common.{rules}
use Rattle.std.proofs.lemmas.Result.{on_ok_weaker}
use Rattle.ee_shell.proofs.ByNameLemmas.Listings.{difference_made}
use Rattle.ee_shell.proofs.ByNameLemmas.Writing.{written_ok}
use Rattle.ee_shell.proofs.by_name.verifying.push_difference.Goals as goal

pub returns : goal.returns
returns g c =
    on_ok_weaker c.extend_from_slice-2.result (λ here. search (rules, difference_made))
    (written_ok c.extend_from_slice-2.result _ _ _ c.extend_from_slice-2.ensures.items)
