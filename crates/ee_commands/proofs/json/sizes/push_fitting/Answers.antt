use Rattle.std.proofs.Common.{◌∙◌, ◌++◌, ap, append_assoc, codes, decimal, sym}
use Rattle.ee_commands.specs.Json.{size_numbers}
use Rattle.ee_commands.specs.Sizing.{erases_for, least_for, verdict}
use Rattle.ee_commands.proofs.Parts.{four_behind, twelve_parts}
use Rattle.ee_commands.proofs.json.sizes.push_fitting.Goals as goal

pub returns : goal.returns
returns g c =
    let judged = verdict c.args.cycles c.args.transfers c.args.limit in
    let erases = erases_for c.args.transfers in
    let least = least_for c.args.transfers in
    let numbers =
    size_numbers c.args.pages c.args.slots c.args.transfers erases least c.args.limit in
    let words = codes ",\"verdict\":\"" in
    four_behind c.args.out.now.items numbers words judged (codes "\"}") _ _ _ _
    c.in_ok-push_numbers.ensures c.in_ok-extend_from_slice.ensures.items
    c.in_ok-push_verdict.ensures c.in_ok-extend_from_slice-2.ensures.items
    ∙ ap (λ t. c.args.out.now.items ++ (numbers ++ (words ++ t)))
    (sym (append_assoc judged (codes "\"") (codes "}")))
    ∙ ap (λ t. c.args.out.now.items ++ t)
    (twelve_parts (codes ",{\"pages\":") (decimal c.args.pages) (codes ",\"slots\":")
    (decimal c.args.slots) (codes ",\"transfers\":") (decimal c.args.transfers)
    (codes ",\"erases\":") (decimal erases) (codes ",\"least\":") (decimal least)
    (codes ",\"limit\":") (decimal c.args.limit)
    (words ++ ((judged ++ codes "\"") ++ codes "}")))
