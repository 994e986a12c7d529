-- The document of a certificate, part by part.
use Rattle.std.proofs.Common.{◌≡◌, ◌∙◌, ℕ, List, [], ◌++◌, length, ap, codes, decimal}
use Rattle.ee_check.specs.Certificate.{Claim}
use Rattle.ee_commands.specs.Json.{array, heading_text, plan_document, stretch_items}
use Rattle.ee_commands.proofs.Parts.{four_behind, nine_parts}

pub plan_made : (claim : Claim) (empty headed arrayed counted done none items : List ℕ) (count : ℕ)
    → empty ≡ [] → none ≡ [] → items ≡ none ++ stretch_items claim.stretches
    → count ≡ length claim.stretches → headed ≡ empty ++ heading_text claim
    → arrayed ≡ headed ++ array items
    → counted ≡ arrayed ++ (codes ",\"transfers\":" ++ decimal count)
    → done ≡ counted ++ codes "}\n" → done ≡ plan_document claim
plan_made claim empty headed arrayed counted done none items count is_empty is_none are so_many h a c d =
    let heading = heading_text claim in
    let behind = λ (k : ℕ). (codes ",\"transfers\":" ++ decimal k) ++ codes "}\n" in
    let all = stretch_items claim.stretches in
    four_behind empty heading (array items) (codes ",\"transfers\":" ++ decimal count)
    (codes "}\n") headed arrayed counted done h a c d
    ∙ ap (λ t. t ++ (heading ++ (array items ++ behind count))) is_empty
    ∙ ap (λ i. heading ++ (array i ++ behind count)) (are ∙ ap (λ t. t ++ all) is_none)
    ∙ ap (λ k. heading ++ (array all ++ behind k)) so_many
    ∙ nine_parts (codes "{\"slots\":") (decimal claim.slots) (codes ",\"fill\":")
    (decimal claim.fill) (codes ",\"live\":") (decimal claim.live) (codes ",\"writes\":")
    (decimal claim.writes) (codes ",\"stretches\":")
    (array all ++ behind (length claim.stretches))
