use Rattle.std.proofs.Common.{◌∙◌, ◌≤◌, ◌<◌, ◌+◌, length, subst, sym}
use Rattle.std.specs.List.{All}
use Rattle.ee_settings.proofs.Public.{stale_within}
use Rattle.ee_settings.specs.declared.stale.Stale.{Stale}
use Rattle.ee_shell.proofs.by_name.second_schema.stale_lines_on.Goals as goal

pub push_stale-requires : goal.push_stale-requires
push_stale-requires g c =
    subst (All (λ (one : Stale). (1 ≤ one.entry) × (one.entry < 1 + length c.args.schema.now.settings)))
    (sym (c.as_slice.ensures.value ∙ c.in_ok-stale.ensures))
    (stale_within _ c.args.schema.now.settings 1)
