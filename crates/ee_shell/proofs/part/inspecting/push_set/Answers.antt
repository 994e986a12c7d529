use Rattle.std.proofs.Common.{append_assoc, rules}
use Rattle.ee_shell.proofs.part.inspecting.push_set.Goals as goal

pub returns : goal.returns
returns g c =
    rw (
      c.in_ok-extend_from_slice-2.ensures.items,
      c.in_ok-push_parts.ensures,
      c.in_ok-extend_from_slice.ensures.items,
      c.in_ok-push_slots.ensures,
    )
    (search (rules, append_assoc))
