use Rattle.ee_commands.proofs.json.sizes.push_size.Goals as goal

pub returns-in-Transfers : goal.returns-in-Transfers
returns-in-Transfers g c =
    rw (c.in-Transfers.is, ← c.slots_of-slots.ensures, ← c.limit_of-limit.ensures)
    c.push_fitting.ensures
