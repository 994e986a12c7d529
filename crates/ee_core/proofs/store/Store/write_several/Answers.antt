use Rattle.ee_core.proofs.Words.{refl, rules}
use Rattle.ee_core.proofs.Calls.{capacity, state_of}
use Rattle.ee_core.proofs.Listed.{each_apart}
use Rattle.ee_core.proofs.Several.{needs_transfer, no_generation, no_place, several_proceed, some_place}
use Rattle.ee_core.proofs.store.Store.write_several.Goals as goal

pub is_full_for_all-requires-clause-apart : goal.is_full_for_all-requires-clause-apart
is_full_for_all-requires-clause-apart g c = search (rules, each_apart)

pub returns-then-is_full_for_all-clause-writes : goal.returns-then-is_full_for_all-clause-writes
returns-then-is_full_for_all-clause-writes g c = search (rules, no_place)

pub transfer-requires-clause-apart : goal.transfer-requires-clause-apart
transfer-requires-clause-apart g c = search (rules, each_apart)

pub returns-then-is_last-clause-writes : goal.returns-then-is_last-clause-writes
returns-then-is_last-clause-writes g c = (
  c.requires.on,
  c.in_default.ensures.once,
  some_place (capacity c.args.self.now) (state_of c.args.self.now) c.args.puts.now
      c.requires.several c.if-is_full_for_all.ensures,
  no_generation (capacity c.args.self.now) (state_of c.args.self.now) c.args.puts.now
      c.requires.several c.if-is_last.ensures,
  refl,
)

pub transfer-requires-clause-proceeds : goal.transfer-requires-clause-proceeds
transfer-requires-clause-proceeds g c = search (rules, several_proceed)

pub transfer-requires-clause-needed : goal.transfer-requires-clause-needed
transfer-requires-clause-needed g c = search needs_transfer

pub returns-in_default-make_room-clause-writes : goal.returns-in_default-make_room-clause-writes
returns-in_default-make_room-clause-writes g c = search (rules, several_proceed)
