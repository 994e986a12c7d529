use Rattle.std.proofs.Common.{◌≡◌, length, map}
use Rattle.std.specs.Map.Iter.{deref_pair}
use Rattle.ee_settings.proofs.Public.{seen}
use Rattle.ee_shell.specs.ByName.Verifying.{AreCompared}
use Rattle.ee_shell.proofs.by_name.verifying.tell_entries.Given as goal

-- the entries so far are compared
abbrev pub invariant-loop-name : goal.invariant-loop-name
invariant-loop-name g l = record {
  number : l.number ≡ length l.yielded;
  told : AreCompared l.schema.settings l.store (map seen (map deref_pair l.yielded)) l.all_stored
      l.text.items;
}
