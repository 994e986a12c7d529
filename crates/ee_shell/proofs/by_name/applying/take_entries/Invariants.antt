use Rattle.std.proofs.Common.{◌≡◌, length, map}
use Rattle.std.specs.Map.Iter.{deref_pair}
use Rattle.ee_settings.proofs.Public.{seen}
use Rattle.ee_image_store.specs.Opening.{StaysOn}
use Rattle.ee_shell.specs.ByName.Applying.{Applies}
use Rattle.ee_shell.proofs.by_name.applying.take_entries.Given as goal

-- the entries so far are taken
abbrev pub invariant-loop-name : goal.invariant-loop-name
invariant-loop-name g l = record {
  number : l.number ≡ length l.yielded;
  taken : Applies l.schema.settings (map seen (map deref_pair l.yielded)) l.initial.store l.written l.store;
  stays_on : StaysOn l.store;
}
