use Rattle.std.proofs.Common.{map}
use Rattle.std.specs.Map.Iter.{deref_pair}
use Rattle.ee_settings.proofs.Trees.{seen}
use Rattle.ee_settings.specs.File.{IsSchemaOf}
use Rattle.ee_settings.proofs.entry.read_entries.Given as goal

-- the entries so far are the settings so far
abbrev pub invariant-loop-name : goal.invariant-loop-name
invariant-loop-name g l = IsSchemaOf (map seen (map deref_pair l.yielded)) l.settings
