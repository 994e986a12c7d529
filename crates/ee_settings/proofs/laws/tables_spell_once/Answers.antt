use Rattle.std.proofs.Common.{◌≡◌, Ok, rules}
use Rattle.toml.specs.Data.{Members}
use Rattle.ee_settings.specs.File.{GivesSchema, entries_of}
use Rattle.ee_settings.specs.Setting.{Schema}
use Rattle.ee_settings.proofs.Once.{schema_once}
use Rattle.ee_settings.proofs.laws.tables_spell_once.Goals as goal

one_schema : (members : Members) (one other : Schema) → GivesSchema members (Ok one)
    → GivesSchema members (Ok other) → one ≡ other
one_schema members one other h k = schema_once (entries_of members) one other h.0 k.0

pub returns : goal.returns
returns c = search (rules, one_schema)
