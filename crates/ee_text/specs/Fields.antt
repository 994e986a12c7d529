-- The fields that a reader of a line has still to give.
use Rattle.std.specs.Prelude.{ℕ, List, []}
use Rattle.std.specs.Option.{option_map_or}
use Rattle.ee_text.specs.Field.{fields_of}
use Rattle.ee_text.specs.declared.fields.Fields.{Fields}

abbrev pub fields_left : Fields → List (List ℕ)
fields_left fields = option_map_or (λ rest. fields_of rest.now) fields.rest []
