-- The live addresses, as a set or as a table.
use Rattle.std.specs.Prelude.{ℕ, List}
use Rattle.ee_check.specs.declared.live_set.Form.{Form}
use Rattle.ee_check.specs.declared.live_set.Form.TheVariants.{Set, Table}

-- the addresses that are kept
abbrev pub addresses_in : {A : Type 0} → Form A → List ℕ
addresses_in (Set live) = live.keys
addresses_in (Table table) = table
