use Rattle.std.proofs.Common.{◌≡◌, ◌++◌, take, string_bytes}
use Rattle.std.specs.List.{flat_map}
use Rattle.ee_shell.specs.ByName.Header.{record_constants_in}
use Rattle.ee_shell.proofs.by_name.constants.push_records.Given as goal

-- those of the records so far are written
abbrev pub invariant-loop-one : goal.invariant-loop-one
invariant-loop-one g l =
    string_bytes l.out
    ≡ string_bytes l.fn.out ++ flat_map (record_constants_in l.language) (take l.one-index l.records)
