use Rattle.std.proofs.Common.{◌≡◌, ◌++◌, take, string_bytes}
use Rattle.std.specs.List.{flat_map}
use Rattle.ee_shell.specs.ByName.Header.{constants_in}
use Rattle.ee_shell.proofs.by_name.constants.push_settings.Given as goal

-- those of the settings so far are written
abbrev pub invariant-loop-setting : goal.invariant-loop-setting
invariant-loop-setting g l =
    string_bytes l.out
    ≡ string_bytes l.fn.out ++ flat_map (constants_in l.language) (take l.setting-index l.settings)
