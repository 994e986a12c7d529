use Rattle.std.proofs.Common.{◌≡◌, true, take}
use Rattle.std.specs.List.{list_all}
use Rattle.ee_settings.specs.Setting.{is_name_byte}
use Rattle.ee_settings.proofs.setting.may_stand_in_names.Given as goal

-- the bytes so far may stand in a name
abbrev pub invariant-loop-byte : goal.invariant-loop-byte
invariant-loop-byte l = list_all is_name_byte (take l.byte-index l.bytes) ≡ true
