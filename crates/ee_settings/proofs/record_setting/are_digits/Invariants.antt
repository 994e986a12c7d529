use Rattle.std.proofs.Common.{◌≡◌, true, take}
use Rattle.std.specs.List.{list_all}
use Rattle.ee_settings.specs.Setting.{is_hex_byte}
use Rattle.ee_settings.proofs.record_setting.are_digits.Given as goal

-- the bytes so far are such bytes
abbrev pub invariant-loop-byte : goal.invariant-loop-byte
invariant-loop-byte l = list_all is_hex_byte (take l.byte-index l.bytes) ≡ true
