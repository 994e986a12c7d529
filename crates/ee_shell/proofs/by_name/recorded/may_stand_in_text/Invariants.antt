use Rattle.std.proofs.Common.{◌≡◌, true, take}
use Rattle.std.specs.List.{list_all}
use Rattle.ee_settings.specs.Setting.{is_text_byte}
use Rattle.ee_shell.proofs.by_name.recorded.may_stand_in_text.Given as goal

-- the bytes so far may
abbrev pub invariant-loop-byte : goal.invariant-loop-byte
invariant-loop-byte l = list_all is_text_byte (take l.byte-index l.bytes) ≡ true
