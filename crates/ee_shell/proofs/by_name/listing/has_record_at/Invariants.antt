use Rattle.std.proofs.Common.{◌≡◌, false, take}
use Rattle.ee_settings.specs.Setting.{has_record_at}
use Rattle.ee_shell.proofs.by_name.listing.has_record_at.Given as goal

-- none of the records so far has the address
abbrev pub invariant-loop-one : goal.invariant-loop-one
invariant-loop-one g l = has_record_at (take l.one-index l.records) l.address ≡ false
