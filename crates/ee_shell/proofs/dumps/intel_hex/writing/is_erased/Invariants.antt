use Rattle.std.proofs.Common.{◌≡◌, true, take}
use Rattle.ee_shell.specs.Dumps.intel_hex.Written.{is_erased_word}
use Rattle.ee_shell.proofs.dumps.intel_hex.writing.is_erased.Given as goal

-- the bytes so far are erased
abbrev pub invariant-loop-byte : goal.invariant-loop-byte
invariant-loop-byte l = is_erased_word (take l.byte-index l.word) ≡ true
