use Rattle.std.proofs.Common.{◌≡◌, ◌<◌, ◌+◌, ℕ, get_or}
use Rattle.ee_flash.specs.Device.{word_at}
use Rattle.ee_flash.specs.Runs.{number_of}
use Rattle.ee_fakes.specs.Listed.{device_of_list}
use Rattle.ee_fakes.proofs.list.ListFlashFlash.run.Given as goal

abbrev pub invariant-loop-behind : goal.invariant-loop-behind
invariant-loop-behind g l = (k : ℕ) → k < l.behind
    → get_or l.room k 0 ≡ number_of (word_at (device_of_list l.fn.self) l.fn.page (l.fn.at + k))
