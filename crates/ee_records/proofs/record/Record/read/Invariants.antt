use Rattle.std.proofs.Common.{◌+◌, ◌*◌, ◌/◌, ◌%◌, ◌<◌, ℕ, slice_index}
use Rattle.ee_pages.specs.Spans.{IsSpan}
use Rattle.ee_core.specs.State.{state_of}
use Rattle.ee_records.specs.Record.{HasByte, place_by}
use Rattle.ee_records.proofs.record.Record.read.Given as goal

abbrev pub invariant-words : goal.invariant-words
invariant-words g l = record {
  read : (at : ℕ) → at < 4 * l.word → at < l.length
      → HasByte ((state_of l.store).map (place_by l.self.base l.turns (at / 4 + 1))) (at % 4)
      (slice_index l.space at);
  near : IsSpan (state_of l.store).map l.near;
}
