use Rattle.std.proofs.Common.{◌≡◌, ◌+◌, ◌<◌, ℕ, slice_index}
use Rattle.ee_records.specs.Record.{byte_of}
use Rattle.ee_records.proofs.words.put_bytes.Given as goal

abbrev pub invariant-places : goal.invariant-places
invariant-places l = record {
  here : (k : ℕ) → k < l.place → l.from + k < l.end
      → slice_index l.space (l.from + k) ≡ byte_of l.value k;
  before : (at : ℕ) → at < l.from → slice_index l.space at ≡ slice_index l.initial.space at;
}
