-- What the reader does at a line.
use Rattle.std.specs.Prelude.{◌≡◌, ℕ, Option, List}
use Rattle.ee_shell.specs.Dumps.intel_hex.Reading.{RecordStep, Stops, Ends, Goes}
use Rattle.ee_shell.specs.declared.dumps.intel_hex.reading.Met.{Met}
use Rattle.ee_shell.specs.declared.dumps.intel_hex.reading.Met.TheVariants.{Taken, End, Bad}

-- the reader answers as the step is, and comes from these places to others and to this upper
-- address
abbrev pub Meets : Met → List (Option ℕ) → ℕ → List (Option ℕ) → RecordStep → Type 0
Meets Taken old upper cells step = step ≡ Goes upper cells
Meets End old upper cells step = (step ≡ Ends) × (cells ≡ old)
Meets Bad old upper cells step = step ≡ Stops
