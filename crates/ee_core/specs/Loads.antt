-- What a load of a list of addresses answers, and of addresses that follow one another.
use Rattle.std.specs.Prelude.{◌≡◌, ℕ, List, Result, Ok, Err}
use Rattle.ee_flash.specs.Device.{Device, IsOff, IsOn}
use Rattle.ee_pages.specs.Loading.{loaded}
use Rattle.ee_pages.specs.Spans.{IsSpan, Span}
use Rattle.ee_pages.specs.declared.loading.Wanted.{Wanted}
use Rattle.ee_core.specs.State.{state_of}

-- each entry has the map's value of its address, or the device was off
abbrev pub Loads : {T E : Type 0} → Device → List Wanted → Result T E → List Wanted → Type 0
Loads device old (Ok done) new = IsOn device × (new ≡ loaded (state_of device).map old)
Loads device old (Err off) new = IsOff device × (new ≡ old)

-- the span begins with this address, and each of its addresses has the map's value; or the device was
-- off
abbrev pub ReadsSpan : {E : Type 0} → Device → ℕ → Result Span E → Type 0
ReadsSpan device first (Ok span) =
    IsOn device × (span.first ≡ first) × IsSpan (state_of device).map span
ReadsSpan device first (Err off) = IsOff device
