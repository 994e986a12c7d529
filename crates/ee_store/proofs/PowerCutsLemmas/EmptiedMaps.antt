-- Whether the first live address tells that there is none.
use Rattle.std.proofs.Common.{◌≡◌, ℕ, Bool, true, false, is_some, not, Option, Some, None, rules}
use Rattle.ee_flash.specs.Device.{Device}
use Rattle.ee_pages.specs.Layout.{IsLayout}
use Rattle.ee_pages.specs.LiveOrder.{IsNextLive}
use Rattle.ee_pages.specs.Meaning.{Map, meaning}
use Rattle.ee_pages.specs.Sets.{set_of, slots_of}
use Rattle.ee_pages.specs.declared.find.Layout.{Layout}
use Rattle.ee_core.proofs.Public.{meaning-zero}
use Rattle.ee_core.specs.State.{state_of}
use Rattle.ee_store.specs.PowerCuts.Events.{IsEmptied}

told : (map : Map) (found : Option (ℕ × ℕ)) (none : Bool) → map 0 ≡ None → IsNextLive map 0 found
    → is_some found ≡ not none → (none ≡ true → IsEmptied map) × (IsEmptied map → none ≡ true)
told map None true zeroth next e = search rules
told map None false zeroth next e = absurd (cc e)
told map (Some found) true zeroth next e = absurd (cc e)
told map (Some found) false zeroth next e = search rules

pub told_empty : (device : Device) (layout : Layout) (found : Option (ℕ × ℕ)) (none : Bool)
    → IsLayout device layout → IsNextLive (meaning (slots_of (set_of layout.side device))) 0 found
    → is_some found ≡ not none
    → (none ≡ true → IsEmptied (state_of device).map)
    × (IsEmptied (state_of device).map → none ≡ true)
told_empty device layout found none layout_is next e =
    let slots = slots_of (set_of layout.side device) in
    let map : (state_of device).map ≡ meaning slots = search rules in
    rw map (told (meaning slots) found none (meaning-zero slots) next e)
