-- What a device's image says stays as power comes on and a cut is armed.
use Rattle.std.proofs.Common.{◌≡◌, ◌∙◌, ◌≤◌, ℕ, Bool, List, Err, Ok, Result, Some, ap, false, refl, subst, sym, true, rules}
use Rattle.ee_flash.specs.Device.{Device, all_ones}
use Rattle.ee_flash.specs.Memory.{Memory, device_of, memory_of, with_device, with_fuse}
use Rattle.ee_flash.specs.declared.memory.MemFlash.{MemFlash}
use Rattle.ee_pages.proofs.Public.{legal_is_good}
use Rattle.ee_pages.specs.Layout.{IsLayout}
use Rattle.ee_pages.specs.Legal.{IsLegal}
use Rattle.ee_pages.specs.Sets.{fill_of, live_of, set_of, slots_of}
use Rattle.ee_pages.specs.declared.find.Layout as pages
use Rattle.ee_pages.specs.declared.find.ScanFault.{ScanFault}
use Rattle.ee_pages.specs.declared.side.Side.{Side}
use Rattle.ee_pages.specs.declared.side.Side.TheVariants.{First, Second}
use Rattle.ee_core.proofs.Public.{legal_on, legal_powered, live_powered, state_in_on, state_in_powered}
use Rattle.ee_core.specs.Points.{open_point, with_power_on}
use Rattle.ee_core.specs.Known.{Knows}
use Rattle.ee_core.specs.declared.known.Known.{Known}
use Rattle.ee_core.specs.Finished.{IsMarked, IsStore}
use Rattle.ee_core.specs.Openings.{OpenFails}
use Rattle.ee_core.specs.declared.opening.OpenFault.{OpenFault}
use Rattle.ee_core.specs.declared.opening.OpenFault.TheVariants as opening
use Rattle.ee_core.specs.State.{state_of}
use Rattle.ee_core.specs.Calls.{Writes}
use Rattle.ee_core.specs.Runs.{Wrote}
use Rattle.ee_core.specs.declared.variables.WriteFault.{WriteFault}
use Rattle.ee_core.specs.declared.variables.WriteFault.TheVariants as fault
use Rattle.ee_core.specs.declared.variables.Written.{Written}
use Rattle.ee_core.specs.declared.variables.Written.TheVariants as written
use Rattle.ee_flash.specs.declared.fuse.Fuse.{Fuse}
use Rattle.ee_replay.specs.Desk.{CallsAtDesk, SaysTheSame}
use Rattle.ee_flash.specs.declared.word.Word.{Word}
use Rattle.ee_replay.specs.Serving.{IsSound}

-- ---- a cut that is armed

pub state_armed : (fuse : Fuse) (device : Device)
    → state_of (with_fuse fuse device) ≡ state_of device
state_armed fuse device =
    state_in_powered device.cuts (Some 1) (Some (Some fuse)) device.on device (live_of device)

pub state_powered : (device : Device) → state_of (with_power_on device) ≡ state_of device
state_powered device = state_in_on device (live_of device)

few_cuts : (left : ℕ) → Some 1 ≡ Some left → left ≤ all_ones
few_cuts left e = search rules

module _ (fuse : Fuse) (device : Device) where
  abbrev armed : Device
  armed = with_fuse fuse device

  legal_armed : IsLegal device → IsLegal armed
  legal_armed legal =
      legal_powered device.cuts (Some 1) (Some (Some fuse)) device.on device
      legal.2.formed.cuts_fit few_cuts legal

  marked_armed : (side : Side) → IsMarked device side → IsMarked armed side
  marked_armed First marked = record {
    live =
        record { valid = marked.live.valid; active = marked.live.active };
    old = marked.old;
  }
  marked_armed Second marked = record {
    live =
        record { valid = marked.live.valid; active = marked.live.active };
    old = marked.old;
  }

  store_armed : IsStore device → IsStore armed
  store_armed store = record {
    legal = legal_armed store.legal;
    finished =
        λ on side generation live. marked_armed side (store.finished on side generation live);
  }

  set_armed : (side : Side) → set_of side armed ≡ set_of side device
  set_armed First = refl
  set_armed Second = refl

  layout_armed : (layout : pages.Layout) → IsLayout device layout → IsLayout armed layout
  layout_armed layout is = record {
    live = live_powered device.cuts (Some 1) (Some (Some fuse)) device.on device
        is.live.formed.cuts_fit few_cuts layout.side layout.generation is.live;
    fill = is.fill ∙ sym (ap (λ set. fill_of (slots_of set)) (set_armed layout.side));
    current = is.current;
  }

  pub known_armed : {L : Type 0} (finds : L → List Word → Type 0) (known : Known L)
      → Knows finds device known → Knows finds armed known
  known_armed finds known knows = record {
    store = store_armed knows.store;
    layout = λ on. layout_armed known.layout (knows.layout on);
    fits = λ on. subst (λ (set : List (List Word)). finds known.lookup (slots_of set))
        (sym (set_armed known.layout.side)) (knows.fits on);
  }

pub known_with_fuse : {L : Type 0} (finds : L → List Word → Type 0) (known : Known L)
    (old new : Device) (fuse : Fuse)
    → new ≡ with_fuse fuse old → Knows finds old known → Knows finds new known
known_with_fuse finds known old new fuse is knows =
    subst (λ (device : Device). Knows finds device known) (sym is)
    (known_armed fuse old finds known knows)

pub armed_same : (old new : Device) (fuse : Fuse) → new ≡ with_fuse fuse old
    → SaysTheSame old new
armed_same old new fuse is = record {
  same_size = ap (λ (device : Device). device.size) is;
  state_is = ap state_of is ∙ state_armed fuse old;
}

-- an open store is on, and no mark is left to set
pub store_sound : (device : Device) → IsStore device → IsSound (open_point device)
store_sound device store = record { legal = store.legal; on = λ on. on; store = λ on. store }

-- power comes on a device in memory
pub powered : {A : Type 0} (old new : MemFlash A)
    → memory_of new ≡ with_device (with_power_on (device_of old)) (memory_of old)
    → device_of new ≡ with_power_on (device_of old)
powered old new on = ap (λ (kept : Memory). kept.device) on

-- the image of a device whose power came on is still legal, so opening it finds no fault
pub opens_well : (device old new : Device) (why : OpenFault) (fault : ScanFault)
    → old ≡ with_power_on device → IsLegal device → why ≡ opening.Scan fault → OpenFails old why new
    → ⊥
opens_well device old new why fault on legal told fails =
    legal_is_good old fault (subst IsLegal (sym on) (legal_on device legal))
    (subst (λ (w : OpenFault). OpenFails old w new) told fails).0

-- ---- a write, where the device is on or off

pub wrote_at : (on : Bool) (old new : Device) (address value : ℕ)
    (result : Result Written WriteFault)
    → old.on ≡ on → Writes old address value result new
    → CallsAtDesk on old (Wrote address value result) (open_point new)
wrote_at true old new address value result at writes = (at, writes, refl)
wrote_at false old new address value (Ok written.Appended) at writes =
    absurd (cc (at, writes.proceeds.on))
wrote_at false old new address value (Ok written.Moved) at writes =
    absurd (cc (at, writes.proceeds.on))
wrote_at false old new address value (Err fault.Off) at writes =
    (tt, rw writes.1 (ap (λ (serves : Bool). record { serving = serves; device = old }) at))
wrote_at false old new address value (Err fault.Full) at writes = absurd (cc (at, writes.0))
wrote_at false old new address value (Err fault.Spent) at writes = absurd (cc (at, writes.0))
wrote_at false old new address value (Err fault.Memory) at writes = absurd (cc (at, writes.0.on))
wrote_at false old new address value (Err fault.Cut) at writes =
    absurd (cc (at, writes.proceeds.on))
