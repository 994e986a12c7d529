-- What an image says, it says with any power.
use Rattle.ee_flash.specs.declared.fuse.Fuse.{Fuse}
use Rattle.ee_core.proofs.Words.{rules, ◌≡◌, ◌≤◌, ℕ, Bool, true, Option, Some, None, refl}
use Rattle.ee_core.proofs.Sets.{Device, IsFormed, all_ones, IsLegal, IsLive, Side, First, Second}
use Rattle.ee_core.proofs.Calls.{with_power_on, state_in}

-- the device on or off, with so many cuts behind it and to come, and its fuse, if it is known
abbrev pub with_power : ℕ → Option ℕ → Option (Option Fuse) → Bool → Device → Device
with_power cuts left known on device =
    record device { cuts = cuts; cuts_left = left; fuse = known; on = on }

module _ (cuts : ℕ) (left : Option ℕ) (known : Option (Option Fuse)) (on : Bool)
    (device : Device) where
  pub state_in_powered : (live : Option (Side × ℕ))
      → state_in (with_power cuts left known on device) live ≡ state_in device live
  state_in_powered None = refl
  state_in_powered (Some (First, _)) = refl
  state_in_powered (Some (Second, _)) = refl

  module _ (cuts_fit : cuts ≤ all_ones)
      (left_fit : (count : ℕ) → left ≡ Some count → count ≤ all_ones) where
    formed_powered : IsFormed device → IsFormed (with_power cuts left known on device)
    formed_powered formed = search rules

    pub live_powered : (side : Side) (generation : ℕ) → IsLive device side generation
        → IsLive (with_power cuts left known on device) side generation
    live_powered First _ live =
        record { formed = formed_powered live.formed; live = live.live; allowed = live.allowed }
    live_powered Second _ live =
        record { formed = formed_powered live.formed; live = live.live; allowed = live.allowed }

    pub legal_powered : IsLegal device → IsLegal (with_power cuts left known on device)
    legal_powered legal = (legal.0, legal.1, live_powered legal.0 legal.1 legal.2)

pub legal_on : (device : Device) → IsLegal device → IsLegal (with_power_on device)
legal_on device legal = search legal_powered

pub state_in_on : (device : Device) (live : Option (Side × ℕ))
    → state_in (with_power_on device) live ≡ state_in device live
state_in_on device = state_in_powered device.cuts device.cuts_left device.fuse true device
