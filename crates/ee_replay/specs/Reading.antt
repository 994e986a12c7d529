-- A script that a reader gives, and why it can't be replayed. What the reader has left is seen
-- before and after, where it is known.
use Rattle.std.specs.Prelude.{◌≡◌, ◌⊎◌, Option, List, ℕ}
use Rattle.std.specs.Io.KnownBytes.{Consumes, IsAtEnd, Keeps}
use Rattle.ee_flash.specs.Device.{Device}
use Rattle.ee_interface.specs.Script.Reading.{IsStreamFault}
use Rattle.ee_interface.specs.declared.script.session.StreamFault.{StreamFault}
use Rattle.ee_interface.specs.ReplayFault.{of_stream}
use Rattle.ee_interface.specs.declared.replay_fault.ReplayFault.{ReplayFault}
use Rattle.ee_image_store.specs.Opening.{IsOpenFault, IsStoreText}

-- the reader gave this text, and has no more
pub record IsGiven (before after : Option (List ℕ)) (text : List ℕ) : Type 0 where
  pub given : Consumes before after text
  pub ended : IsAtEnd after

-- what the reader gave isn't answered to its end, for what was met first
abbrev pub IsNotAnswered : Option (List ℕ) → Option (List ℕ) → ReplayFault → Type 0
IsNotAnswered before after fault =
    (stream : StreamFault) × IsStreamFault before after stream × (fault ≡ of_stream stream)

-- Why a script that a reader gives isn't replayed, the first cause that applies: no store is
-- opened, and nothing was read; or one is, and the script isn't answered.
abbrev pub IsReaderFault : Option (List ℕ) → Option (List ℕ) → List ℕ → ReplayFault → Type 0
IsReaderFault before after old_image fault =
    (IsOpenFault old_image fault × Keeps before after)
    ⊎ (((device : Device) × IsStoreText old_image device) × IsNotAnswered before after fault)
