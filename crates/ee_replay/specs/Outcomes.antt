-- A script is a function of bytes, with all its cuts.
use Rattle.std.specs.Prelude.{◌≡◌, ℕ, List}
use Rattle.ee_flash.specs.Size.{Size}
use Rattle.ee_replay.specs.Replaying.{IsReplayed, IsTried}

-- the image and the script, as texts, decide the new image and the report
abbrev pub OneOutcome : Type 0
OneOutcome =
    (image text : List ℕ) (one other : List ℕ × List ℕ) → IsReplayed image text one.0 one.1
    → IsReplayed image text other.0 other.1 → one ≡ other

-- so do the size of a new device and the script
abbrev pub OneTry : Type 0
OneTry =
    (size : Size) (text : List ℕ) (one other : List ℕ × List ℕ) → IsTried size text one.0 one.1
    → IsTried size text other.0 other.1 → one ≡ other
