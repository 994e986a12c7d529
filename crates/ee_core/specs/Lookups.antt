-- What a look-up must be given before a change.
use Rattle.std.specs.Prelude.{ℕ, Bool, true, false, List}
use Rattle.ee_flash.specs.Device.{Device}
use Rattle.ee_flash.specs.declared.word.Word.{Word}
use Rattle.ee_pages.specs.Sets.{set_of, slots_of}
use Rattle.ee_pages.specs.declared.find.Layout.{Layout}
use Rattle.ee_core.specs.declared.change.Change as declared
use Rattle.ee_core.specs.declared.change.Change.TheVariants as kinds
use Rattle.ee_core.specs.declared.change.Put as listed

-- the slots of the live set, where the layout says that it is
abbrev pub slots_by : Layout → Device → List Word
slots_by layout device = slots_of (set_of layout.side device)

-- for a value that is put in a free slot, that it is ready for its address; for a forgetting,
-- nothing more than before
abbrev pub IsReadyToMake : Type 0 → (ℕ → Type 0) → declared.Change → Type 0
IsReadyToMake fits ready (kinds.Put address value) = ready address
IsReadyToMake fits ready (kinds.Forget address value) = fits

-- for a transfer with values, room for these; for one that forgets, nothing more than before
abbrev pub HasRoomToMove : Type 0 → (List listed.Put → Type 0) → List listed.Put → Bool → Type 0
HasRoomToMove fits room puts true = fits
HasRoomToMove fits room puts false = room puts
