-- What a look-up of either kind knows.
use Rattle.std.specs.Prelude.{ℕ, List}
use Rattle.ee_flash.specs.declared.word.Word.{Word}
use Rattle.ee_pages.specs.Meaning.{Put}
use Rattle.ee_pages.specs.Sets.{fill_of}
use Rattle.ee_core.specs.declared.change.Put as listed
use Rattle.ee_index.specs.Index.{IsIndex, IsReadyFor, IsRoomFor, slot_for}
use Rattle.ee_replay.specs.declared.either_lookup.EitherLookup.{EitherLookup}
use Rattle.ee_replay.specs.declared.either_lookup.EitherLookup.TheVariants.{Slots, Index}

-- it finds the values that these slots give
abbrev pub FitsEither : {A : Type 0} → EitherLookup A → List Word → Type 0
FitsEither (Slots lookup) slots = Unit {0}
FitsEither (Index lookup) slots = IsIndex slots (slot_for lookup.index)

-- and is ready for a value of this address
abbrev pub IsReadyEither : {A : Type 0} → EitherLookup A → List Word → ℕ → Type 0
IsReadyEither (Slots lookup) slots address = Unit {0}
IsReadyEither (Index lookup) slots address =
    IsReadyFor slots (Put address 0) (fill_of slots) (slot_for lookup.index)

-- and has room for a transfer with these values
abbrev pub HasRoomEither : {A : Type 0} → EitherLookup A → List Word → List listed.Put → Type 0
HasRoomEither (Slots lookup) slots puts = Unit {0}
HasRoomEither (Index lookup) slots puts = IsRoomFor slots puts (slot_for lookup.index)
