-- How a change is appended: what a part of that leaves in the first free slot of the live set.
use Rattle.std.specs.Prelude.{◌≡◌, ◌⊎◌, ◌+◌, Result, Ok, Err, ℕ}
use Rattle.ee_flash.specs.Device.{Device}
use Rattle.ee_flash.specs.declared.word.Word.TheVariants.{Held}
use Rattle.ee_pages.specs.Laws.{KeepsLiveSet}
use Rattle.ee_pages.specs.Layout.{IsLayout}
use Rattle.ee_pages.specs.Meaning.{Change, SpellsChange, map_after}
use Rattle.ee_pages.specs.Pushing.{TakesSlot}
use Rattle.ee_pages.specs.Sets.{first_page, other, page_of_slot, place_of_slot}
use Rattle.ee_pages.specs.declared.find.Layout.{Layout}
use Rattle.ee_pages.specs.declared.side.Side.{Side}
use Rattle.ee_core.specs.CallSteps.{IsSameSet, KeepsMarks, PutsWord, map_change, map_in, number_written}
use Rattle.ee_core.specs.Cuts.{PutsPartly}
use Rattle.ee_core.specs.Finished.{IsMarked}
use Rattle.ee_core.specs.Picture.{IsDrawn, picture_of, with_change}
use Rattle.ee_core.specs.declared.change.Change as declared

-- the live set is as before, or one slot more is written: torn, or with the change
abbrev pub MayTakeSlot : Device → Device → Side → ℕ → Change → Type 0
MayTakeSlot old new side generation change =
    KeepsLiveSet old new side generation
    ⊎ TakesSlot old new side generation (map_in side old)
    ⊎ TakesSlot old new side generation (map_after change (map_in side old))

-- the change was programmed into that slot; no mark is lost, and the other set and
-- all wear are as before
pub record Pushed (old new : Device) (layout : Layout) (change : declared.Change) : Type 0 where
  pub takes : TakesSlot old new layout.side layout.generation
      (map_after (map_change change) (map_in layout.side old))
  pub spells : SpellsChange (number_written change) (map_change change)
  pub puts : PutsWord (first_page old.size layout.side + page_of_slot old.size layout.fill)
      (place_of_slot old.size layout.fill) (Held (number_written change)) old new
  pub marks : KeepsMarks old new
  pub other : IsSameSet (other layout.side) old new
  pub wear : new.wear ≡ old.wear

-- or power was cut in it
pub record PushedPartly (old new : Device) (layout : Layout) (change : declared.Change)
    : Type 0 where
  pub cut : MayTakeSlot old new layout.side layout.generation (map_change change)
  pub begun : PutsPartly (first_page old.size layout.side + page_of_slot old.size layout.fill)
      (place_of_slot old.size layout.fill) (Held (number_written change)) old new
  pub marks : KeepsMarks old new
  pub other : IsSameSet (other layout.side) old new
  pub wear : new.wear ≡ old.wear

-- the step that programs it ends so
abbrev pub Pushes : {T E : Type 0} → Result T E → Device → Device → Layout → declared.Change
    → Type 0
Pushes (Ok done) old new layout change = Pushed old new layout change
Pushes (Err cut) old new layout change = PushedPartly old new layout change

-- The change stands in the slot, with the marks that come first where the slot begins a page, and
-- this is the layout then. The other set and all wear are as before.
pub record ChangeWritten (old new : Device) (layout after : Layout) (change : declared.Change)
    : Type 0 where
  pub takes : TakesSlot old new layout.side layout.generation
      (map_after (map_change change) (map_in layout.side old))
  pub spells : SpellsChange (number_written change) (map_change change)
  pub drawn : IsDrawn layout.side new
      (with_change old.size layout.fill (number_written change) (picture_of layout.side old))
  pub layout_is : IsLayout new after
  pub same_set : after.side ≡ layout.side
  pub marked : IsMarked new layout.side
  pub other : IsSameSet (other layout.side) old new
  pub wear : new.wear ≡ old.wear
