-- What a step in the live set leaves, in every outcome: a mark behind written slots, and a change
-- in the first free slot. Each law is proved by the function of its name.
use Rattle.std.specs.Prelude.{◌≡◌, ◌<◌, ◌≤◌, ◌⊎◌, ℕ, ◌+◌, ◌-◌, ◌*◌, slice_set}
use Rattle.ee_flash.specs.Device.{Device}
use Rattle.ee_flash.specs.Laws.{IsStep}
use Rattle.ee_flash.specs.Size.{Size, header_words, slot_count}
use Rattle.ee_flash.specs.Step.{Step, Program, device_after}
use Rattle.ee_flash.specs.declared.word.Word.TheVariants.{Held}
use Rattle.ee_pages.specs.Laws.{KeepsLiveSet}
use Rattle.ee_pages.specs.Legal.{IsLive}
use Rattle.ee_pages.specs.Meaning.{Change, Map, SpellsChange, map_after, meaning}
use Rattle.ee_pages.specs.Page.{marking}
use Rattle.ee_pages.specs.Sets.{fill_of, first_page, other, page_of_slot, place_of_slot, set_of, slots_of}
use Rattle.ee_pages.specs.declared.side.Side.{Side}
use Rattle.ee_pages.specs.declared.state.Mark.{Mark}
use Rattle.ee_pages.specs.declared.state.Mark.TheVariants.{Active, Valid}

-- an active or valid mark of a page of the set, with every slot before that page written
pub record IsMarkBehind (device : Device) (side : Side) (page : ℕ) (mark : Mark) : Type 0 where
  pub in_range : page < device.size.pages
  pub behind : page * (device.size.words - header_words) ≤ fill_of (slots_of (set_of side device))
  pub active_or_valid : (mark ≡ Active) ⊎ (mark ≡ Valid)

-- every outcome of programming such a mark keeps the live set, and the other set as it was
abbrev pub MarkKeepsLive : Type 0
MarkKeepsLive =
    (page : ℕ) (mark : Mark) (old new : Device) (side : Side) (generation : ℕ)
    → IsLive old side generation
    → IsMarkBehind old side page mark
    → IsStep (marking (first_page old.size side + page) mark) old new
    → KeepsLiveSet old new side generation × (set_of (other side) new ≡ set_of (other side) old)

-- the step that programs a slot of a set, by the slot's number
abbrev pub slot_step : Size → Side → ℕ → ℕ → Step
slot_step size side slot number =
    Program (first_page size side + page_of_slot size slot) (place_of_slot size slot) number

-- one slot more of the live set is written, and its map is this one
pub record TakesSlot (old new : Device) (side : Side) (generation : ℕ) (map : Map) : Type 0 where
  pub live : IsLive new side generation
  pub same_size : new.size ≡ old.size
  pub one_more : fill_of (slots_of (set_of side new)) ≡ fill_of (slots_of (set_of side old)) + 1
  pub map_is : (address : ℕ) → meaning (slots_of (set_of side new)) address ≡ map address

-- Every outcome of programming a change into the first free slot leaves the live set as it was, or
-- a slot more spoiled and the map as it was, or the slot written and the map changed; and the
-- other set as it was.
abbrev pub PushTakes : Type 0
PushTakes =
    (change : Change) (number : ℕ) (old new : Device) (side : Side) (generation : ℕ)
    → IsLive old side generation
    → let slots =
    slots_of (set_of side old) in fill_of slots < slot_count old.size
    → SpellsChange number change
    → IsStep (slot_step old.size side (fill_of slots) number) old new
    → (set_of (other side) new ≡ set_of (other side) old)
    × (KeepsLiveSet old new side generation ⊎ TakesSlot old new side generation (meaning slots)
    ⊎ TakesSlot old new side generation (map_after change (meaning slots)))

-- the whole step writes the slot, and no other
abbrev pub WholePushTakes : Type 0
WholePushTakes =
    (change : Change) (number : ℕ) (old new : Device) (side : Side) (generation : ℕ)
    → IsLive old side generation
    → let slots =
    slots_of (set_of side old) in fill_of slots < slot_count old.size
    → SpellsChange number change
    → let step =
    slot_step old.size side (fill_of slots) number in IsStep step old new
    → new ≡ device_after step old
    → TakesSlot old new side generation (map_after change (meaning slots))
    × (slots_of (set_of side new) ≡ slice_set slots (fill_of slots) (Held number))
