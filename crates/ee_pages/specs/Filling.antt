-- The set that a transfer fills: what whole steps make of it until its commit, and every outcome of
-- the commit. Until then a cut leaves the live set, as any step in the other set does. Each law is
-- proved by the function of its name.
use Rattle.std.specs.Prelude.{◌≡◌, ◌<◌, ◌≤◌, ◌⊎◌, ℕ, ◌+◌, ◌-◌, ◌*◌, true, None, slice_set}
use Rattle.std.specs.List.{All}
use Rattle.ee_flash.specs.Device.{Device, IsFormed}
use Rattle.ee_flash.specs.Laws.{IsStep}
use Rattle.ee_flash.specs.Size.{header_words, slot_count}
use Rattle.ee_flash.specs.Step.{device_after}
use Rattle.ee_flash.specs.declared.word.Word.TheVariants.{Erased, Held}
use Rattle.ee_codec.specs.Words.{IsGeneration, receive}
use Rattle.ee_pages.specs.Laws.{KeepsLiveSet}
use Rattle.ee_pages.specs.Legal.{IsLive, is_allowed_at}
use Rattle.ee_pages.specs.Meaning.{Change, SpellsChange, map_after, meaning}
use Rattle.ee_pages.specs.Page.{is_blank, marking}
use Rattle.ee_pages.specs.Pushing.{slot_step}
use Rattle.ee_pages.specs.Sets.{committed_generation, fill_of, first_page, other, set_of, slots_of, word_of}
use Rattle.ee_pages.specs.declared.side.Side.{Side}
use Rattle.ee_pages.specs.declared.state.Mark.TheVariants.{Active, Receive}

-- The set takes elements of this generation, and so many of its slots are written: each word may
-- stand in its place, and nothing but the mark that commits it is missing.
pub record IsFilling (device : Device) (side : Side) (generation count : ℕ) : Type 0 where
  pub formed : IsFormed device
  pub receives : word_of (set_of side device) 0 0 ≡ Held (receive generation)
  pub uncommitted : word_of (set_of side device) 0 1 ≡ Erased
  pub allowed : (page at : ℕ) → page < device.size.pages → at < device.size.words
      → is_allowed_at device.size generation (set_of side device) page at ≡ true
  pub fill : fill_of (slots_of (set_of side device)) ≡ count

-- a receive word on the first page of a set of blank pages opens the set, with no slot written
abbrev pub OpensSet : Type 0
OpensSet =
    (old new : Device) (side : Side) (generation : ℕ) → IsGeneration generation
    → All (λ page. is_blank page ≡ true) (set_of side old)
    → let step =
    marking (first_page old.size side) (Receive generation) in IsStep step old new
    → new ≡ device_after step old
    → IsFilling new side generation 0
    × ((address : ℕ) → meaning (slots_of (set_of side new)) address ≡ None)

-- a receive word on a further page, with every slot before that page written, opens the page
abbrev pub OpensPage : Type 0
OpensPage =
    (page : ℕ) (old new : Device) (side : Side) (generation count : ℕ) → IsGeneration generation
    → IsFilling old side generation count
    → page < old.size.pages → page * (old.size.words - header_words) ≤ count
    → let step =
    marking (first_page old.size side + page) (Receive generation) in IsStep step old new
    → new ≡ device_after step old
    → IsFilling new side generation count
    × (slots_of (set_of side new) ≡ slots_of (set_of side old))

-- a change in the first free slot changes the map that the set will have
abbrev pub StagesChange : Type 0
StagesChange =
    (change : Change) (number : ℕ) (old new : Device) (side : Side) (generation count : ℕ)
    → IsFilling old side generation count
    → count < slot_count old.size → SpellsChange number change
    → let step =
    slot_step old.size side count number in IsStep step old new → new ≡ device_after step old
    → IsFilling new side generation (count + 1)
    × (slots_of (set_of side new) ≡ slice_set (slots_of (set_of side old)) count (Held number))
    × ((address : ℕ)
    → meaning (slots_of (set_of side new)) address
    ≡ map_after change (meaning (slots_of (set_of side old))) address)

-- the set that was filled is live now, with the slots that it was filled with
pub record IsCommitted (old new : Device) (side : Side) (generation : ℕ) : Type 0 where
  pub live : IsLive new side generation
  pub same_size : new.size ≡ old.size
  pub same_slots : slots_of (set_of side new) ≡ slots_of (set_of side old)

-- Every outcome of the commit keeps the set that was live, or makes the other one live; and the
-- pages of the set that was live are as they were.
abbrev pub CommitCommits : Type 0
CommitCommits =
    (old new : Device) (side : Side) (generation count : ℕ) → IsLive old side generation
    → IsFilling old (other side) (generation + 1) count
    → IsGeneration (generation + 1)
    → IsStep (marking (first_page old.size (other side)) Active) old new
    → (set_of side new ≡ set_of side old)
    × (KeepsLiveSet old new side generation ⊎ IsCommitted old new (other side) (generation + 1))

-- the whole step makes it live
abbrev pub WholeCommitCommits : Type 0
WholeCommitCommits =
    (old new : Device) (side : Side) (generation count : ℕ) → IsLive old side generation
    → IsFilling old (other side) (generation + 1) count
    → IsGeneration (generation + 1) → let step =
    marking (first_page old.size (other side)) Active in IsStep step old new
    → new ≡ device_after step old
    → IsCommitted old new (other side) (generation + 1)

-- so it does where the other set is not committed, as in a device that was blank; and
-- that set is as it was
abbrev pub FirstCommitCommits : Type 0
FirstCommitCommits =
    (old new : Device) (side : Side) (generation count : ℕ) → IsFilling old side generation count
    → IsGeneration generation
    → committed_generation (set_of (other side) old) ≡ None → let step =
    marking (first_page old.size side) Active in IsStep step old new
    → new ≡ device_after step old
    → IsCommitted old new side generation × (set_of (other side) new ≡ set_of (other side) old)
