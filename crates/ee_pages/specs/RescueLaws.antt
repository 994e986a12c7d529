-- What holds of a rescue's choice: each law is proved by the function of its name.
use Rattle.std.specs.Prelude.{◌≡◌, ◌⊎◌, ◌<◌, ℕ, ◌+◌, ◌-◌, ◌*◌, true, false, Some, None, List, [], ◌++◌, drop, take, slice_index_or, slice_set}
use Rattle.ee_flash.specs.Device.{Device}
use Rattle.ee_flash.specs.declared.word.Word.{Word}
use Rattle.ee_flash.specs.declared.word.Word.TheVariants.{Erased, Torn}
use Rattle.ee_codec.specs.Reading.{mark_of}
use Rattle.ee_pages.specs.Laws.{KeepsSide}
use Rattle.ee_pages.specs.Legal.{IsLive}
use Rattle.ee_pages.specs.Meaning.{Map, latest_in, meaning, says}
use Rattle.ee_pages.specs.Page.{is_torn, is_written}
use Rattle.ee_pages.specs.Rescue.{is_bad, has_begun, is_left_behind, named_generation, rescued_map, rescued_of, rescued_side}
use Rattle.ee_pages.specs.Sets.{committed_generation, greater_set, is_mark, live_of, other, set_of, slots_of, word_of}
use Rattle.ee_pages.specs.declared.side.Side.{Side}
use Rattle.ee_pages.specs.declared.side.Side.TheVariants.{First, Second}

-- ---- a legal image

-- its live set is rescued, which names its generation, and so its map
abbrev pub LiveIsRescued : Type 0
LiveIsRescued =
    (device : Device) (side : Side) (generation : ℕ) → IsLive device side generation
    → (rescued_side device ≡ Some side) × (named_generation (set_of side device) ≡ generation)
    × ((address : ℕ) → rescued_map device address ≡ meaning (slots_of (set_of side device)) address)

-- and its bad words are its torn ones
abbrev pub LegalIsBadWhereTorn : Type 0
LegalIsBadWhereTorn =
    (device : Device) (side : Side) (generation page at : ℕ) → IsLive device side generation
    → page < device.size.pages → at < device.size.words
    → is_bad device.size (set_of side device) page at
    ≡ is_torn (word_of (set_of side device) page at)

-- ---- one word that went bad

-- One word of a set reads as this one; all else is as before.
pub record PutsInSet (old new : Device) (side : Side) (page at : ℕ) (word : Word) : Type 0 where
  pub same_size : new.size ≡ old.size
  pub same_other : set_of (other side) new ≡ set_of (other side) old
  pub there : set_of side new
      ≡ slice_set (set_of side old) page
      (slice_set (slice_index_or (set_of side old) page []) at word)
  pub page_in_range : page < old.size.pages
  pub at_in_range : at < old.size.words

-- the word says nothing of any address
abbrev pub IsSilent : Word → Type 0
IsSilent word = (address : ℕ) → says word address ≡ None

-- The word went bad: in a header it isn't the mark, and in a slot it is no element and
-- no forgetting. So is each word that can't be read, and each that may not stand in
-- its place but a mark.
pub record WentBad (at : ℕ) (word : Word) : Type 0 where
  pub no_mark : at < 4 → is_mark (mark_of word) ≡ false
  pub silent : 3 < at → IsSilent word

-- Which set was live is told without the two words that commit it: the other set is not begun, or
-- has a page with the whole mark that it may be erased.
abbrev pub IsToldApart : Device → Side → Type 0
IsToldApart device side =
    (has_begun (set_of (other side) device) ≡ false)
    ⊎ (is_left_behind (set_of (other side) device) ≡ true)

-- what the slots mean but for this one
abbrev pub meaning_without : List Word → ℕ → Map
meaning_without slots slot = meaning (take slot slots ++ drop (slot + 1) slots)

-- the slot is the newest of the address: it says something, and no later one does
pub record IsNewest (slots : List Word) (slot address : ℕ) : Type 0 where
  pub says_nothing_later : latest_in (drop (slot + 1) slots) address ≡ None
  pub says_something : ¬ (says (slice_index_or slots slot Erased) address ≡ None)

-- The word that went bad was the newest element or forgetting of the address, and the address has
-- what the other slots say.
pub record LosesNewest (old new : Device) (side : Side) (page at address : ℕ) : Type 0 where
  pub in_slot : 3 < at
  pub newest : IsNewest (slots_of (set_of side old)) (page * (old.size.words - 4) + (at - 4))
      address
  pub map_is : rescued_map new address
      ≡ meaning_without (slots_of (set_of side old)) (page * (old.size.words - 4) + (at - 4))
      address

-- One word of the live set that went bad costs its own value, and no more: the set is rescued, and
-- each address has what it had, but for the one of which that word was the newest. Of the two words
-- that commit the set it takes that the set is told apart without them.
abbrev pub OneWordCostsItsValue : Type 0
OneWordCostsItsValue =
    (old new : Device) (side : Side) (generation page at : ℕ) (word : Word)
    → IsLive old side generation → PutsInSet old new side page at word → WentBad at word
    → (page ≡ 0 → at < 2 → (is_written word ≡ true) × IsToldApart old side)
    → (rescued_side new ≡ Some side)
    × ((address : ℕ)
    → (rescued_map new address ≡ meaning (slots_of (set_of side old)) address)
    ⊎ LosesNewest old new side page at address)

-- one of the set that waits costs nothing, by the same premise on the words that commit that set
abbrev pub WaitingWordCostsNothing : Type 0
WaitingWordCostsNothing =
    (old new : Device) (side : Side) (generation page at : ℕ) (word : Word)
    → IsLive old side generation → PutsInSet old new (other side) page at word → WentBad at word
    → (page ≡ 0 → at < 2 → IsToldApart old side)
    → (rescued_side new ≡ Some side)
    × ((address : ℕ) → rescued_map new address ≡ meaning (slots_of (set_of side old)) address)

-- Without that premise it does not hold: of these sets the second is live, and address 1 has 12.
-- The first waits, and its mark that it may be erased is torn. The second's active mark can't be
-- read then, the first is rescued, and 1 has 11.
pub record LosesASet : Type 0 where
  pub waiting : List (List Word)
  pub alive : List (List Word)
  pub is_live : greater_set (committed_generation waiting) (committed_generation alive)
      ≡ Some (Second, 2)
  pub had : meaning (slots_of alive) 1 ≡ Some 12
  pub wrong : rescued_of waiting (slice_set alive 0 (slice_set (slice_index_or alive 0 []) 1 Torn))
      ≡ Some First
  pub has : meaning (slots_of waiting) 1 ≡ Some 11

-- ---- what is rescued stays so

-- The set of this side is live but for what stands behind its first words, and no page of it has
-- the whole mark that it may be erased.
pub record IsHeld (device : Device) (side : Side) (generation : ℕ) : Type 0 where
  pub live : live_of device ≡ Some (side, generation)
  pub not_left : is_left_behind (set_of side device) ≡ false

-- such a set is rescued, with what its slots say, and so it is after whatever keeps it
abbrev pub HeldIsRescued : Type 0
HeldIsRescued =
    (old new : Device) (side : Side) (generation : ℕ) → IsHeld old side generation
    → KeepsSide old new side
    → (rescued_side old ≡ Some side) × IsHeld new side generation
    × ((address : ℕ) → rescued_map new address ≡ rescued_map old address)

-- the live set of a legal image is held
abbrev pub LiveIsHeld : Type 0
LiveIsHeld =
    (device : Device) (side : Side) (generation : ℕ) → IsLive device side generation
    → IsHeld device side generation

-- and so it is after one word of it went bad, but for the two that commit it
abbrev pub BadWordLeavesHeld : Type 0
BadWordLeavesHeld =
    (old new : Device) (side : Side) (generation page at : ℕ) (word : Word)
    → IsLive old side generation → PutsInSet old new side page at word → WentBad at word
    → (page ≡ 0 → 1 < at) → IsHeld new side generation

-- or one of the set that waits, but for the two that commit that set
abbrev pub BadWaitingWordLeavesHeld : Type 0
BadWaitingWordLeavesHeld =
    (old new : Device) (side : Side) (generation page at : ℕ) (word : Word)
    → IsLive old side generation → PutsInSet old new (other side) page at word → WentBad at word
    → (page ≡ 0 → 1 < at) → IsHeld new side generation
