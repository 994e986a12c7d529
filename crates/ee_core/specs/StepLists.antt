-- The steps of each call, in their order, as a function of the device before it.
use Rattle.std.specs.Prelude.{ℕ, ◌+◌, ◌-◌, ◌==◌, nat_lt, not, if◌then◌else◌, Bool, Option, Some, None, List, [], ◌∷◌, ◌++◌, length, map, take}
use Rattle.std.specs.List.{flat_map, range_with_len}
use Rattle.ee_flash.specs.Device.{Device}
use Rattle.ee_flash.specs.Runs.{number_of}
use Rattle.ee_flash.specs.Size.{Size}
use Rattle.ee_flash.specs.Step.{Erase, Step}
use Rattle.ee_flash.specs.declared.word.Word.{Word}
use Rattle.ee_pages.specs.Meaning.{Change}
use Rattle.ee_pages.specs.Page.{is_marked, marking}
use Rattle.ee_pages.specs.Pushing.{slot_step}
use Rattle.ee_pages.specs.Sets.{first_page, live_of, other, page_of_slot}
use Rattle.ee_pages.specs.declared.side.Side.{Side}
use Rattle.ee_pages.specs.declared.state.Mark.{Mark}
use Rattle.ee_pages.specs.declared.state.Mark.TheVariants.{Active, Erasing, Receive, Valid}
use Rattle.ee_core.specs.CallSteps.{map_in}
use Rattle.ee_core.specs.Finished.{last_used}
use Rattle.ee_core.specs.Picture.{moved_words, number_of_change}
use Rattle.ee_core.specs.State.{capacity, not_blank_from, not_blank_in, state_of}

-- ---- the parts

-- a mark of a page, unless its word is written, whole or torn
abbrev pub steps_to_mark : Device → Mark → ℕ → List Step
steps_to_mark device mark page =
    if is_marked device page mark then [] else marking page mark ∷ []

-- by rising page: each page of a set that isn't blank is erased
abbrev pub steps_to_clear : Device → Side → List Step
steps_to_clear device side = map Erase (not_blank_in side device)

-- or marked as one that may be erased
abbrev pub steps_to_retire : Device → Side → List Step
steps_to_retire device side = flat_map (steps_to_mark device Erasing) (not_blank_in side device)

-- the page of a slot of a set, by its number in the device
abbrev pub slot_page : Size → Side → ℕ → ℕ
slot_page size side slot = first_page size side + page_of_slot size slot

-- the slot is the first of a further page
abbrev pub begins_page : Size → ℕ → Bool
begins_page size slot = not (page_of_slot size slot == page_of_slot size (slot - 1))

-- where it is: the page before it is marked valid, and its page active
abbrev pub steps_to_turn : Device → Side → ℕ → List Step
steps_to_turn device side slot =
    if begins_page device.size slot then
    steps_to_mark device Valid (slot_page device.size side (slot - 1))
    ++ steps_to_mark device Active (slot_page device.size side slot)
    else []

-- this number in that slot, which is the first free one of a live set
abbrev pub steps_to_append : Device → Side → ℕ → ℕ → List Step
steps_to_append device side slot number =
    steps_to_turn device side slot ++ (slot_step device.size side slot number ∷ [])

-- in a set that was blank: a further page gets its receive word before its first slot
abbrev pub steps_to_receive : Size → Side → ℕ → ℕ → List Step
steps_to_receive size side generation slot =
    if begins_page size slot then marking (slot_page size side slot) (Receive generation) ∷ []
    else []

-- these words in the slots from this one on
abbrev pub steps_to_fill : Size → Side → ℕ → ℕ → List Word → List Step
steps_to_fill size side generation slot [] = []
steps_to_fill size side generation slot (word ∷ words) =
    steps_to_receive size side generation slot
    ++ (slot_step size side slot (number_of word)
    ∷ steps_to_fill size side generation (slot + 1) words)

-- behind the commit: each page before the last used one, which is so many behind the first, is
-- marked valid, and that one active; the first page is active by the commit
abbrev pub steps_to_close : Size → Side → ℕ → List Step
steps_to_close size side last =
    flat_map (λ page. marking page Valid ∷ []) (range_with_len (first_page size side) last)
    ++ (if last == 0 then [] else marking (first_page size side + last) Active ∷ [])

-- ---- the calls, on a device whose live set is of this side and this generation

-- the other set is erased, opened, filled with these words and committed
abbrev pub steps_to_commit : Device → Side → ℕ → List Word → List Step
steps_to_commit device side generation words =
    steps_to_clear device (other side)
    ++ (marking (first_page device.size (other side)) (Receive (generation + 1)) ∷ [])
    ++ steps_to_fill device.size (other side) (generation + 1) 0 words
    ++ (marking (first_page device.size (other side)) Active ∷ [])

-- and then the marks of its pages and of the old ones are set
abbrev pub steps_to_move : Device → Side → ℕ → List Word → List Step
steps_to_move device side generation words =
    steps_to_commit device side generation words
    ++ (steps_to_close device.size (other side) (page_of_slot device.size (length words - 1))
    ++ steps_to_retire device side)

-- in the live set: each page before the last used one, which is so many behind the first, gets its
-- valid mark, and that one its active mark
abbrev pub steps_to_mark_live : Device → Side → ℕ → List Step
steps_to_mark_live device side last =
    flat_map (steps_to_mark device Valid) (range_with_len (first_page device.size side) last)
    ++ steps_to_mark device Active (first_page device.size side + last)

-- the marks that are left to set
abbrev pub steps_to_finish : Device → Side → ℕ → List Step
steps_to_finish device side last =
    steps_to_mark_live device side last ++ steps_to_retire device (other side)

-- the lowest page of the other set that isn't blank is erased, if there is one
abbrev pub steps_to_clean : Device → Side → List Step
steps_to_clean device side = take 1 (steps_to_clear device (other side))

-- ---- the calls

abbrev pub steps_in : (Side → ℕ → List Step) → Option (Side × ℕ) → List Step
steps_in steps None = []
steps_in steps (Some live) = steps live.0 live.1

abbrev pub steps_of_open : Device → List Step
steps_of_open device =
    steps_in (λ side generation. steps_to_finish device side (last_used device side))
    (live_of device)

abbrev pub steps_of_append : Change → Device → List Step
steps_of_append change device =
    steps_in (λ side generation.
    steps_to_append device side (state_of device).fill
    (number_of_change (state_of device).map change)) (live_of device)

abbrev pub steps_of_transfer : List Change → Device → List Step
steps_of_transfer changes device =
    steps_in (λ side generation.
    steps_to_move device side generation (moved_words changes (map_in side device)))
    (live_of device)

-- of changes to which no refusal applies
abbrev pub steps_of_making : List Change → Device → List Step
steps_of_making [] device = []
steps_of_making (change ∷ []) device =
    if nat_lt (state_of device).fill (capacity device) then steps_of_append change device
    else steps_of_transfer (change ∷ []) device
steps_of_making changes device = steps_of_transfer changes device

abbrev pub steps_of_clear : Device → List Step
steps_of_clear device =
    steps_in (λ side generation. steps_to_move device side generation []) (live_of device)

abbrev pub steps_of_clean : Device → List Step
steps_of_clean device =
    steps_in (λ side generation. steps_to_clean device side) (live_of device)

abbrev pub steps_of_format : Device → List Step
steps_of_format device =
    map Erase (not_blank_from 0 device.image)
    ++ (marking 0 (Receive 1) ∷ marking 0 Active ∷ [])
