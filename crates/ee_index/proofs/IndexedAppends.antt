-- What an append makes of an index: its slot is the first free one, and each other slot is as
-- before.
use Rattle.std.proofs.Common.{◌≡◌, ◌≢◌, ◌⊎◌, inl, inr, ℕ, ◌<◌, Some, List, get_or, refl, sym, ap, ◌∙◌, arith, rules}
use Rattle.std.proofs.lemmas.Bool.{cases_eq, cases_lt}
use Rattle.std.proofs.lemmas.Grind.{common_steps}
use Rattle.std.proofs.lemmas.List.{get_or_past}
use Rattle.ee_flash.specs.Device.{Device, IsFormed}
use Rattle.ee_flash.specs.Size.{Size, slot_count}
use Rattle.ee_flash.specs.declared.word.Word.{Word}
use Rattle.ee_flash.specs.declared.word.Word.TheVariants.{Erased, Held}
use Rattle.ee_codec.proofs.Public.{slot_of-element}
use Rattle.ee_pages.specs.Legal.{IsLive}
use Rattle.ee_pages.specs.Meaning.{Change, Forget, Map, Put, SpellsChange, map_after, meaning, says}
use Rattle.ee_pages.specs.Sets.{fill_of, page_of_slot, place_of_slot, set_of, slots_of}
use Rattle.ee_pages.specs.declared.side.Side.{Side}
use Rattle.ee_pages.proofs.Public.{length-slots, page_in_range, place_in_range, slot_at, split_by}
use Rattle.ee_core.specs.CallSteps.{map_change, number_written}
use Rattle.ee_core.specs.Picture.{IsDrawn, Picture, marked_to, picture_of, with_change}
use Rattle.ee_core.specs.declared.change.Change as declared
use Rattle.ee_core.specs.declared.change.Change.TheVariants as kinds
use Rattle.ee_core.proofs.Public.{slot_erased, with_word-elsewhere, with_word-there, page_of_set}
use Rattle.ee_index.specs.Index.{IsIndex, index_for_change, without_forgotten}

-- a slot, as its set is drawn
pub drawn_slot : (side : Side) (device : Device) (picture : Picture) (slot : ℕ) → IsFormed device
    → slot < slot_count device.size → IsDrawn side device picture
    → get_or (slots_of (set_of side device)) slot Erased
    ≡ picture (page_of_slot device.size slot) (place_of_slot device.size slot)
drawn_slot side device picture slot formed h drawn =
    search (rules, page_in_range, page_of_set, place_in_range, slot_at)

-- no mark stands in the place of a slot
unmarked : (last : ℕ) (picture : Picture) (page at : ℕ) → 3 < at
    → marked_to last picture page at ≡ picture page at
unmarked last picture page at h = search rules

slots_apart : (size : Size) (slot fill : ℕ) → slot ≢ fill
    → (page_of_slot size slot ≢ page_of_slot size fill)
    ⊎ (place_of_slot size slot ≢ place_of_slot size fill)
slots_apart size slot fill apart = search (rules, cases_eq, split_by)

module _ (side : Side) (old new : Device) (generation fill number : ℕ)
    (live : IsLive old side generation) (formed : IsFormed new) (sizes : new.size ≡ old.size)
    (fill_is : fill ≡ fill_of (slots_of (set_of side old))) (free : fill < slot_count old.size)
    (drawn : IsDrawn side new (with_change old.size fill number (picture_of side old))) where
  in_both : (slot : ℕ) → slot < slot_count old.size
      → get_or (slots_of (set_of side new)) slot Erased
      ≡ with_change old.size fill number (picture_of side old) (page_of_slot old.size slot)
      (place_of_slot old.size slot)
  in_both slot h =
      drawn_slot side new (with_change old.size fill number (picture_of side old)) slot formed
      (rw sizes h) drawn
      ∙ ap
      (λ (size : Size). with_change old.size fill number (picture_of side old)
      (page_of_slot size slot) (place_of_slot size slot)) sizes

  pub slot_filled : get_or (slots_of (set_of side new)) fill Erased ≡ Held number
  slot_filled = search (rules, in_both, with_word-there)

  pub slot_was_free : get_or (slots_of (set_of side old)) fill Erased ≡ Erased
  slot_was_free =
      drawn_slot side old (picture_of side old) fill live.formed free (λ page at h within. refl)
      ∙ slot_erased side generation fill old live fill_is free

  pub other_slots : (slot : ℕ) → slot ≢ fill
      → get_or (slots_of (set_of side new)) slot Erased
      ≡ get_or (slots_of (set_of side old)) slot Erased
  other_slots slot apart = elim (cases_lt slot (slot_count old.size)) [
    | inl within ↦
        in_both slot within
        ∙ with_word-elsewhere (page_of_slot old.size fill) (place_of_slot old.size fill)
        (Held number) (marked_to (page_of_slot old.size fill) (picture_of side old))
        (page_of_slot old.size slot) (place_of_slot old.size slot)
        (slots_apart old.size slot fill apart)
        ∙ unmarked (page_of_slot old.size fill) (picture_of side old) (page_of_slot old.size slot)
        (place_of_slot old.size slot) (omega arith)
        ∙ sym
        (drawn_slot side old (picture_of side old) slot live.formed within
        (λ page at h inside. refl))
    | inr past ↦
        search (rules, get_or_past, length-slots)
  ]

-- the word of a change says it
abbrev pub SaysChange : Word → Change → Type 0
SaysChange word (Put address value) = says word address ≡ Some (Some value)
SaysChange word (Forget address) = Unit {0}

-- the word that spells it does
pub says_spelled : (change : declared.Change) (word : Word) → word ≡ Held (number_written change)
    → SpellsChange (number_written change) (map_change change) → SaysChange word (map_change change)
says_spelled (kinds.Put address value) word e spells = search (rules, common_steps, slot_of-element)
says_spelled (kinds.Forget _ _) _ _ _ = tt

-- what an index has behind a change in the slot of this number
abbrev pub left_by : Change → ℕ → Map → Map
left_by (Put address value) number index = map_after (Put address number) index
left_by (Forget address) number index = map_after (Forget address) index

module _ (slots after : List Word) (fill : ℕ) (index : Map)
    (was_free : get_or slots fill Erased ≡ Erased)
    (others : (slot : ℕ) → slot ≢ fill → get_or after slot Erased ≡ get_or slots slot Erased)
    (indexes : IsIndex slots index) where
  pub appended_index : (change : Change) → SaysChange (get_or after fill Erased) change
      → ((address : ℕ) → meaning after address ≡ map_after change (meaning slots) address)
      → IsIndex after (left_by change fill index)
  appended_index (Put named value) there map address = search rules
  appended_index (Forget named) there map address = search rules

-- an index follows as it is made ready and an address that is forgotten leaves it
pub follows_change : (slots : List Word) (change : Change) (fill : ℕ) (before ready after : Map)
    → ((address : ℕ) → ready address ≡ index_for_change change fill before address)
    → ((address : ℕ) → after address ≡ without_forgotten change ready address)
    → IsIndex slots (left_by change fill before) → IsIndex slots after
follows_change slots (Put named value) fill before ready after first then indexes address =
    search rules
follows_change slots (Forget named) fill before ready after first then indexes address =
    search rules
