-- What is drawn on the pages after a change, whole or cut.
use Rattle.std.specs.Prelude.{◌⊎◌, ℕ, ◌+◌, Bool, true, List, [], ◌∷◌}
use Rattle.ee_flash.specs.Device.{Device}
use Rattle.ee_pages.specs.Meaning.{Change}
use Rattle.ee_pages.specs.Sets.{first_page, other, set_of}
use Rattle.ee_pages.specs.declared.side.Side.{Side}
use Rattle.ee_core.specs.Cuts.{ErasesPartly, IsDrawnPartly, MovesPartly}
use Rattle.ee_core.specs.Picture.{IsDrawn, filled_set, is_used, moved_words, number_of_change, picture_of, retired_pages, with_change}
use Rattle.ee_core.specs.State.{state_of}

-- what is drawn after an append: the change's word, with the marks of its page; the
-- other set is as before
pub record ShowsAppended (old : Device) (change : Change) (new : Device) (side : Side)
    : Type 0 where
  pub live_pages : IsDrawn side new
      (with_change old.size (state_of old).fill (number_of_change (state_of old).map change)
      (picture_of side old))
  pub old_pages : IsDrawn (other side) new (picture_of (other side) old)

-- the pages of the set that a transfer leaves which may be erased then: for one change all, since
-- each slot was used; for several those that are not blank
abbrev pub is_left : List Change → Side → Device → ℕ → Bool
is_left (change ∷ []) side device page = true
is_left changes side device page = is_used side device page

-- what is drawn after a transfer: the other set is filled with the map, and pages of the set that
-- was live may be erased
pub record ShowsMoved (old : Device) (changes : List Change) (new : Device) (side : Side)
    (generation : ℕ) : Type 0 where
  pub new_pages : IsDrawn (other side) new
      (filled_set old.size (generation + 1) (moved_words changes (state_of old).map))
  pub old_pages : IsDrawn side new (retired_pages (is_left changes side old) (picture_of side old))

-- what is drawn when power was cut in an append: of the change's word and the marks of its
-- page each is as before, as the whole append leaves it, or torn; each other word and the
-- other set are as before
pub record ShowsCutAppend (old : Device) (change : Change) (new : Device) (side : Side)
    : Type 0 where
  pub live_pages : let before = picture_of side old in
      IsDrawnPartly side new before
      (with_change old.size (state_of old).fill (number_of_change (state_of old).map change)
      before)
  pub old_pages : IsDrawn (other side) new (picture_of (other side) old)

-- power was cut in a transfer: in erasing the pages of the other set, or behind that
abbrev pub ShowsCutMove : Device → List Change → Device → Side → ℕ → Type 0
ShowsCutMove old changes new side generation =
    ErasesPartly (first_page old.size (other side)) (set_of (other side) old) old new
    ⊎ MovesPartly old new side generation (moved_words changes (state_of old).map)
