-- What a transfer copies by, where an index may be given up.
use Rattle.std.specs.Prelude.{◌≡◌, ℕ, List, None}
use Rattle.ee_flash.specs.declared.word.Word.{Word}
use Rattle.ee_pages.specs.LiveOrder.{above_of}
use Rattle.ee_pages.specs.Meaning.{meaning}
use Rattle.ee_core.specs.Course.{GoesOver}
use Rattle.ee_index.specs.Index.{IsFilledLeft}
use Rattle.ee_index.specs.declared.lent_cursor.LentCursor.{LentCursor}
use Rattle.ee_index.specs.declared.lent_cursor.LentCursor.TheVariants.{ByIndex, BySlots}

-- the address behind which it goes on
abbrev pub is_behind : LentCursor → ℕ
is_behind (ByIndex cursor) = above_of cursor.after
is_behind (BySlots course) = course.after

-- it goes over the addresses to which these slots give a value
abbrev pub GoesOverLive : List Word → LentCursor → Type 0
GoesOverLive slots (ByIndex cursor) = IsFilledLeft slots cursor.fill cursor.after cursor.entries.now
GoesOverLive slots (BySlots course) = GoesOver (meaning slots) course

-- so it does once it has begun
abbrev pub BeginsOver : List Word → LentCursor → Type 0
BeginsOver slots (ByIndex cursor) =
    (cursor.after ≡ None) × IsFilledLeft slots cursor.fill cursor.after cursor.entries.now
BeginsOver slots (BySlots course) = Unit {0}

-- it goes by the index
abbrev pub GoesByIndex : LentCursor → Type 0
GoesByIndex (ByIndex cursor) = Unit {0}
GoesByIndex (BySlots course) = ⊥
