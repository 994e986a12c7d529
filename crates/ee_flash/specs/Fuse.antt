-- What is left of a step that a fuse cuts, and of the fuse.
use Rattle.std.specs.Prelude.{ℕ, ◌-◌, ◌%◌, ◌==◌, if◌then◌else◌, Option, Some, None, List, map, option_map}
use Rattle.std.specs.List.{enumerate_from}
use Rattle.ee_flash.specs.declared.fuse.Fuse.{Fuse}
use Rattle.ee_flash.specs.declared.fuse.Tear.{Tear}
use Rattle.ee_flash.specs.declared.fuse.Tear.TheVariants.{Nothing, Done, Mixed, Torn as AllTorn}
use Rattle.ee_flash.specs.declared.word.Word.{Word}
use Rattle.ee_flash.specs.declared.word.Word.TheVariants.{Erased, Held, Torn}

-- the word that a cut program of this value leaves
abbrev pub left_word : Tear → ℕ → Word
left_word Nothing value = Erased
left_word Done value = Held value
left_word AllTorn value = Torn
left_word Mixed value = Torn

-- the word that a cut erase leaves at this place of its page, where this word was
abbrev pub left_at : Tear → ℕ → Word → Word
left_at Nothing at old = old
left_at Done at old = Erased
left_at AllTorn at old = Torn
left_at Mixed at old = if at % 3 == 0 then old else (if at % 3 == 1 then Erased else Torn)

-- the words that a cut erase leaves of its page
unfoldable pub left_page : Tear → List Word → List Word
left_page tear words = map (λ placed. left_at tear placed.0 placed.1) (enumerate_from 0 words)

-- the tear of the step that comes, if the fuse cuts it
abbrev pub next_tear : Option Fuse → Option Tear
next_tear None = None
next_tear (Some fuse) = if fuse.after == 0 then Some fuse.tear else None

-- the fuse after a step
abbrev pub next_fuse : Option Fuse → Option Fuse
next_fuse None = None
next_fuse (Some fuse) =
    if fuse.after == 0 then None else Some (record { after = fuse.after - 1; tear = fuse.tear })

-- the tear of the step that comes, where a fuse is known that cuts it
abbrev pub known_tear : Option (Option Fuse) → Option Tear
known_tear None = None
known_tear (Some fuse) = next_tear fuse

-- what is known of the fuse after a step
abbrev pub known_after : Option (Option Fuse) → Option (Option Fuse)
known_after known = option_map next_fuse known

-- one cut is left with a fuse, none without
abbrev pub cuts_left_of : Option Fuse → Option ℕ
cuts_left_of None = Some 0
cuts_left_of (Some fuse) = Some 1
