use Rattle.std.proofs.Common.{◌≡◌, ◌⊎◌, ◌+◌, ◌-◌, ◌<◌, ◌≤◌, ℕ, List, get_or, length}
use Rattle.ee_flash.specs.Fuse.{left_at}
use Rattle.ee_flash.specs.Kept.{words_of}
use Rattle.ee_flash.specs.declared.word.Word.{Word}
use Rattle.ee_flash.specs.declared.word.Word.TheVariants.{Erased}
use Rattle.ee_flash.proofs.cells.Kept.tear.Given as goal

-- the words up to here are torn, and no others
abbrev pub invariant-loop-place : goal.invariant-loop-place
invariant-loop-place g l =
    let words : List Word = words_of l.self in
    let old : List Word = words_of l.fn.self in
    (length words ≡ length old)
    × ((k : ℕ) → k < l.place - l.start
    → get_or words (l.start + k) Erased ≡ left_at l.tear k (get_or old (l.start + k) Erased))
    × ((place : ℕ) → (place < l.start) ⊎ (l.place ≤ place)
    → get_or words place Erased ≡ get_or old place Erased)
