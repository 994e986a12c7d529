-- Why the pages of a list of words are formed.
use Rattle.std.specs.Prelude.{◌≡◌, ◌<◌, ◌≤◌, ℕ, ◌*◌, Bool, Option, Some, None, List, length, slice_index_or}
use Rattle.std.specs.List.{All}
use Rattle.std.proofs.Common.{arith}
use Rattle.std.proofs.lemmas.List.{length-take, length-drop}
use Rattle.std.proofs.lemmas.List.Elements.{All-take, All-drop}
use Rattle.std.proofs.lemmas.List.FromFn.{length-map-range_with_len, get_or-map-range_with_len}
use Rattle.std.proofs.lemmas.Nat.{row_fits}
use Rattle.std.proofs.lemmas.Option.{same_Some}
use Rattle.ee_flash.specs.Size.{IsWithinLimits, Size, page_count}
use Rattle.ee_flash.specs.Device.{IsBelowAllOnes, IsFormed, all_ones}
use Rattle.ee_flash.specs.Pages.{page_words, pages_of}
use Rattle.ee_flash.specs.Fuse.{cuts_left_of}
use Rattle.ee_flash.specs.declared.fuse.Fuse.{Fuse}
use Rattle.ee_flash.specs.declared.word.Word.{Word}

pub length-pages_of : (size : Size) (cells : List Word)
    → length (pages_of size cells) ≡ page_count size
unfolding pages_of
length-pages_of size cells = length-map-range_with_len (page_words size cells) 0 (page_count size)

pub page-pages_of : (size : Size) (cells : List Word) (page : ℕ) (none : List Word)
    → page < page_count size
    → slice_index_or (pages_of size cells) page none ≡ page_words size cells page
unfolding pages_of
page-pages_of size cells page none h =
    get_or-map-range_with_len (page_words size cells) 0 (page_count size) page page none h
    (omega arith)

pub length-page_words : (size : Size) (cells : List Word) (page : ℕ)
    → length cells ≡ page_count size * size.words → page < page_count size
    → length (page_words size cells page) ≡ size.words
length-page_words size cells page e h =
    let fits = row_fits page size.words (page_count size) size.words h (omega arith) in
    simp (length-take, length-drop) (omega arith)

pub page_lengths : (size : Size) (cells : List Word) → length cells ≡ page_count size * size.words
    → All (λ page. length page ≡ size.words) (pages_of size cells)
page_lengths size cells e k none h =
    let below : k < page_count size = omega (arith, length-pages_of size cells) in
    rw (page-pages_of size cells k none below) (length-page_words size cells k e below)

pub below_all_ones : (size : Size) (cells : List Word) → All IsBelowAllOnes cells
    → All (All IsBelowAllOnes) (pages_of size cells)
below_all_ones size cells each k none h =
    let below : k < page_count size = omega (arith, length-pages_of size cells) in
    rw (page-pages_of size cells k none below)
    (All-take IsBelowAllOnes size.words _ (All-drop IsBelowAllOnes (k * size.words) cells each))

cuts_left_fit : (fuse : Option Fuse) (left : ℕ) → cuts_left_of fuse ≡ Some left → left ≤ all_ones
cuts_left_fit None left e = let same : 0 ≡ left = same_Some 0 left e in omega arith
cuts_left_fit (Some fuse) left e = let same : 1 ≡ left = same_Some 1 left e in omega arith

pub IsFormed-pages_of : (size : Size) (cells : List Word) (wear : List ℕ) (cuts : ℕ)
    (fuse : Option Fuse) (on : Bool)
    → IsWithinLimits size → length cells ≡ page_count size * size.words → All IsBelowAllOnes cells
    → length wear ≡ page_count size → All (λ count. count ≤ all_ones) wear → cuts ≤ all_ones
    → IsFormed
    (record {
      size = size;
      image = pages_of size cells;
      wear = wear;
      cuts = cuts;
      cuts_left = cuts_left_of fuse;
      fuse = Some fuse;
      on = on;
    })
IsFormed-pages_of size cells wear cuts fuse on limits filled below worn fits cut = record {
  within_limits = limits;
  image_length = length-pages_of size cells;
  page_lengths = page_lengths size cells filled;
  below_all_ones = below_all_ones size cells below;
  wear_length = worn;
  wear_fits = fits;
  cuts_fit = cut;
  cuts_left_fit = cuts_left_fit fuse;
}
