-- Why devices whose fates are listed are formed.
use Rattle.std.specs.Prelude.{false, ◌≡◌, ◌≤◌, ℕ, ◌*◌, Bool, None, List, length}
use Rattle.std.specs.List.{All}
use Rattle.ee_flash.specs.Device.{IsBelowAllOnes, IsFormed, all_ones}
use Rattle.ee_flash.specs.Formed.{below_all_ones, length-pages_of, page_lengths}
use Rattle.ee_flash.specs.Pages.{pages_of}
use Rattle.ee_flash.specs.Size.{IsWithinLimits, Size, page_count}
use Rattle.ee_flash.specs.declared.word.Word.{Word}
use Rattle.ee_nor.specs.Nor.{IsNorFormed, IsNorNumber, number_count}

pub IsFormed-listed : (size : Size) (cells : List Word) (wear : List ℕ) (cuts : ℕ) (on : Bool)
    → IsWithinLimits size → length cells ≡ page_count size * size.words → All IsBelowAllOnes cells
    → length wear ≡ page_count size → All (λ count. count ≤ all_ones) wear → cuts ≤ all_ones
    → IsFormed
    (record {
      size = size;
      image = pages_of size cells;
      wear = wear;
      cuts = cuts;
      cuts_left = None;
      fuse = None;
      on = on;
    })
IsFormed-listed size cells wear cuts on limits filled below worn fits cut = record {
  within_limits = limits;
  image_length = length-pages_of size cells;
  page_lengths = page_lengths size cells filled;
  below_all_ones = below_all_ones size cells below;
  wear_length = worn;
  wear_fits = fits;
  cuts_fit = cut;
  cuts_left_fit = λ left none. cc;
}

pub IsNorFormed-listed : (size : Size) (image : List (List ℕ)) (wear : List ℕ) (cuts : ℕ)
    (on : Bool)
    → IsWithinLimits size → length image ≡ page_count size
    → All (λ page. length page ≡ number_count size) image → All (All IsNorNumber) image
    → length wear ≡ page_count size → All IsNorNumber wear → cuts ≤ all_ones
    → IsNorFormed
    (record {
      size = size;
      clears_first = false;
      image = image;
      wear = wear;
      cuts = cuts;
      cuts_left = None;
      on = on;
    })
IsNorFormed-listed size image wear cuts on limits pages numbers fit worn fits cut = record {
  within_limits = limits;
  image_length = pages;
  page_lengths = numbers;
  numbers_fit = fit;
  wear_length = worn;
  wear_fits = fits;
  cuts_fit = cut;
  cuts_left_fit = λ left none. cc;
}
