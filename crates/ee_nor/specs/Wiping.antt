-- A flash of numbers that held something else, made blank.
use Rattle.std.specs.Prelude.{◌≡◌, ◌<◌, ℕ, ◌==◌, zero, suc, if◌then◌else◌, Bool, false, not, List}
use Rattle.std.specs.List.{list_any}
use Rattle.ee_flash.specs.Device.{all_ones}
use Rattle.ee_flash.specs.Size.{page_count}
use Rattle.ee_nor.specs.Nor.{EraseNumbers, IsNorCutIn, NorDevice, numbers_at, with_numbers_erased}

-- something was programmed there
abbrev pub is_programmed : ℕ → Bool
is_programmed number = not (number == all_ones)

-- each number of the page is all ones
abbrev pub is_all_ones : List ℕ → Bool
is_all_ones numbers = not (list_any is_programmed numbers)

-- with a page erased that holds something; a blank one stays as it is
abbrev pub with_page_wiped : ℕ → NorDevice → NorDevice
with_page_wiped page nor =
    if is_all_ones (numbers_at nor page) then nor else with_numbers_erased page nor

-- with each page below this one wiped, from page 0 on
unfoldable pub wiped_below : ℕ → NorDevice → NorDevice
wiped_below zero nor = nor
wiped_below (suc page) nor = with_page_wiped page (wiped_below page nor)

-- with each page wiped
abbrev pub with_all_wiped : NorDevice → NorDevice
with_all_wiped nor = wiped_below (page_count nor.size) nor

-- the pages below one that held something were wiped, and power was cut in the erase of that one
pub record IsWipeCut (old new : NorDevice) : Type 0 where
  pub page : ℕ
  pub in_range : page < page_count old.size
  pub not_blank : is_all_ones (numbers_at (wiped_below page old) page) ≡ false
  pub cut : IsNorCutIn (EraseNumbers page) (wiped_below page old) new
