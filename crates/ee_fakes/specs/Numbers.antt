-- A flash of numbers in memory, as a value.
use Rattle.std.specs.Prelude.{None, map, replicate, true, false}
use Rattle.ee_flash.specs.Device.{all_ones}
use Rattle.ee_flash.specs.Size.{Size, page_count}
use Rattle.ee_flash.specs.Step.{one_more}
use Rattle.ee_nor.specs.Nor.{NorDevice, number_count}
use Rattle.ee_fakes.specs.declared.numbers.ListNor.{ListNor}

-- the device with nothing on it
abbrev pub blank_nor : Size → NorDevice
blank_nor size = record {
  size = size;
  clears_first = false;
  image = replicate (page_count size) (replicate (number_count size) all_ones);
  wear = replicate (page_count size) 0;
  cuts = 0;
  cuts_left = None;
  on = true;
}

-- the device once power is cut
abbrev pub with_power_lost : NorDevice → NorDevice
with_power_lost device = record device { cuts = one_more device.cuts; on = false }

module _ {A : Type 0} where
  -- the device, of which any number of cuts may still come
  abbrev pub nor_of_list : ListNor A → NorDevice
  nor_of_list flash = record {
    size = flash.shape;
    clears_first = false;
    image = map (λ page. page.items) flash.pages.items;
    wear = flash.wear.items;
    cuts = flash.cuts;
    cuts_left = None;
    on = flash.on;
  }
