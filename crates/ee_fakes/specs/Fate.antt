-- What becomes of the steps of a device, as a list says.
use Rattle.std.specs.Prelude.{List, map, slice_index_or, false}
use Rattle.std.specs.List.{enumerate_from}
use Rattle.ee_flash.specs.declared.word.Word.{Word}
use Rattle.ee_flash.specs.declared.word.Word.TheVariants.{Erased, Held, Torn}
use Rattle.ee_flash.specs.Device.{Device, page_at}
use Rattle.ee_flash.specs.Step.{Step, Program, Erase, device_after, one_more, with_page, with_word, with_page_worn}
use Rattle.ee_fakes.specs.declared.fate.Fate.{Fate}
use Rattle.ee_fakes.specs.declared.fate.Fate.TheVariants.{Done, Cut}
use Rattle.ee_fakes.specs.declared.fate.Left.{Left}
use Rattle.ee_fakes.specs.declared.fate.Left.TheVariants.{Before, After, Torn as AllTorn}

-- what is left of a word that the whole step changes from one word to the other
abbrev pub word_of_fate : Left → Word → Word → Word
word_of_fate Before before after = before
word_of_fate After before after = after
word_of_fate AllTorn before after = Torn

-- what an erase leaves of the words of a page, as the list says, and past its end as `rest` says
unfoldable pub page_of_fates : List Left → Left → List Word → List Word
page_of_fates list rest words =
    map (λ placed. word_of_fate (slice_index_or list placed.0 rest) placed.1 Erased)
    (enumerate_from 0 words)

-- the device once power is cut
abbrev pub with_power_gone : Device → Device
with_power_gone device = record device { cuts = one_more device.cuts; on = false }

-- the device after a step with this fate
abbrev pub device_after_fate : Step → Fate → Device → Device
device_after_fate step Done device = device_after step device
device_after_fate (Program page at value) (Cut list) device =
    with_power_gone
    (with_word page at (word_of_fate (slice_index_or list.now 0 Before) Erased (Held value))
    device)
device_after_fate (Erase page) (Cut list) device =
    with_power_gone
    (with_page_worn page
    (with_page page (page_of_fates list.now Before (page_at device page)) device))

-- the fate of the step that comes; where the list has ended, it is done
abbrev pub next_fate : List Fate → Fate
next_fate fates = slice_index_or fates 0 Done
