use Rattle.std.proofs.Common.{arith, ap, sym, refl, ◌∙◌, ◌<◌, ◌≡◌, length, set, List, ℕ}
use Rattle.std.specs.Vec.{with_items}
use Rattle.ee_nor.specs.Nor.{KeepsBits, NorDevice, number_count, numbers_at, with_nor_page_worn}
use Rattle.ee_fakes.specs.Numbers.{nor_of_list, with_power_lost}
use Rattle.ee_fakes.proofs.Numbering.{IsNorCutIn-erase, numbers_in, numbers_of-set, count-set, lengths-set, fits-set, fits_found, length_found, written_through}
use Rattle.ee_fakes.proofs.numbers.ListNor.cut_erase.Goals as goal

pub set_bits-requires : goal.set_bits-requires
set_bits-requires g c =
    let flash = c.args.self.now in
    let found = c.index_mut.result.now in
    let fits =
    fits_found flash.pages.items c.args.page found (omega (arith, flash.image_length))
    c.index_mut.ensures.value flash.numbers_fit in
    rw (c.deref_mut.ensures.value) fits

pub invariant_of-self-clause-image_length : goal.invariant_of-self-clause-image_length
invariant_of-self-clause-image_length g c =
    let flash = c.args.self.now in
    count-set flash.pages.items c.args.page _ ∙ flash.image_length

pub invariant_of-self-clause-page_lengths : goal.invariant_of-self-clause-page_lengths
invariant_of-self-clause-page_lengths g c =
    let flash = c.args.self.now in
    let found = c.index_mut.result.now in
    let numbers = c.set_bits.new.numbers in
    let count =
    length_found flash.pages.items (number_count flash.shape) c.args.page found
    (omega (arith, flash.image_length)) c.index_mut.ensures.value flash.page_lengths in
    let as_long : length numbers ≡ length found.items =
    c.set_bits.ensures.keeps.as_long ∙ ap length c.deref_mut.ensures.value in
    lengths-set flash.pages.items (number_count flash.shape) c.args.page (with_items found numbers)
    (ap length (written_through found numbers as_long) ∙ as_long ∙ count) flash.page_lengths

pub invariant_of-self-clause-numbers_fit : goal.invariant_of-self-clause-numbers_fit
invariant_of-self-clause-numbers_fit g c =
    let flash = c.args.self.now in
    let found = c.index_mut.result.now in
    let numbers = c.set_bits.new.numbers in
    let as_long : length numbers ≡ length found.items =
    c.set_bits.ensures.keeps.as_long ∙ ap length c.deref_mut.ensures.value in
    fits-set flash.pages.items c.args.page (with_items found numbers)
    (rw (written_through found numbers as_long) c.set_bits.ensures.fit) flash.numbers_fit

pub returns : goal.returns
returns g c =
    let flash = c.args.self.now in
    let found = c.index_mut.result.now in
    let numbers = c.set_bits.new.numbers in
    let within : c.args.page < length (nor_of_list flash).image =
    omega (arith, flash.image_length) in
    let is = numbers_in flash.pages.items c.args.page found within c.index_mut.ensures.value in
    let keeps : KeepsBits (numbers_at (nor_of_list flash) c.args.page) numbers =
    rw (is ∙ sym c.deref_mut.ensures.value) c.set_bits.ensures.keeps in
    let as_long : length numbers ≡ length found.items =
    c.set_bits.ensures.keeps.as_long ∙ ap length c.deref_mut.ensures.value in
    let image =
    numbers_of-set flash.pages.items c.args.page (with_items found numbers)
    ∙ ap (set (nor_of_list flash).image c.args.page) (written_through found numbers as_long) in
    let left = ap (λ (image : List (List ℕ)). let old : NorDevice = nor_of_list flash in
    let now : NorDevice = record old { image = image } in now) image in
    IsNorCutIn-erase c.args.page numbers (nor_of_list flash) (nor_of_list c.cut_power.new.self)
    c.requires.on refl within refl keeps
    (c.cut_power.ensures
    ∙ ap with_power_lost (c.wear_out.ensures ∙ ap (with_nor_page_worn c.args.page) left))
