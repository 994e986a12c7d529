use Rattle.std.proofs.Common.{arith, ap, sym, ◌∙◌, set, List, ℕ, map}
use Rattle.std.proofs.lemmas.List.{length-set}
use Rattle.std.proofs.lemmas.List.Elements.{All-set}
use Rattle.ee_nor.specs.Nor.{IsNorNumber, NorDevice, number_count}
use Rattle.ee_fakes.specs.Numbers.{nor_of_list}
use Rattle.ee_fakes.proofs.Numbering.{numbers_in, numbers_of-set, count-set, lengths-set, fits-set, length_found, fits_found}
use Rattle.ee_fakes.proofs.numbers.ListNor.put.Goals as goal

pub index_mut-requires-2 : goal.index_mut-requires-2
index_mut-requires-2 g c =
    let flash = c.args.self.now in
    let found = c.index_mut.result.now in
    let count =
    length_found flash.pages.items (number_count flash.shape) c.args.page found
    (omega (arith, flash.image_length)) c.index_mut.ensures.value flash.page_lengths in
    omega (arith, found.ok.0, count)

pub invariant_of-self-clause-image_length : goal.invariant_of-self-clause-image_length
invariant_of-self-clause-image_length g c =
    let flash = c.args.self.now in
    count-set flash.pages.items c.args.page _ ∙ flash.image_length

pub invariant_of-self-clause-page_lengths : goal.invariant_of-self-clause-page_lengths
invariant_of-self-clause-page_lengths g c =
    let flash = c.args.self.now in
    let found = c.index_mut.result.now in
    let count =
    length_found flash.pages.items (number_count flash.shape) c.args.page found
    (omega (arith, flash.image_length)) c.index_mut.ensures.value flash.page_lengths in
    lengths-set flash.pages.items (number_count flash.shape) c.args.page _
    (length-set found.items c.args.at c.args.number ∙ count) flash.page_lengths

pub invariant_of-self-clause-numbers_fit : goal.invariant_of-self-clause-numbers_fit
invariant_of-self-clause-numbers_fit g c =
    let flash = c.args.self.now in
    let found = c.index_mut.result.now in
    let fits =
    fits_found flash.pages.items c.args.page found (omega (arith, flash.image_length))
    c.index_mut.ensures.value flash.numbers_fit in
    fits-set flash.pages.items c.args.page _
    (All-set IsNorNumber found.items c.args.at c.args.number
    (omega (arith, c.ranges.number.fits)) fits) flash.numbers_fit

pub returns : goal.returns
returns g c =
    let flash = c.args.self.now in
    let found = c.index_mut.result.now in
    let image = map (λ page. page.items) flash.pages.items in
    let is =
    numbers_in flash.pages.items c.args.page found (omega (arith, flash.image_length))
    c.index_mut.ensures.value in
    ap (λ (image : List (List ℕ)). let old : NorDevice = nor_of_list flash in
    let now : NorDevice = record old { image = image } in now)
    (numbers_of-set flash.pages.items c.args.page _
    ∙ ap (λ (numbers : List ℕ). set image c.args.page (set numbers c.args.at c.args.number))
    (sym is))
