use Rattle.std.proofs.Common.{arith, ap, ◌∙◌, ◌≡◌, length, set, replicate, vec_len, List, ℕ, map}
use Rattle.std.proofs.lemmas.List.{length-replicate}
use Rattle.std.proofs.lemmas.List.Elements.{All-replicate}
use Rattle.ee_flash.specs.Device.{all_ones}
use Rattle.ee_nor.specs.Nor.{IsNorNumber, NorDevice, number_count}
use Rattle.ee_fakes.specs.Numbers.{nor_of_list}
use Rattle.ee_fakes.proofs.Numbering.{numbers_of-set, count-set, lengths-set, fits-set, length_found}
use Rattle.ee_fakes.proofs.numbers.ListNor.fill_page.Goals as goal

pub invariant_of-self-clause-image_length : goal.invariant_of-self-clause-image_length
invariant_of-self-clause-image_length g c =
    let flash = c.args.self.now in
    count-set flash.pages.items c.args.page _ ∙ flash.image_length

pub invariant_of-self-clause-page_lengths : goal.invariant_of-self-clause-page_lengths
invariant_of-self-clause-page_lengths g c =
    let flash = c.args.self.now in
    let found = c.index_mut.result.now in
    let count =
    length_found flash.pages.items (number_count flash.shape) c.args.page found
    (omega (arith, flash.image_length)) c.index_mut.ensures.value flash.page_lengths in
    let is : c.fill.new.self.items ≡ replicate (number_count flash.shape) all_ones =
    c.fill.ensures.items (λ y e. e)
    ∙ ap (λ (count : ℕ). replicate count all_ones) (found.ok.0 ∙ count) in
    lengths-set flash.pages.items (number_count flash.shape) c.args.page _
    (ap length is ∙ length-replicate (number_count flash.shape) all_ones) flash.page_lengths

pub invariant_of-self-clause-numbers_fit : goal.invariant_of-self-clause-numbers_fit
invariant_of-self-clause-numbers_fit g c =
    let flash = c.args.self.now in
    let found = c.index_mut.result.now in
    fits-set flash.pages.items c.args.page _
    (rw (c.fill.ensures.items (λ y e. e))
    (All-replicate IsNorNumber (vec_len found) all_ones (omega arith))) flash.numbers_fit

pub returns : goal.returns
returns g c =
    let flash = c.args.self.now in
    let found = c.index_mut.result.now in
    let image = map (λ page. page.items) flash.pages.items in
    let count =
    length_found flash.pages.items (number_count flash.shape) c.args.page found
    (omega (arith, flash.image_length)) c.index_mut.ensures.value flash.page_lengths in
    let is : c.fill.new.self.items ≡ replicate (number_count flash.shape) all_ones =
    c.fill.ensures.items (λ y e. e)
    ∙ ap (λ (count : ℕ). replicate count all_ones) (found.ok.0 ∙ count) in
    ap (λ (image : List (List ℕ)). let old : NorDevice = nor_of_list flash in
    let now : NorDevice = record old { image = image } in now)
    (numbers_of-set flash.pages.items c.args.page _ ∙ ap (set image c.args.page) is)
