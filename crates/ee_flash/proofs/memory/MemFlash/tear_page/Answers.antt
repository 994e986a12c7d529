use Rattle.std.proofs.Common.{List, ap, ◌∙◌}
use Rattle.ee_flash.specs.Kept.{words_of}
use Rattle.ee_flash.specs.Memory.{Memory, device_of, memory_of, with_device}
use Rattle.ee_flash.specs.declared.word.Word.{Word}
use Rattle.ee_flash.proofs.Pages.{torn_page_of}
use Rattle.ee_flash.proofs.memory.MemFlash.tear_page.Goals as goal

pub invariant_of-self-clause-cells_length : goal.invariant_of-self-clause-cells_length
invariant_of-self-clause-cells_length g c =
    let flash = c.args.self.now in
    let torn =
    torn_page_of flash.shape (words_of flash.cells) c.args.page c.args.tear flash.cells_length c.requires _
    _ (words_of c.tear.new.self) c.page_start-start.ensures.value c.words.ensures.value
    c.tear.ensures in
    torn.as_many ∙ c.args.self.now.cells_length

pub invariant_of-self-clause-below_all_ones : goal.invariant_of-self-clause-below_all_ones
invariant_of-self-clause-below_all_ones g c =
    let flash = c.args.self.now in
    let torn =
    torn_page_of flash.shape (words_of flash.cells) c.args.page c.args.tear flash.cells_length c.requires _
    _ (words_of c.tear.new.self) c.page_start-start.ensures.value c.words.ensures.value
    c.tear.ensures in
    torn.below_all_ones c.args.self.now.below_all_ones

pub returns-clause-left : goal.returns-clause-left
returns-clause-left g c =
    let flash = c.args.self.now in
    let torn =
    torn_page_of flash.shape (words_of flash.cells) c.args.page c.args.tear flash.cells_length c.requires _
    _ (words_of c.tear.new.self) c.page_start-start.ensures.value c.words.ensures.value
    c.tear.ensures in
    let with_pages : List (List Word) → Memory =
    λ pages. with_device (record (device_of flash) { image = pages }) (memory_of flash) in
    ap with_pages torn.left

pub returns-clause-whole : goal.returns-clause-whole
returns-clause-whole g c done =
    let flash = c.args.self.now in
    let torn =
    torn_page_of flash.shape (words_of flash.cells) c.args.page c.args.tear flash.cells_length c.requires _
    _ (words_of c.tear.new.self) c.page_start-start.ensures.value c.words.ensures.value
    c.tear.ensures in
    let with_pages : List (List Word) → Memory =
    λ pages. with_device (record (device_of flash) { image = pages }) (memory_of flash) in
    ap with_pages (torn.whole done)

pub returns-clause-partly : goal.returns-clause-partly
returns-clause-partly g c =
    let flash = c.args.self.now in
    let torn =
    torn_page_of flash.shape (words_of flash.cells) c.args.page c.args.tear flash.cells_length c.requires _
    _ (words_of c.tear.new.self) c.page_start-start.ensures.value c.words.ensures.value
    c.tear.ensures in
    torn.partly

pub returns-clause-own_page : goal.returns-clause-own_page
returns-clause-own_page g c =
    let flash = c.args.self.now in
    let torn =
    torn_page_of flash.shape (words_of flash.cells) c.args.page c.args.tear flash.cells_length c.requires _
    _ (words_of c.tear.new.self) c.page_start-start.ensures.value c.words.ensures.value
    c.tear.ensures in
    torn.own_page
