use Rattle.std.proofs.Common.{ℕ, ◌+◌, ◌<◌, length, get_or, sym, ap, ◌∙◌, arith}
use Rattle.std.proofs.lemmas.List.{get_or_read}
use Rattle.ee_flash.specs.declared.word.Word.TheVariants.{Erased}
use Rattle.ee_flash.proofs.Public.{get_or-pages_of}
use Rattle.ee_fakes.proofs.list.ListFlashFlash.word.Goals as goal

pub returns-clause-value : goal.returns-clause-value
returns-clause-value g c =
    let flash = c.args.self.now in
    let cells = flash.cells.items in
    let within : (c.page_start.result + c.args.at) < length cells =
    omega (arith, flash.cells.ok.0) in
    get_or_read cells (c.page_start.result + c.args.at) _ within c.index.ensures Erased
    ∙ ap (λ place. get_or cells place Erased)
    (ap (λ (start : ℕ). start + c.args.at) c.page_start.ensures.value)
    ∙ sym
    (get_or-pages_of flash.shape cells c.args.page c.args.at c.requires.page_in_range
    c.requires.place_in_range)
