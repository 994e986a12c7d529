use Rattle.std.proofs.Common.{ℕ, ◌+◌, get_or, sym, ap, ◌∙◌}
use Rattle.ee_flash.specs.Kept.{words_of}
use Rattle.ee_flash.specs.declared.word.Word.TheVariants.{Erased}
use Rattle.ee_flash.proofs.Pages.{get_or-pages_of}
use Rattle.ee_flash.proofs.memory.MemFlashFlash.word.Goals as goal

pub returns-clause-value : goal.returns-clause-value
returns-clause-value g c =
    let flash = c.args.self.now in
    c.word.ensures
    ∙ ap (λ place. get_or (words_of flash.cells) place Erased)
    (ap (λ (start : ℕ). start + c.args.at) c.page_start.ensures.value)
    ∙ sym
    (get_or-pages_of flash.shape (words_of flash.cells) c.args.page c.args.at c.requires.page_in_range
    c.requires.place_in_range)
