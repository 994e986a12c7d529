use Rattle.std.proofs.Common.{ℕ, ◌+◌, ◌*◌, ◌≡◌, List, set, ◌∙◌, ap}
use Rattle.ee_flash.specs.Device.{Device}
use Rattle.ee_flash.specs.Kept.{words_of}
use Rattle.ee_flash.specs.Memory.{Memory, memory_of, device_of}
use Rattle.ee_flash.specs.Pages.{pages_of}
use Rattle.ee_flash.specs.declared.word.Word.{Word}
use Rattle.ee_flash.proofs.Pages.{pages_of-set}
use Rattle.ee_flash.proofs.memory.MemFlash.set_word.Goals as goal

pub returns : goal.returns
returns g c =
    let flash = c.args.self.now in
    let place : c.page_start-start.result + c.args.at
    ≡ c.args.page * flash.shape.words + c.args.at =
    ap (λ (start : ℕ). start + c.args.at) c.page_start-start.ensures.value in
    let image : pages_of flash.shape (words_of c.set.new.self) ≡ _ =
    ap (pages_of flash.shape) (c.set.ensures ∙ ap (λ at. set (words_of flash.cells) at c.args.word) place)
    ∙ pages_of-set flash.shape (words_of flash.cells) c.args.page c.args.at c.args.word flash.cells_length
    c.requires.page_in_range c.requires.place_in_range in
    ap (λ (pages : List (List Word)). let memory : Memory = memory_of flash in
    let device : Device = device_of flash in
    let now : Memory = record memory { device = record device { image = pages } } in now) image
