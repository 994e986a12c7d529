use Rattle.std.proofs.Common.{◌≡◌, ℕ, ◌*◌, ap, arith}
use Rattle.std.proofs.lemmas.Nat.{row_fits}
use Rattle.ee_flash.specs.Size.{page_count}
use Rattle.ee_fakes.proofs.list.ListFlash.page_start.Goals as goal

pub overflow_mul-result : goal.overflow_mul-result
overflow_mul-result g c =
    let flash = c.args.self.now in
    let start : c.args.page * c.words.result ≡ c.args.page * flash.shape.words =
    ap (λ (words : ℕ). c.args.page * words) c.words.ensures.value in
    omega (
      arith,
      flash.cells.ok.0,
      row_fits c.args.page flash.shape.words (page_count flash.shape) flash.shape.words
          c.requires (omega arith),
    )

pub returns-clause-within : goal.returns-clause-within
returns-clause-within g c =
    let flash = c.args.self.now in
    let start : c.args.page * c.words.result ≡ c.args.page * flash.shape.words =
    ap (λ (words : ℕ). c.args.page * words) c.words.ensures.value in
    omega (
      arith,
      row_fits c.args.page flash.shape.words (page_count flash.shape) flash.shape.words
          c.requires (omega arith),
    )
