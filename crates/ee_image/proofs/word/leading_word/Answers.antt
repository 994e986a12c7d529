use Rattle.std.proofs.Common.{◌≡◌, ◌++◌, ◌-◌, length, take, drop, arith, sym, ◌∙◌}
use Rattle.std.proofs.lemmas.Grind.{common_steps}
use Rattle.ee_flash.specs.declared.word.Word.TheVariants.{Erased, Torn}
use Rattle.ee_image.specs.Text.{word_text}
use Rattle.ee_image.proofs.Digits.{one_word}
use Rattle.ee_image.proofs.word.leading_word.Goals as goal

pub returns-in-45-clause-only : goal.returns-in-45-clause-only
returns-in-45-clause-only c = λ word behind below spelled.
    let rest = take (length c.args.text.now - 1) (drop 1 c.args.text.now) in
    let own : c.args.text.now ≡ word_text Erased ++ rest = grind (arith, common_steps) in
    one_word Erased word rest behind (λ value e. cc) below (sym own ∙ spelled)

pub returns-in-63-clause-only : goal.returns-in-63-clause-only
returns-in-63-clause-only c = λ word behind below spelled.
    let rest = take (length c.args.text.now - 1) (drop 1 c.args.text.now) in
    let own : c.args.text.now ≡ word_text Torn ++ rest = grind (arith, common_steps) in
    one_word Torn word rest behind (λ value e. cc) below (sym own ∙ spelled)

pub returns-in-45-clause-found : goal.returns-in-45-clause-found
returns-in-45-clause-found c = grind (arith, common_steps)

pub returns-in-63-clause-found : goal.returns-in-63-clause-found
returns-in-63-clause-found c = grind (arith, common_steps)
