-- The lines of pages' states grow by a page at a time.
use Rattle.std.proofs.Common.{◌≡◌, ◌∙◌, ◌+◌, ◌<◌, ℕ, zero, suc, List, [], ◌∷◌, ◌++◌, length, get_or, take, sym, ap, arith, add-one, append_assoc, rules}
use Rattle.std.proofs.lemmas.Grind.{common_steps}
use Rattle.std.proofs.lemmas.List.{append-nil}
use Rattle.ee_text.specs.Line.{line_of}
use Rattle.ee_flash.specs.Device.{Device, IsFormed, page_at}
use Rattle.ee_flash.specs.Size.{page_count}
use Rattle.ee_flash.specs.declared.word.Word.{Word}
use Rattle.ee_pages.specs.Page.{state_of_words}
use Rattle.ee_pages.specs.declared.state.State as page
use Rattle.ee_commands.specs.Images.{state_lines, state_text}

lines_push : (start : ℕ) (pages : List (List Word)) (n number : ℕ) → number ≡ start + n
    → n < length pages
    → state_lines start (take (suc n) pages)
    ≡ state_lines start (take n pages)
    ++ line_of (state_text number (state_of_words (get_or pages n [])))
lines_push start [] n number e within = absurd (omega arith)
lines_push start (words ∷ pages) zero number e within = search (rules, append-nil)
lines_push start (words ∷ pages) (suc n) number e within =
    grind (arith, common_steps, (lines_push (start + 1) pages n number (omega arith) (omega arith)))

-- one page more
pub states_grow : (device : Device) (n : ℕ) (old out new : List ℕ) (state : page.State)
    → IsFormed device → n < page_count device.size
    → out ≡ old ++ state_lines 0 (take n device.image) → state ≡ state_of_words (page_at device n)
    → new ≡ out ++ line_of (state_text n state)
    → new ≡ old ++ state_lines 0 (take (n + 1) device.image)
states_grow device n old out new state formed within so_far is written =
    let line : List ℕ = line_of (state_text n state) in
    let grown : state_lines 0 (take (n + 1) device.image)
    ≡ state_lines 0 (take n device.image) ++ line =
    rw add-one (lines_push 0 device.image n n (omega arith) (omega (arith, formed.image_length)))
    ∙ ap (λ s. state_lines 0 (take n device.image) ++ line_of (state_text n s)) (sym is) in
    written ∙ ap (λ l. l ++ line) so_far
    ∙ append_assoc old (state_lines 0 (take n device.image)) line
    ∙ ap (λ l. old ++ l) (sym grown)
