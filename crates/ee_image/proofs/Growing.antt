-- A text that is written grows by words and by pages.
use Rattle.std.proofs.Common.{◌≡◌, ℕ, zero, suc, ◌+◌, ◌<◌, ◌≤◌, List, [], ◌∷◌, ◌++◌, length, get_or, map, take, sym, ap, ◌∙◌, arith, add-one, append_assoc}
use Rattle.std.specs.Fmt.{decimal}
use Rattle.std.proofs.lemmas.List.{append-nil, map-append, take_all, take_more}
use Rattle.ee_text.specs.Field.{joined_fields}
use Rattle.ee_text.specs.Line.{line_feed, line_of, IsLonger}
use Rattle.ee_text.proofs.Public.{joined-append}
use Rattle.ee_flash.specs.Size.{page_count}
use Rattle.ee_flash.specs.Device.{Device, IsFormed, page_at, wear_at, word_at}
use Rattle.ee_flash.specs.declared.word.Word.{Word}
use Rattle.ee_flash.specs.declared.word.Word.TheVariants.{Erased}
use Rattle.ee_flash.proofs.Public.{length-page_at}
use Rattle.ee_image.specs.Text.{word_text, page_text, page_lines, size_text}

-- a text that grew, and perhaps grew on
pub longer : (old now new written : List ℕ) → now ≡ old ++ written → new ≡ now → IsLonger old new
longer old now new written so_far same = (written, same ∙ so_far)

-- one word more
page_text-push : (wear : ℕ) (words : List Word) (word : Word)
    → page_text wear (words ++ word ∷ []) ≡ page_text wear words ++ 32 ∷ word_text word
page_text-push wear words word =
    ap (λ l. joined_fields (decimal wear ∷ l)) (map-append word_text words (word ∷ []))
    ∙ joined-append (decimal wear) (map word_text words) (word_text word) []

pub page_grows : (device : Device) (page at : ℕ) (old out spaced new : List ℕ) (word : Word)
    → IsFormed device → page < page_count device.size → at < device.size.words
    → out ≡ old ++ page_text (wear_at device page) (take at (page_at device page))
    → spaced ≡ out ++ 32 ∷ [] → word ≡ word_at device page at → new ≡ spaced ++ word_text word
    → new ≡ old ++ page_text (wear_at device page) (take (at + 1) (page_at device page))
page_grows device page at old out spaced new word formed in_range within so_far space is written =
    let words = page_at device page in
    let front = page_text (wear_at device page) (take at words) in
    let all : take (at + 1) words ≡ take at words ++ word ∷ [] =
    take_more words at Erased (omega (arith, length-page_at device page formed in_range))
    ∙ ap (λ w. take at words ++ w ∷ []) (sym is) in
    let grown : page_text (wear_at device page) (take (at + 1) words)
    ≡ front ++ 32 ∷ word_text word =
    ap (page_text (wear_at device page)) all
    ∙ page_text-push (wear_at device page) (take at words) word in
    written ∙ ap (λ l. l ++ word_text word) (space ∙ ap (λ l. l ++ 32 ∷ []) so_far)
    ∙ append_assoc (old ++ front) (32 ∷ []) (word_text word)
    ∙ append_assoc old front (32 ∷ word_text word) ∙ ap (λ l. old ++ l) (sym grown)

-- the line of a page is ended behind its last word
pub page_ends : (device : Device) (page at : ℕ) (old out new : List ℕ) → IsFormed device
    → page < page_count device.size → device.size.words ≤ at
    → out ≡ old ++ page_text (wear_at device page) (take at (page_at device page))
    → new ≡ out ++ line_feed ∷ []
    → new ≡ old ++ line_of (page_text (wear_at device page) (page_at device page))
page_ends device page at old out new formed in_range all so_far ended =
    let whole : take at (page_at device page) ≡ page_at device page =
    take_all at (page_at device page)
    (omega (arith, length-page_at device page formed in_range)) in
    ended
    ∙ ap (λ l. l ++ line_feed ∷ [])
    (so_far ∙ ap (λ (words : List Word). old ++ page_text (wear_at device page) words) whole)
    ∙ append_assoc old (page_text (wear_at device page) (page_at device page)) (line_feed ∷ [])

-- one page more
page_lines-take : (pages : List (List Word)) (wears : List ℕ) (n : ℕ) → length pages ≡ length wears
    → n < length pages
    → page_lines (take (suc n) pages) (take (suc n) wears)
    ≡ page_lines (take n pages) (take n wears)
    ++ line_of (page_text (get_or wears n 0) (get_or pages n []))
page_lines-take [] wears n same within = absurd (omega arith)
page_lines-take (page ∷ pages) [] n same within = absurd (omega arith)
page_lines-take (page ∷ pages) (wear ∷ wears) zero same within =
    append-nil (line_of (page_text wear page))
page_lines-take (page ∷ pages) (wear ∷ wears) (suc n) same within =
    let line : List ℕ = line_of (page_text wear page) in
    ap (λ l. line ++ l) (page_lines-take pages wears n (omega arith) (omega arith))
    ∙ sym
    (append_assoc line (page_lines (take n pages) (take n wears))
    (line_of (page_text (get_or wears n 0) (get_or pages n []))))

pub image_grows : (device : Device) (page : ℕ) (old out new : List ℕ) → IsFormed device
    → page < page_count device.size
    → out
    ≡ old
    ++ (line_of (size_text device.size)
    ++ page_lines (take page device.image) (take page device.wear))
    → new ≡ out ++ line_of (page_text (wear_at device page) (page_at device page))
    → new
    ≡ old
    ++ (line_of (size_text device.size)
    ++ page_lines (take (page + 1) device.image) (take (page + 1) device.wear))
image_grows device page old out new formed in_range so_far written =
    let line : List ℕ = line_of (page_text (wear_at device page) (page_at device page)) in
    let first : List ℕ = line_of (size_text device.size) in
    let lines : List ℕ = page_lines (take page device.image) (take page device.wear) in
    let grown : page_lines (take (page + 1) device.image) (take (page + 1) device.wear)
    ≡ lines ++ line =
    rw add-one
    (page_lines-take device.image device.wear page
    (formed.image_length ∙ sym formed.wear_length) (omega (arith, formed.image_length))) in
    written ∙ ap (λ l. l ++ line) so_far ∙ append_assoc old (first ++ lines) line
    ∙ ap (λ l. old ++ l) (append_assoc first lines line ∙ ap (λ l. first ++ l) (sym grown))
