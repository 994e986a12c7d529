-- What a step in a set makes of that set's pages.
use Rattle.std.proofs.Common.{◌≡◌, ℕ, ◌+◌, ◌<◌, List, [], ◌∷◌, ◌++◌, take, drop, get_or, set, refl, sym, ap, ◌∙◌, arith, suc, zero}
use Rattle.std.specs.List.{flat_map}
use Rattle.std.proofs.Math.Seq.{take-set-lt}
use Rattle.std.proofs.lemmas.List.{drop-set-add, drop-set-lt, get_or-drop, get_or-take}
use Rattle.ee_flash.specs.Device.{Device, page_at}
use Rattle.ee_flash.specs.Laws.{DiffersInPage}
use Rattle.ee_flash.specs.declared.word.Word.{Word}
use Rattle.ee_pages.specs.Sets.{first_page, set_of, slots_of}
use Rattle.ee_pages.specs.declared.side.Side.{Side}
use Rattle.ee_pages.specs.declared.side.Side.TheVariants.{First, Second}

-- one page of the set is another, the page's number being counted from the set's first
pub own_set : (side : Side) (old new : Device) (page k : ℕ) → DiffersInPage page old new
    → page ≡ first_page old.size side + k → k < old.size.pages
    → set_of side new ≡ set (set_of side old) k (page_at new page)
own_set First old new page k differs at below =
    let e : page ≡ k = omega arith in
    ap (λ size. take size.pages new.image) differs.same_size
    ∙ ap (take old.size.pages) differs.image
    ∙ take-set-lt old.size.pages old.image page (page_at new page) (omega arith)
    ∙ ap (λ n. set (take old.size.pages old.image) n (page_at new page)) e
own_set Second old new page k differs at below =
    ap (λ size. drop size.pages new.image) differs.same_size
    ∙ ap (drop old.size.pages) differs.image
    ∙ ap (λ n. drop old.size.pages (set old.image n (page_at new page))) at
    ∙ drop-set-add old.size.pages old.image k (page_at new page)

-- the pages of a set, in the device
pub page_of_set : (side : Side) (device : Device) (page k : ℕ)
    → page ≡ first_page device.size side + k → k < device.size.pages
    → get_or (set_of side device) k [] ≡ page_at device page
page_of_set First device page k at below =
    let e : k ≡ page = omega arith in
    get_or-take device.size.pages device.image k [] below ∙ ap (page_at device) e
page_of_set Second device page k at below =
    get_or-drop device.size.pages device.image k [] ∙ ap (page_at device) (sym at)

-- a piece that is replaced by one that gives the same
flat_map-set_same : {X A : Type 0} (f : X → List A) (xs : List X) (k : ℕ) (y d : X)
    → f y ≡ f (get_or xs k d) → flat_map f (set xs k y) ≡ flat_map f xs
flat_map-set_same f [] k y d e = refl
flat_map-set_same f (x ∷ xs) zero y d e = ap (λ l. l ++ flat_map f xs) e
flat_map-set_same f (x ∷ xs) (suc k) y d e = ap (λ l. f x ++ l) (flat_map-set_same f xs k y d e)

-- a word of a header is none of the slots
pub header_word : (pages : List (List Word)) (k at : ℕ) (word : Word) → at < 4
    → slots_of (set pages k (set (get_or pages k []) at word)) ≡ slots_of pages
header_word pages k at word h =
    flat_map-set_same (drop 4) pages k (set (get_or pages k []) at word) []
    (drop-set-lt 4 (get_or pages k []) at word h)
