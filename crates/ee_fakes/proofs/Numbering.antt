-- Pages of numbers, each a `Vec` of its own.
use Rattle.std.proofs.Common.{◌≡◌, ℕ, ◌<◌, List, [], Vec, false, length, get_or, set, drop, map, None, true, refl, sym, ap, ◌∙◌, arith}
use Rattle.std.specs.Vec.{with_items}
use Rattle.std.specs.List.{All}
use Rattle.std.proofs.lemmas.List.{get_or-map, get_or-set_same, length-map, length-set, map-set, take_at}
use Rattle.std.proofs.lemmas.List.Elements.{All-set}
use Rattle.ee_nor.specs.Nor.{EraseNumbers, IsNorCutIn, IsNorNumber, KeepsBits, NorDevice, numbers_at, with_nor_page_worn, with_numbers}
use Rattle.ee_fakes.specs.Numbers.{with_power_lost}

module _ {A : Type 0} (pages : List (Vec ℕ A)) where
  abbrev numbers_of : List (List ℕ)
  numbers_of = map (λ (page : Vec ℕ A). page.items) pages

  pub numbers_in : (page : ℕ) (found : Vec ℕ A) → page < length numbers_of
      → found ≡ get_or pages page found → get_or numbers_of page [] ≡ found.items
  numbers_in page found h is =
      get_or-map (λ (each : Vec ℕ A). each.items) pages page found []
      (omega (arith, length-map pages (λ (each : Vec ℕ A). each.items)))
      ∙ ap (λ (each : Vec ℕ A). each.items) (sym is)

  pub numbers_of-set : (page : ℕ) (new : Vec ℕ A)
      → map (λ (page : Vec ℕ A). page.items) (set pages page new) ≡ set numbers_of page new.items
  numbers_of-set page new = map-set (λ (each : Vec ℕ A). each.items) pages page new

  pub count-set : (page : ℕ) (new : Vec ℕ A)
      → length (map (λ (page : Vec ℕ A). page.items) (set pages page new)) ≡ length numbers_of
  count-set page new = ap length (numbers_of-set page new) ∙ length-set numbers_of page new.items

  pub lengths-set : (count page : ℕ) (new : Vec ℕ A) → length new.items ≡ count
      → All (λ numbers. length numbers ≡ count) numbers_of
      → All (λ numbers. length numbers ≡ count)
      (map (λ (page : Vec ℕ A). page.items) (set pages page new))
  lengths-set count page new is each =
      rw (numbers_of-set page new)
      (All-set (λ numbers. length numbers ≡ count) numbers_of page new.items is each)

  pub fits-set : (page : ℕ) (new : Vec ℕ A) → All IsNorNumber new.items
      → All (All IsNorNumber) numbers_of
      → All (All IsNorNumber) (map (λ (page : Vec ℕ A). page.items) (set pages page new))
  fits-set page new is each =
      rw (numbers_of-set page new) (All-set (All IsNorNumber) numbers_of page new.items is each)

  -- how many numbers a page has that was found
  pub length_found : (count page : ℕ) (found : Vec ℕ A) → page < length numbers_of
      → found ≡ get_or pages page found → All (λ numbers. length numbers ≡ count) numbers_of
      → length found.items ≡ count
  length_found count page found h is each =
      ap length (sym (numbers_in page found h is)) ∙ each page [] h

  pub fits_found : (page : ℕ) (found : Vec ℕ A) → page < length numbers_of
      → found ≡ get_or pages page found → All (All IsNorNumber) numbers_of
      → All IsNorNumber found.items
  fits_found page found h is each = rw (sym (numbers_in page found h is)) (each page [] h)

-- a page that was written through a slice of it all
pub written_through : {A : Type 0} (found : Vec ℕ A) (numbers : List ℕ)
    → length numbers ≡ length found.items → (with_items found numbers).items ≡ numbers
written_through found numbers as_long =
    take_at numbers (drop (length numbers) found.items) found.len
    (omega (arith, found.ok.0, as_long))

-- an erase that leaves these numbers of a page is cut
pub IsNorCutIn-erase : (page : ℕ) (numbers : List ℕ) (old new : NorDevice) → old.on ≡ true
    → old.clears_first ≡ false → page < length old.image → old.cuts_left ≡ None
    → KeepsBits (numbers_at old page) numbers
    → new ≡ with_power_lost (with_nor_page_worn page (with_numbers page numbers old))
    → IsNorCutIn (EraseNumbers page) old new
IsNorCutIn-erase page numbers old new on keeping in_range any keeps is_new =
    let same : get_or (set old.image page numbers) page [] ≡ numbers =
    get_or-set_same old.image page numbers [] in_range in
    rw is_new (record {
      was_on = on;
      is_off = refl;
      same_size = refl;
      same_kind = refl;
      image = rw (same, keeping) (keeps, refl);
      wear = refl;
      cuts = refl;
      cuts_left = rw any refl;
    })
