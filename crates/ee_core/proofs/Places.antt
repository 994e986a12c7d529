-- A place goes on from slot to slot of a set.
use Rattle.std.proofs.Common.{◌≡◌, ◌≢◌, ℕ, ◌+◌, ◌-◌, ◌*◌, ◌<◌, ◌≤◌, ◌/◌, ◌%◌, ap, ◌∙◌, arith, sym, List, subst}
use Rattle.std.proofs.Math.Nat.{mod-lt}
use Rattle.std.proofs.lemmas.Nat.{div-mul-add, mod-mul-add}
use Rattle.ee_flash.specs.Device.{Device}
use Rattle.ee_flash.specs.Size.{Size}
use Rattle.ee_flash.specs.declared.word.Word.{Word}
use Rattle.ee_pages.specs.Meaning.{Map}
use Rattle.ee_pages.specs.declared.find.Layout.{Layout}
use Rattle.ee_pages.specs.declared.side.Side.{Side}
use Rattle.ee_pages.proofs.Public.{split_by}
use Rattle.ee_pages.specs.Sets.{first_page, page_of_slot}
use Rattle.ee_core.specs.CallSteps.{IsBehind, Stands}
use Rattle.ee_core.specs.Transfers.{Filled}
use Rattle.ee_core.specs.declared.copying.Place.{Place}

-- the row and the place of a number that stands in a row
in_row : (n m row rest : ℕ) → n ≡ row * m + rest → rest < m → (n / m ≡ row) × (n % m ≡ rest)
in_row n m row rest is within = (
  ap (λ k. k / m) is ∙ div-mul-add row m rest within,
  ap (λ k. k % m) is ∙ mod-mul-add row m rest within,
)

-- a number that is no less than that of its last one's row, and less than that of the next, is in
-- that row
last_row : (n m at : ℕ) → 0 < m → at + (n - 1) / m * m ≡ 4 + n → at < m + 4
    → (n / m ≡ (n - 1) / m) × (n % m ≡ at - 4)
last_row n m at some behind inside =
    in_row n m ((n - 1) / m) (at - 4) (omega (arith, behind, split_by (n - 1) m))
    (omega (arith, inside, some))

-- and else in the next one
next_row : (n m at : ℕ) → 0 < m → at + (n - 1) / m * m ≡ 4 + n → at ≡ m + 4
    → (n / m ≡ (n - 1) / m + 1) × (n % m ≡ 0)
next_row n m at some behind last = in_row n m ((n - 1) / m + 1) 0 (omega (arith, behind, last)) some

in_page : (n m at : ℕ) → 0 < m → at + (n - 1) / m * m ≡ 4 + n → at ≤ m + 4
in_page n m at some behind = omega (arith, behind, split_by (n - 1) m, mod-lt (n - 1) some)

at_least : (n m at : ℕ) → at + (n - 1) / m * m ≡ 4 + n → 4 ≤ at
at_least n m at behind = omega (arith, behind, split_by (n - 1) m)

module _ (size : Size) (side : Side) (place : Place) (words : ℕ) (some : 5 ≤ words)
    (words_is : words ≡ size.words) (behind : IsBehind size side place) where
  width : 0 < size.words - 4
  width = omega (arith, some, words_is)

  -- it is in the page, or right behind it
  pub within_page : place.at ≤ words
  within_page =
      omega (arith, in_page place.slot (size.words - 4) place.at width behind.at, some, words_is)

  pub same_page : place.at ≢ words → Stands size side place
  same_page inside =
      let row =
      last_row place.slot (size.words - 4) place.at width behind.at
      (omega (arith, within_page, inside, words_is, some)) in
      record {
        page = behind.page ∙ ap (λ n. first_page size side + n) (sym row.0);
        at = omega (arith, row.1, at_least place.slot (size.words - 4) place.at behind.at);
      }

  pub next_page : place.at ≡ words
      → Stands size side record { slot = place.slot; page = place.page + 1; at = 4 }
  next_page last =
      let row =
      next_row place.slot (size.words - 4) place.at width behind.at
      (omega (arith, last, words_is, some)) in
      record { page = omega (arith, behind.page, row.0); at = omega (arith, row.1) }

-- and behind the slot that stands there it is filled up to there
pub behind_slot : (size : Size) (side : Side) (place : Place) → Stands size side place
    → IsBehind size side record { slot = place.slot + 1; page = place.page; at = place.at + 1 }
behind_slot size side place stands =
    let before : place.slot + 1 - 1 ≡ place.slot = omega arith in
    let page : page_of_slot size (place.slot + 1 - 1) ≡ page_of_slot size place.slot =
    ap (page_of_slot size) before in
    record {
      page = omega (arith, stands.page, page);
      at = omega (
        arith,
        stands.at,
        ap (λ n. n * (size.words - 4)) page,
        split_by place.slot (size.words - 4),
      );
    }

-- words that were added from there on
pub added_from : (old new : Device) (layout : Layout) (words : List Word) (map : Map) (written : ℕ)
    {from to : ℕ}
    → from ≡ to → Filled old new layout from words map written
    → Filled old new layout to words map written
added_from old new layout words map written same =
    subst (λ n. Filled old new layout n words map written) same
