-- How a transfer numbers the entries of an index, one after another.
use Rattle.std.proofs.lemmas.Grind.{common_steps}
use Rattle.std.proofs.Common.{◌≡◌, ℕ, ◌+◌, ◌<◌, ◌≤◌, true, false, List, [], ◌∷◌, ◌++◌, length, get_or, take, drop, refl, arith, suc, zero, rules}
use Rattle.ee_index.specs.Entries.{AreInOrder}
use Rattle.std.specs.Map.{keys_of}
use Rattle.std.specs.Prelude.{◌==◌}
use Rattle.ee_core.specs.Puts.{is_put}
use Rattle.ee_core.specs.declared.change.Put as listed
use Rattle.ee_pages.proofs.Public.{neither}
use Rattle.ee_index.specs.Index.{listed_place, numbered_slots}

-- so far they are numbered, and the others are as they were
pub record IsNumberedTo (puts : List listed.Put) (old now : List (ℕ × ℕ)) (place number : ℕ)
    : Type 0 where
  pub numbered : numbered_slots puts (length puts) old
      ≡ take place now ++ numbered_slots puts number (drop place old)
  pub left : drop place now ≡ drop place old
  pub as_long : length now ≡ length old
  pub many : length puts ≤ number
  pub few : number ≤ length puts + place

pub keys_numbered : (puts : List listed.Put) (number : ℕ) (entries : List (ℕ × ℕ))
    → keys_of (numbered_slots puts number entries) ≡ keys_of entries
keys_numbered _ _ [] = refl
keys_numbered puts number (entry ∷ more) =
    search (rules, (keys_numbered puts number more), (keys_numbered puts (number + 1) more))

-- what a list in memory has behind a change of its entries in place, of which there are as many
written : (len : ℕ) (items new : List (ℕ × ℕ)) → len ≡ length new
    → take len (new ++ drop (length new) items) ≡ new
written len items new e = grind (arith, common_steps)

module _ (puts : List listed.Put) (len : ℕ) (items now new : List (ℕ × ℕ))
    (len_is : length items ≡ len) (value : now ≡ items)
    (numbered : new ≡ numbered_slots puts (length puts) now) where
  are : new ≡ numbered_slots puts (length puts) items
  are = search rules

  as_many : len ≡ length new
  as_many =
      let kept = keys_numbered puts (length puts) items in
      grind (arith, common_steps)

  pub ordered_numbered : AreInOrder items → AreInOrder (take len (new ++ drop (length new) items))
  ordered_numbered ordered = search (rules, written, as_many, are, keys_numbered)

-- ---- the place of an address in a list

-- an entry of this address, which no earlier entry has
pub placed : (puts : List listed.Put) (place : ℕ) (put : listed.Put) (address : ℕ)
    → place < length puts → put ≡ get_or puts place put → put.address ≡ address
    → is_put (take place puts) address ≡ false
    → (is_put puts address ≡ true) × (place ≡ listed_place puts address)
placed [] place put address within is here none = absurd (omega (arith, within))
placed (first ∷ puts) zero put address within is here none = search rules
placed (first ∷ puts) (suc place) put address within is here none =
    let parts = neither (first.address == address) (is_put (take place puts) address) none in
    search (rules, (placed puts place put address (omega (arith, within)) is here parts.1))
