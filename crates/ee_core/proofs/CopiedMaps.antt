-- Maps that are copied address by address, and how many addresses have a value in them.
use Rattle.ee_core.proofs.Words.{◌≡◌, inl, inr, ℕ, ◌<◌, ◌≤◌, Bool, true, false, Some, None, List, [], ◌∷◌, ◌++◌, refl, sym, ap, ◌∙◌, arith, suc, zero, ◌||◌, ◌==◌, fun_ext, cases_Bool, rules}
use Rattle.ee_core.proofs.Sets.{Change, Forget, Map, Put, changed_by, map_after, live_in, live_to, IsNextLive, live_to-zero, live_to-suc, address_of, neither}
use Rattle.ee_core.proofs.Calls.{map_to, replaced_map, HasChange, map_without, names}

-- maps that say the same have as many addresses with a value
pub same_counts : (first second : Map) → ((address : ℕ) → first address ≡ second address)
    → live_in first ≡ live_in second
same_counts _ _ same = ap live_in (fun_ext same)

-- two maps at an address
pub replaced-at : (start map : Map) (named : ℕ → Bool) (address : ℕ) → named address ≡ true
    → replaced_map start named map address ≡ start address
replaced-at start map _ address e = search rules

pub replaced-other : (start map : Map) (named : ℕ → Bool) (address : ℕ) → named address ≡ false
    → replaced_map start named map address ≡ map address
replaced-other start map _ address e = search rules

-- an address that is named is not one that isn't
told_apart : (named : ℕ → Bool) (address next : ℕ) → named next ≡ true → named address ≡ false
    → address ≡ next → ⊥
told_apart named _ _ here other e = search rules

pub map_to-below : (map : Map) (last address : ℕ) → address ≤ last
    → map_to map last address ≡ map address
map_to-below map last address h = search rules

pub map_to-above : (map : Map) (last address : ℕ) → last < address → map_to map last address ≡ None
map_to-above map last address h = search rules

pub put-at : (map : Map) (named value address : ℕ) → address ≡ named
    → map_after (Put named value) map address ≡ Some value
put-at map named value address e = search rules

pub put-other : (map : Map) (named value address : ℕ) → (address ≡ named → ⊥)
    → map_after (Put named value) map address ≡ map address
put-other map named value address other = search rules

-- up to the next live address no other has a value
up_to_next : (map : Map) (above next value address : ℕ) → IsNextLive map above (Some (next, value))
    → (address ≡ next → ⊥) → map_to map next address ≡ map_to map above address
up_to_next map above next _ address is other = search (rules, map_to-below, map_to-above)

module _ (start map : Map) (named : ℕ → Bool) where
  -- the first map, with the addresses copied so far
  abbrev pub so_far : ℕ → Map
  so_far above = replaced_map start named (map_to map above)

  pub at_first : map 0 ≡ None → ((address : ℕ) → named address ≡ false → start address ≡ None)
      → (address : ℕ) → start address ≡ so_far 0 address
  at_first zeroth only address =
      search (rules, replaced-at, map_to-above, map_to-below, replaced-other)

  pub at_last : (above : ℕ) → IsNextLive map above None → (address : ℕ)
      → so_far above address ≡ replaced_map start named map address
  at_last above none address =
      search (rules, map_to-above, map_to-below, replaced-at, replaced-other)

  -- the next live address is one that is not copied
  pub passed : (above next value : ℕ) → IsNextLive map above (Some (next, value))
      → named next ≡ true → (address : ℕ) → so_far above address ≡ so_far next address
  passed above next value is here address =
      search (rules, replaced-at, replaced-other, up_to_next, told_apart)

  -- it is copied
  copied : (above next value : ℕ) → IsNextLive map above (Some (next, value)) → named next ≡ false
      → (address : ℕ) → map_after (Put next value) (so_far above) address ≡ so_far next address
  copied above next value is apart address = search (
    rules,
    apart,
    put-at,
    map_to-below,
    replaced-other,
    put-other,
    replaced-at,
    up_to_next,
  )

  -- so it is where the map before says the same as those copied so far
  pub copied_to : (held : Map) (above next value : ℕ)
      → ((address : ℕ) → held address ≡ so_far above address)
      → IsNextLive map above (Some (next, value)) → named next ≡ false → (address : ℕ)
      → map_after (Put next value) held address ≡ so_far next address
  copied_to _ above next value same is apart address = search (rules, copied, apart)

-- a map in which nothing has a value
abbrev pub nothing : Map
nothing = λ address. None

gap_at_start : (n : ℕ) → live_to nothing n ≡ 0
gap_at_start zero = live_to-zero _
gap_at_start (suc n) = omega (arith, live_to-suc nothing n, gap_at_start n)

pub live_in-nothing : (map : Map) → ((address : ℕ) → map address ≡ None) → 0 ≡ live_in map
live_in-nothing map none =
    sym (gap_at_start 65534) ∙ same_counts nothing map (λ address. sym (none address))

pub forget-at : (map : Map) (named address : ℕ) → address ≡ named
    → map_after (Forget named) map address ≡ None
forget-at map named address e = search rules

pub forget-other : (map : Map) (named address : ℕ) → (address ≡ named → ⊥)
    → map_after (Forget named) map address ≡ map address
forget-other map named address other = search rules

changed-other : (change : Change) (map : Map) (address : ℕ) → (address ≡ address_of change → ⊥)
    → map_after change map address ≡ map address
changed-other (Put named value) map address other = put-other map named value address other
changed-other (Forget named) map address other = forget-other map named address other

changed-at : (change : Change) (first second : Map) (address : ℕ) → address ≡ address_of change
    → map_after change first address ≡ map_after change second address
changed-at (Put named value) first second address e =
    put-at first named value address e ∙ sym (put-at second named value address e)
changed-at (Forget named) first second address e =
    forget-at first named address e ∙ sym (forget-at second named address e)

-- ---- several changes

pub changed_by-append : (changes more : List Change) (map : Map)
    → changed_by (changes ++ more) map ≡ changed_by more (changed_by changes map)
changed_by-append [] _ _ = refl
changed_by-append (change ∷ changes) more map =
    changed_by-append changes more (map_after change map)

pub apart : (named address : ℕ) → (named == address) ≡ false → address ≡ named → ⊥
apart named address other same = search rules

the_first : (x y : Bool) → (x || y) ≡ true → y ≡ false → x ≡ true
the_first true y e _ = refl
the_first false y e none = absurd (cc (e, none))

-- what they don't name stays
pub changed_by-other : (changes : List Change) (map : Map) (address : ℕ)
    → names changes address ≡ false → changed_by changes map address ≡ map address
changed_by-other [] _ _ e = refl
changed_by-other (change ∷ changes) map address e =
    let parts = neither (address_of change == address) (names changes address) e in
    changed_by-other changes (map_after change map) address parts.1
    ∙ changed-other change map address (apart (address_of change) address parts.0)

-- and what they name is theirs
pub changed_by-at : (changes : List Change) (first second : Map) (address : ℕ)
    → names changes address ≡ true
    → changed_by changes first address ≡ changed_by changes second address
changed_by-at [] _ _ _ e = absurd (cc e)
changed_by-at (change ∷ changes) first second address e = elim (cases_Bool _) [
  | inl later ↦ changed_by-at changes (map_after change first) (map_after change second) address
      later
  | inr none ↦
      search (rules, changed_by-other, changed-at, the_first)
]

pub without-other : (changes : List Change) (map : Map) (address : ℕ)
    → names changes address ≡ false → map_without changes map address ≡ map address
without-other [] _ _ e = refl
without-other (change ∷ changes) map address e =
    let parts = neither (address_of change == address) (names changes address) e in
    without-other changes (map_after (Forget (address_of change)) map) address parts.1
    ∙ forget-other map (address_of change) address (apart (address_of change) address parts.0)

pub without-at : (changes : List Change) (map : Map) (address : ℕ) → names changes address ≡ true
    → map_without changes map address ≡ None
without-at [] _ _ e = absurd (cc e)
without-at (change ∷ changes) map address e = elim (cases_Bool _) [
  | inl later ↦ without-at changes (map_after (Forget (address_of change)) map) address later
  | inr none ↦
      search (rules, without-other, forget-at, the_first)
]

-- the changes, and then each other address, are the map after the changes
pub then_all : (start map : Map) (changes : List Change)
    → ((address : ℕ) → start address ≡ changed_by changes nothing address) → (address : ℕ)
    → replaced_map start (names changes) map address ≡ changed_by changes map address
then_all start map changes same address =
    search (rules, replaced-at, changed_by-at, replaced-other, changed_by-other)

-- what is put at an address that no later change names might as well be put last
pub put_last : (changes : List Change) (map : Map) (named value : ℕ) → names changes named ≡ false
    → (address : ℕ)
    → map_after (Put named value) (changed_by changes (map_after (Forget named) map)) address
    ≡ changed_by changes (map_after (Put named value) map) address
put_last changes map named value once address =
    search (rules, put-other, told_apart, changed_by-at, put-at, changed_by-other, forget-other)

-- what the map has after a change it has been made
pub made : (change : Change) (map after : Map)
    → after (address_of change) ≡ map_after change map (address_of change) → HasChange change after
made (Put address value) map _ same = same ∙ put-at map address value address refl
made (Forget address) map _ same = same ∙ forget-at map address address refl
