-- The numbers of a batch: what they say, and what is moved among them.
use Rattle.std.proofs.Common.{◌≡◌, inl, inr, ℕ, ◌+◌, ◌-◌, ◌<◌, ◌≤◌, ◌/◌, ◌%◌, ◌^◌, true, false, Bool, Option, Some, None, List, [], ◌∷◌, ◌++◌, length, map, replicate, take, drop, get_or, set, refl, sym, subst, ap, ◌∙◌, arith, suc, zero}
use Rattle.std.proofs.lemmas.Bool.{cases_eq, cases_lt, eq-eqb, eqb-false, eqb-true, le-ltb, lt-ltb, ne_eqb}
use Rattle.std.proofs.lemmas.Grind.{drop_more_same}
use Rattle.std.proofs.lemmas.List.{append-nil, drop-set-lt, get_or-drop, get_or-map, get_or-take, length-map, length-take-le, map-append, map-set, take_all, take_more, take_more_set}
use Rattle.std.proofs.lemmas.List.Elements.{All-from_get_or, All-get_or, All-replicate}
use Rattle.std.specs.List.{All, insert, take-map}
use Rattle.std.specs.Prelude.{◌==◌}
use Rattle.ee_codec.specs.Reading.{slot_of}
use Rattle.ee_codec.specs.Words.{IsAddress}
use Rattle.ee_flash.specs.declared.word.Word.TheVariants.{Held}
use Rattle.ee_pages.specs.Nearest.{IsOfAddress, Named, item_by, last_named, live_values, named_by, slot_names}
use Rattle.ee_pages.proofs.Nearest.{last_is}
use Rattle.ee_pages.proofs.SetPrograms.{take_of_set}

-- ---- what a number says

-- an element or a forgetting
pub says_by : (number : ℕ) → IsOfAddress number → number / 2 ^ 16 % 2 ^ 16 < 2
    → slot_names (slot_of (Held number)) ≡ Some (named_by number)
says_by number proper kind = elim (cases_eq (number / 2 ^ 16 % 2 ^ 16) 0) [
  | inl zeroth ↦ rw (
    lt-ltb 0 (number % 2 ^ 16) proper.0,
    lt-ltb (number % 2 ^ 16) 65535 proper.1,
    eq-eqb (number / 2 ^ 16 % 2 ^ 16) 0 zeroth,
  ) refl
  | inr other ↦
      let first : number / 2 ^ 16 % 2 ^ 16 ≡ 1 = omega (arith, kind, other) in
      rw (
        lt-ltb 0 (number % 2 ^ 16) proper.0,
        lt-ltb (number % 2 ^ 16) 65535 proper.1,
        ne_eqb (number / 2 ^ 16 % 2 ^ 16) 0 other,
        eq-eqb (number / 2 ^ 16 % 2 ^ 16) 1 first,
      )
      refl
]

abbrev name_in : Option Named → ℕ
name_in None = 0
name_in (Some name) = name.0

none_some : (name : Named) → None ≡ Some name → ⊥
none_some name e = let wrong : ◌≡◌ {A = Option Named} None (Some name) = e in cc wrong

pub record Names (number : ℕ) (name : Named) : Type 0 where
  pub address : name.0 ≡ number % 2 ^ 16
  pub proper : IsOfAddress number
  pub kind : number / 2 ^ 16 % 2 ^ 16 < 2

-- and nothing else
pub names_by : (number : ℕ) (name : Named) → slot_names (slot_of (Held number)) ≡ Some name
    → Names number name
names_by number name names = elim (cases_lt 0 (number % 2 ^ 16)) [
  | inr none ↦ absurd (none_some name (sym (rw (le-ltb 0 (number % 2 ^ 16) none) refl) ∙ names))
  | inl some ↦ elim (cases_lt (number % 2 ^ 16) 65535) [
    | inr past ↦ absurd
        (none_some name
        (sym (rw (lt-ltb 0 (number % 2 ^ 16) some, le-ltb (number % 2 ^ 16) 65535 past) refl)
        ∙ names))
    | inl below ↦ elim (cases_lt (number / 2 ^ 16 % 2 ^ 16) 2) [
      | inl kind ↦ record {
        address = ap name_in (sym names ∙ says_by number (some, below) kind);
        proper = (some, below);
        kind = kind;
      }
      | inr more ↦ absurd (none_some name (
          sym
          (rw (
            lt-ltb 0 (number % 2 ^ 16) some,
            lt-ltb (number % 2 ^ 16) 65535 below,
            ne_eqb (number / 2 ^ 16 % 2 ^ 16) 0 (λ e. omega (arith, e, more)),
            ne_eqb (number / 2 ^ 16 % 2 ^ 16) 1 (λ e. omega (arith, e, more)),
          ) refl)
          ∙ names))
    ]
  ]
]

-- ---- those that give a value

pub living-append : (xs ys : List Named) → live_values (xs ++ ys) ≡ live_values xs ++ live_values ys
living-append [] ys = refl
living-append ((address, Some value) ∷ xs) ys =
    ap (λ (l : List (ℕ × ℕ)). (address, value) ∷ l) (living-append xs ys)
living-append ((address, None) ∷ xs) ys = living-append xs ys

lives_by : (number : ℕ) → number / 2 ^ 16 % 2 ^ 16 ≡ 0
    → live_values (named_by number ∷ []) ≡ item_by number ∷ []
lives_by number zeroth = rw (eq-eqb (number / 2 ^ 16 % 2 ^ 16) 0 zeroth) refl

dies_by : (number : ℕ) → (number / 2 ^ 16 % 2 ^ 16 ≡ 0 → ⊥)
    → live_values (named_by number ∷ []) ≡ []
dies_by number other = rw (ne_eqb (number / 2 ^ 16 % 2 ^ 16) 0 other) refl

-- at the next place, with those before it that give a value moved to the front
module _ (old now : List ℕ) (place kept : ℕ) (few : place < length old)
    (so_far : map item_by (take kept now) ≡ live_values (map named_by (take place old)))
    (rest : drop place now ≡ drop place old) (long : length now ≡ length old)
    (low : kept ≤ place) where
  one_more : live_values (map named_by (take (place + 1) old))
      ≡ live_values (map named_by (take place old))
      ++ live_values (named_by (get_or old place 0) ∷ [])
  one_more =
      ap (λ (l : List ℕ). live_values (map named_by l)) (take_more old place 0 few)
      ∙ ap live_values (map-append named_by (take place old) (get_or old place 0 ∷ []))
      ∙ living-append (map named_by (take place old)) (named_by (get_or old place 0) ∷ [])

  module _ (number : ℕ) (is : number ≡ get_or now place 0) where
    is_old : number ≡ get_or old place 0
    is_old =
        let at : place + 0 ≡ place = omega arith in
        is
        ∙ sym (get_or-drop place now 0 0 ∙ ap (λ n. get_or now n 0) at)
        ∙ ap (λ (l : List ℕ). get_or l 0 0) rest
        ∙ get_or-drop place old 0 0 ∙ ap (λ n. get_or old n 0) at

    pub one_dies : (live : Bool) → live ≡ (number / 2 ^ 16 % 2 ^ 16 == 0) → live ≡ false
        → map item_by (take kept now) ≡ live_values (map named_by (take (place + 1) old))
    one_dies live live_is dies =
        let other = eqb-false (number / 2 ^ 16 % 2 ^ 16) 0 (sym live_is ∙ dies) in
        so_far
        ∙ sym (append-nil (live_values (map named_by (take place old))))
        ∙ ap (λ (l : List (ℕ × ℕ)). live_values (map named_by (take place old)) ++ l)
        (sym (dies_by number other))
        ∙ ap (λ n. live_values (map named_by (take place old)) ++ live_values (named_by n ∷ []))
        is_old
        ∙ sym one_more

    pub one_lives : (live : Bool) → live ≡ (number / 2 ^ 16 % 2 ^ 16 == 0) → live ≡ true
        → map item_by (take (kept + 1) (set now kept number))
        ≡ live_values (map named_by (take (place + 1) old))
    one_lives live live_is lives =
        let zeroth = eqb-true (number / 2 ^ 16 % 2 ^ 16) 0 (sym live_is ∙ lives) in
        ap (map item_by) (take_more_set now kept number (omega (arith, long, low, few)))
        ∙ map-append item_by (take kept now) (number ∷ [])
        ∙ ap (λ (l : List (ℕ × ℕ)). l ++ item_by number ∷ []) so_far
        ∙ ap (λ (l : List (ℕ × ℕ)). live_values (map named_by (take place old)) ++ l)
        (sym (lives_by number zeroth))
        ∙ ap (λ n. live_values (map named_by (take place old)) ++ live_values (named_by n ∷ []))
        is_old
        ∙ sym one_more

    pub rest_stays : drop (place + 1) (set now kept number) ≡ drop (place + 1) old
    rest_stays =
        drop-set-lt (place + 1) now kept number (omega (arith, low))
        ∙ drop_more_same now old place rest

    pub proper_number : All IsOfAddress now → IsOfAddress number
    proper_number all =
        subst IsOfAddress (sym is)
        (All-get_or IsOfAddress now place 0 (omega (arith, long, few)) all)

pub proper_items : (numbers : List ℕ) → All IsOfAddress numbers
    → All (λ (found : ℕ × ℕ). IsAddress found.0) (map item_by numbers)
proper_items numbers all =
    let long = length-map numbers item_by in
    All-from_get_or (λ (found : ℕ × ℕ). IsAddress found.0) (map item_by numbers) (item_by 0) (λ k h.
    let within : k < length numbers = omega (arith, h, long) in
    subst (λ (found : ℕ × ℕ). IsAddress found.0)
    (sym (get_or-map item_by numbers k 0 (item_by 0) within))
    (All-get_or IsOfAddress numbers k 0 within all))

pub all_of_address : (count : ℕ) → All IsOfAddress (replicate count 1)
all_of_address count = All-replicate IsOfAddress count 1 (omega arith, omega arith)

-- ---- a batch of so many numbers

module _ (count : ℕ) (numbers : List ℕ) (few : count ≤ length numbers) where
  pub length_named : length (map named_by (take count numbers)) ≡ count
  length_named = length-map (take count numbers) named_by ∙ length-take-le count numbers few

  pub named_at : (place : ℕ) (none : Named) (default : ℕ) → place < count
      → (get_or (map named_by (take count numbers)) place none).0
      ≡ get_or numbers place default % 2 ^ 16
  named_at place none default within =
      ap (λ (name : Named). name.0)
      (get_or-map named_by (take count numbers) place default none
      (omega (arith, within, length-take-le count numbers few)))
      ∙ ap (λ n. n % 2 ^ 16) (get_or-take count numbers place default within)

  -- the last of a full one
  pub last_number : (room above : ℕ) → count ≡ room → 0 < room
      → get_or numbers (room - 1) 0 % 2 ^ 16 ≡ last_named above (map named_by (take count numbers))
  last_number room above full some =
      let none : Named = (0, None) in
      let last : length (map named_by (take count numbers)) - 1 ≡ room - 1 =
      omega (arith, length_named, full) in
      sym (named_at (room - 1) none 0 (omega (arith, full, some)))
      ∙ sym (ap (λ place. (get_or (map named_by (take count numbers)) place none).0) last)
      ∙ last_is (map named_by (take count numbers)) above none
      (omega (arith, length_named, full, some))

  -- another one at a place
  pub set_anew : (place number : ℕ)
      → map named_by (take count (set numbers place number))
      ≡ set (map named_by (take count numbers)) place (named_by number)
  set_anew place number =
      ap (map named_by) (take_of_set count numbers place number)
      ∙ map-set named_by (take count numbers) place number

-- ---- a number is put in, and the others go one further

map-insert : (numbers : List ℕ) (place number : ℕ) → place ≤ length numbers
    → map named_by (insert numbers place number)
    ≡ insert (map named_by numbers) place (named_by number)
map-insert numbers zero number low = refl
map-insert [] (suc place) number low = absurd (omega (arith, low))
map-insert (first ∷ numbers) (suc place) number low =
    ap (λ (l : List Named). named_by first ∷ l) (map-insert numbers place number (omega arith))

insert-take : {X : Type 0} (n place : ℕ) (list : List X) (item : X) → place ≤ n
    → place ≤ length list → take (suc n) (insert list place item) ≡ insert (take n list) place item
insert-take n zero list item low few = refl
insert-take zero (suc place) list item low few = absurd (omega (arith, low))
insert-take (suc n) (suc place) [] item low few = absurd (omega (arith, few))
insert-take {X} (suc n) (suc place) (first ∷ list) item low few =
    ap (λ (l : List X). first ∷ l) (insert-take n place list item (omega arith) (omega arith))

take-take_low : {X : Type 0} (m n : ℕ) (list : List X) → m ≤ n → take m (take n list) ≡ take m list
take-take_low zero n list low = refl
take-take_low (suc m) zero list low = absurd (omega (arith, low))
take-take_low (suc m) (suc n) [] low = refl
take-take_low {X} (suc m) (suc n) (first ∷ list) low =
    ap (λ (l : List X). first ∷ l) (take-take_low m n list (omega arith))

take-take_high : {X : Type 0} (m n : ℕ) (list : List X) → n ≤ m → take m (take n list) ≡ take n list
take-take_high m zero list high = take_all m [] (omega arith)
take-take_high zero (suc n) list high = absurd (omega (arith, high))
take-take_high (suc m) (suc n) [] high = refl
take-take_high {X} (suc m) (suc n) (first ∷ list) high =
    ap (λ (l : List X). first ∷ l) (take-take_high m n list (omega arith))

pub put_among : (room count place end number : ℕ) (numbers new_numbers : List ℕ) → place ≤ count
    → count ≤ length numbers → count ≤ room → (count < room → end ≡ count + 1)
    → (count ≡ room → end ≡ room) → take end new_numbers ≡ take end (insert numbers place number)
    → map named_by (take end new_numbers)
    ≡ take room (insert (map named_by (take count numbers)) place (named_by number))
put_among room count place end number numbers new_numbers within few fits grows full put =
    let all = map named_by numbers in
    let whole = insert all place (named_by number) in
    let cut : take end whole ≡ take room (take (suc count) whole) = elim (cases_lt count room) [
      | inl less ↦ ap (λ n. take n whole) (let e : end ≡ suc count = omega (arith, grows less) in e)
          ∙ sym (take-take_high room (suc count) whole (omega arith))
      | inr more ↦ let same : count ≡ room =
          omega arith in ap (λ n. take n whole) (full same)
          ∙ sym (take-take_low room (suc count) whole (omega arith))
    ] in
    ap (map named_by) put
    ∙ sym (take-map named_by end (insert numbers place number))
    ∙ ap (take end) (map-insert numbers place number (omega (arith, within, few)))
    ∙ cut
    ∙ ap (take room)
    (insert-take count place all (named_by number) within
    (omega (arith, within, few, length-map numbers named_by)))
    ∙ ap (λ (l : List Named). take room (insert l place (named_by number)))
    (take-map named_by count numbers)
