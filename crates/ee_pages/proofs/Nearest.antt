-- Lists of named addresses, and the live ones among them.
use Rattle.std.proofs.Common.{rules, ◌≡◌, inl, inr, ℕ, ◌+◌, ◌-◌, ◌*◌, ◌<◌, ◌≤◌, true, false, Bool, Option, Some, None, List, [], ◌∷◌, ◌++◌, length, take, get_or, set, cond, ◌⊎◌, refl, sym, subst, ap, ◌∙◌, arith, suc, zero}
use Rattle.std.proofs.Math.Nat.{min-le_left, mul-le-mul_right}
use Rattle.std.proofs.lemmas.List.{length-set, length-take, take_all, take_more}
use Rattle.std.specs.List.{insert}
use Rattle.std.specs.Prelude.{◌==◌, ◌≢◌, IfNone, IfSome, nat_lt}
use Rattle.std.proofs.lemmas.Bool.{cases_lt, cases_eq, eq-eqb, ne_eqb, lt-ltb, le-ltb}
use Rattle.ee_codec.specs.Reading.{slot_of}
use Rattle.ee_codec.specs.declared.slot.Slot.{Slot}
use Rattle.ee_codec.specs.declared.slot.Slot.TheVariants.{Free, Spoiled, Element, Forgotten, Foreign}
use Rattle.ee_flash.specs.declared.word.Word.{Word}
use Rattle.ee_flash.specs.declared.word.Word.TheVariants.{Erased}
use Rattle.ee_pages.specs.Meaning.{later_of, latest_in, meaning, says, slot_says, value_said}
use Rattle.ee_pages.specs.LiveOrder.{AreLiveThrough, AreNextLive, IsNoneLive, last_of}
use Rattle.ee_pages.specs.Nearest.{IsPlace, IsRising, Named, with_each_named, last_named, live_values, with_named, noted_above, slot_names}
use Rattle.ee_pages.proofs.LastSaid.{later-none}

-- what a list says of an address
abbrev pub said_in : List Named → ℕ → Option (Option ℕ)
said_in [] address = None
said_in (first ∷ rest) address = cond (first.0 == address) (Some first.1) (said_in rest address)

said-first : (first : Named) (rest : List Named) (address : ℕ) → first.0 ≡ address
    → said_in (first ∷ rest) address ≡ Some first.1
said-first first rest address e =
    ap (λ (b : Bool). cond b (Some first.1) (said_in rest address)) (eq-eqb first.0 address e)

said-rest : (first : Named) (rest : List Named) (address : ℕ) → (first.0 ≡ address → ⊥)
    → said_in (first ∷ rest) address ≡ said_in rest address
said-rest first rest address other =
    ap (λ (b : Bool). cond b (Some first.1) (said_in rest address)) (ne_eqb first.0 address other)

-- where the address goes
before : (new first : Named) (rest : List Named) → new.0 < first.0
    → with_named new (first ∷ rest) ≡ new ∷ first ∷ rest
before new first rest h =
    ap
    (λ (b : Bool). cond b (new ∷ first ∷ rest)
    (cond (new.0 == first.0) (new ∷ rest) (first ∷ with_named new rest)))
    (lt-ltb new.0 first.0 h)

here : (new first : Named) (rest : List Named) → new.0 ≡ first.0
    → with_named new (first ∷ rest) ≡ new ∷ rest
here new first rest e =
    ap
    (λ (b : Bool). cond b (new ∷ first ∷ rest)
    (cond (new.0 == first.0) (new ∷ rest) (first ∷ with_named new rest)))
    (le-ltb new.0 first.0 (omega (arith, e)))
    ∙ ap (λ (b : Bool). cond b (new ∷ rest) (first ∷ with_named new rest)) (eq-eqb new.0 first.0 e)

behind : (new first : Named) (rest : List Named) → first.0 < new.0
    → with_named new (first ∷ rest) ≡ first ∷ with_named new rest
behind new first rest h =
    ap
    (λ (b : Bool). cond b (new ∷ first ∷ rest)
    (cond (new.0 == first.0) (new ∷ rest) (first ∷ with_named new rest)))
    (le-ltb new.0 first.0 (omega arith))
    ∙ ap (λ (b : Bool). cond b (new ∷ rest) (first ∷ with_named new rest))
    (ne_eqb new.0 first.0 (λ e. omega (arith, e)))

-- an address is before another, the same, or behind it
abbrev Compared : ℕ → ℕ → Type 0
Compared a b = (a < b) ⊎ ((a ≡ b) ⊎ (b < a))

compared : (a b : ℕ) → Compared a b
compared a b = elim (cases_lt a b) [
  | inl less ↦ inl less
  | inr more ↦ elim (cases_eq a b) [
    | inl same ↦ inr (inl same)
    | inr other ↦ inr (inr (omega arith))
  ]
]

said_in-noted : (new : Named) (list : List Named) → said_in (with_named new list) new.0 ≡ Some new.1
said_in-noted new [] = said-first new [] new.0 refl
said_in-noted new (first ∷ rest) = elim (compared new.0 first.0) [
  | inl less ↦ rw (before new first rest less) (said-first new (first ∷ rest) new.0 refl)
  | inr (inl same) ↦ rw (here new first rest same) (said-first new rest new.0 refl)
  | inr (inr more) ↦ rw (behind new first rest more)
      (said-rest first (with_named new rest) new.0 (λ e. omega (arith, e)) ∙ said_in-noted new rest)
]

said_in-other : (new : Named) (list : List Named) (address : ℕ) → (new.0 ≡ address → ⊥)
    → said_in (with_named new list) address ≡ said_in list address
said_in-other new [] address other = said-rest new [] address other
said_in-other new (first ∷ rest) address other = elim (compared new.0 first.0) [
  | inl less ↦ rw (before new first rest less) (said-rest new (first ∷ rest) address other)
  | inr (inl same) ↦ rw (here new first rest same)
      (said-rest new rest address other
      ∙ sym (said-rest first rest address (λ e. other (same ∙ e))))
  | inr (inr more) ↦ rw (behind new first rest more)
      (ap (λ (said : Option (Option ℕ)). cond (first.0 == address) (Some first.1) said)
      (said_in-other new rest address other))
]

pub rising-noted : (above : ℕ) (new : Named) (list : List Named) → IsRising above list
    → above < new.0 → IsRising above (with_named new list)
rising-noted above new [] rising low = (low, tt)
rising-noted above new (first ∷ rest) rising low = elim (compared new.0 first.0) [
  | inl less ↦ rw (before new first rest less) (low, (less, rising.1))
  | inr (inl same) ↦ rw (here new first rest same)
      (low, subst (λ n. IsRising n rest) (sym same) rising.1)
  | inr (inr more) ↦ rw (behind new first rest more)
      (rising.0, rising-noted first.0 new rest rising.1 more)
]

noted-or_not : (b : Bool) (new : Named) (list : List Named) (address : ℕ) → (new.0 ≡ address → ⊥)
    → said_in (cond b (with_named new list) list) address ≡ said_in list address
noted-or_not true new list address other = said_in-other new list address other
noted-or_not false new list address other = refl

-- what the list says once this is noted, above an address
noted-says : (above : ℕ) (new : Named) (list : List Named) (address : ℕ) → above < address
    → said_in (noted_above above (Some new) list) address
    ≡ later_of (said_in list address) (cond (new.0 == address) (Some new.1) None)
noted-says above new list address h = elim (cases_eq new.0 address) [
  | inl same ↦
      let low : above < new.0 = omega (arith, same) in
      ap (λ (b : Bool). said_in (cond b (with_named new list) list) address)
      (lt-ltb above new.0 low)
      ∙ subst (λ n. said_in (with_named new list) n ≡ Some new.1) same (said_in-noted new list)
      ∙ sym
      (ap (λ (b : Bool). later_of (said_in list address) (cond b (Some new.1) None))
      (eq-eqb new.0 address same))
  | inr other ↦
      noted-or_not (nat_lt above new.0) new list address other
      ∙ sym
      (ap (λ (b : Bool). later_of (said_in list address) (cond b (Some new.1) None))
      (ne_eqb new.0 address other))
]

-- what a slot says is what it names
names-says : (slot : Slot) (above : ℕ) (list : List Named) (address : ℕ) → above < address
    → said_in (noted_above above (slot_names slot) list) address
    ≡ later_of (said_in list address) (slot_says slot address)
names-says Free above list address h = refl
names-says Spoiled above list address h = refl
names-says Foreign above list address h = refl
names-says (Element named value) above list address h =
    noted-says above (named, Some value) list address h
names-says (Forgotten named value) above list address h =
    noted-says above (named, None) list address h

later-assoc : (first second third : Option (Option ℕ))
    → later_of (later_of first second) third ≡ later_of first (later_of second third)
later-assoc first second None = refl
later-assoc first second (Some said) = refl

pub said_in-gathered : (above : ℕ) (words : List Word) (list : List Named) (address : ℕ)
    → above < address
    → said_in (with_each_named above words list) address
    ≡ later_of (said_in list address) (latest_in words address)
said_in-gathered above [] list address h = refl
said_in-gathered above (word ∷ words) list address h =
    said_in-gathered above words (noted_above above (slot_names (slot_of word)) list) address h
    ∙ ap (λ (said : Option (Option ℕ)). later_of said (latest_in words address))
    (names-says (slot_of word) above list address h)
    ∙ later-assoc (said_in list address) (says word address) (latest_in words address)

rising-noted_above : (above : ℕ) (new : Option Named) (list : List Named) → IsRising above list
    → IsRising above (noted_above above new list)
rising-noted_above above None list rising = rising
rising-noted_above above (Some new) list rising = elim (cases_lt above new.0) [
  | inl low ↦ rw (lt-ltb above new.0 low) (rising-noted above new list rising low)
  | inr high ↦ rw (le-ltb above new.0 high) rising
]

pub rising-gathered : (above : ℕ) (words : List Word) (list : List Named) → IsRising above list
    → IsRising above (with_each_named above words list)
rising-gathered above [] list rising = rising
rising-gathered above (word ∷ words) list rising =
    rising-gathered above words (noted_above above (slot_names (slot_of word)) list)
    (rising-noted_above above (slot_names (slot_of word)) list rising)

pub gathered-append : (above : ℕ) (words more : List Word) (list : List Named)
    → with_each_named above (words ++ more) list
    ≡ with_each_named above more (with_each_named above words list)
gathered-append above [] more list = refl
gathered-append above (word ∷ words) more list =
    gathered-append above words more (noted_above above (slot_names (slot_of word)) list)

-- The first few of a list are enough to know the first few of what it becomes.
few-few : (n : ℕ) (list : List Named) → take n (take n list) ≡ take n list
few-few zero list = refl
few-few (suc n) [] = refl
few-few (suc n) (first ∷ rest) = ap (λ (l : List Named). first ∷ l) (few-few n rest)

few-shorter : (n : ℕ) (list : List Named) → take n (take (suc n) list) ≡ take n list
few-shorter zero list = refl
few-shorter (suc n) [] = refl
few-shorter (suc n) (first ∷ rest) = ap (λ (l : List Named). first ∷ l) (few-shorter n rest)

few-cons : (n : ℕ) (first : Named) (rest : List Named)
    → take n (first ∷ take n rest) ≡ take n (first ∷ rest)
few-cons zero first rest = refl
few-cons (suc n) first rest = ap (λ (l : List Named). first ∷ l) (few-shorter n rest)

few-noted : (n : ℕ) (new : Named) (list : List Named)
    → take n (with_named new (take n list)) ≡ take n (with_named new list)
few-noted zero new list = refl
few-noted (suc n) new [] = refl
few-noted (suc n) new (first ∷ rest) = elim (compared new.0 first.0) [
  | inl less ↦ rw (before new first (take n rest) less, before new first rest less)
      (ap (λ (l : List Named). new ∷ l) (few-cons n first rest))
  | inr (inl same) ↦ rw (here new first (take n rest) same, here new first rest same)
      (ap (λ (l : List Named). new ∷ l) (few-few n rest))
  | inr (inr more) ↦ rw (behind new first (take n rest) more, behind new first rest more)
      (ap (λ (l : List Named). first ∷ l) (few-noted n new rest))
]

pub few-noted_above : (n above : ℕ) (new : Option Named) (list : List Named)
    → take n (noted_above above new (take n list)) ≡ take n (noted_above above new list)
few-noted_above n above None list = few-few n list
few-noted_above n above (Some new) list = elim (cases_lt above new.0) [
  | inl low ↦ rw (lt-ltb above new.0 low) (few-noted n new list)
  | inr high ↦ rw (le-ltb above new.0 high) (few-few n list)
]

pub few-gathered : (n above : ℕ) (words : List Word) (list : List Named)
    → take n (with_each_named above words (take n list)) ≡ take n (with_each_named above words list)
few-gathered n above [] list = few-few n list
few-gathered n above (word ∷ words) list =
    let said = slot_names (slot_of word) in
    sym (few-gathered n above words (noted_above above said (take n list)))
    ∙ ap (λ (l : List Named). take n (with_each_named above words l))
    (few-noted_above n above said list)
    ∙ few-gathered n above words (noted_above above said list)

-- below the first address nothing is said
nothing_below : (above : ℕ) (list : List Named) (address : ℕ) → IsRising above list
    → address ≤ above → said_in list address ≡ None
nothing_below above [] address rising h = refl
nothing_below above (first ∷ rest) address rising h =
    said-rest first rest address (λ e. omega (arith, rising.0))
    ∙ nothing_below first.0 rest address rising.1 (omega (arith, rising.0))

last_named-above : (n above : ℕ) (list : List Named) → IsRising above list
    → above ≤ last_named above (take n list)
last_named-above zero above list rising = omega arith
last_named-above (suc n) above [] rising = omega arith
last_named-above (suc n) above (first ∷ rest) rising =
    let more = last_named-above n first.0 rest rising.1 in
    omega (arith, rising.0)

pub last_named-further : (n above : ℕ) (list : List Named) → IsRising above list
    → 0 < length (take n list) → above < last_named above (take n list)
last_named-further zero above list rising some = absurd (omega (arith, some))
last_named-further (suc n) above [] rising some = absurd (omega (arith, some))
last_named-further (suc n) above (first ∷ rest) rising some =
    let more = last_named-above n first.0 rest rising.1 in
    omega (arith, rising.0)

-- all of a list are before what is behind its last
pub last-at_least : (above : ℕ) (list : List Named) → IsRising above list
    → above ≤ last_named above list
last-at_least above [] rising = omega arith
last-at_least above (first ∷ rest) rising =
    let more = last-at_least first.0 rest rising.1 in omega (arith, rising.0)

behind_last : (above address : ℕ) (list : List Named) → IsRising above list
    → last_named above list < address → IsPlace address list (length list)
behind_last above address [] rising h = refl
behind_last above address (first ∷ rest) rising h =
    let low = last-at_least first.0 rest rising.1 in
    (omega (arith, h), behind_last first.0 address rest rising.1 h)

-- The list says of each address above this one what the words say, and above another one none has a
-- value up to it: then the living ones of its first few are the next live addresses, and none is
-- live behind them up to the last, or at all where there are fewer.
pub record AreNext (words : List Word) (from above n : ℕ) (list : List Named) : Type 0 where
  pub next : AreNextLive (meaning words) from (live_values (take n list))
  pub rest : IsNoneLive (meaning words) (last_of from (live_values (take n list)))
      (Some (last_named above (take n list)))
  pub all : length (take n list) < n
      → IsNoneLive (meaning words) (last_of from (live_values (take n list))) None

module _ (words : List Word) where
  abbrev pub Says : ℕ → List Named → Type 0
  Says above list = (address : ℕ) → above < address → said_in list address ≡ latest_in words address

  abbrev pub NoneBetween : ℕ → ℕ → Type 0
  NoneBetween from above =
      (address : ℕ) → from < address → address ≤ above → meaning words address ≡ None

  -- up to the first of a list
  gap : (from above : ℕ) (first : Named) (rest : List Named) → NoneBetween from above
      → Says above (first ∷ rest) → IsRising above (first ∷ rest) → (address : ℕ) → from < address
      → address < first.0 → meaning words address ≡ None
  gap from above first rest none held rising address low high = elim (cases_lt above address) [
    | inr less ↦ none address low less
    | inl more ↦
        ap value_said (
        sym (held address more)
        ∙ said-rest first rest address (λ e. omega (arith, e))
        ∙ nothing_below first.0 rest address rising.1 (omega arith)
        )
  ]

  at_first : (above : ℕ) (first : Named) (rest : List Named) → Says above (first ∷ rest)
      → above < first.0 → meaning words first.0 ≡ value_said (Some first.1)
  at_first above first rest held low =
      ap value_said (sym (held first.0 low) ∙ said-first first rest first.0 refl)

  later_says : (above : ℕ) (first : Named) (rest : List Named) → Says above (first ∷ rest)
      → above < first.0 → Says first.0 rest
  later_says above first rest held low address h =
      sym (said-rest first rest address (λ e. omega (arith, e))) ∙ held address (omega arith)

  pub are_next : (from above n : ℕ) (list : List Named) → from ≤ above → NoneBetween from above
      → Says above list → IsRising above list → AreNext words from above n list
  are_next from above zero list low none held rising =
      record { next = tt; rest = (low, none); all = λ h. absurd (omega (arith, h)) }
  are_next from above (suc n) [] low none held rising = record {
    next = tt;
    rest = (low, none);
    all = λ _ address more. elim (cases_lt above address) [
      | inl high ↦ ap value_said (sym (held address high))
      | inr less ↦ none address more less
    ];
  }
  are_next from above (suc n) ((address, None) ∷ rest) low none held rising =
      let first : Named = (address, None) in
      let between : NoneBetween from address = λ k more less. elim (cases_eq k address) [
        | inl same ↦ ap (meaning words) same ∙ at_first above first rest held rising.0
        | inr other ↦ gap from above first rest none held rising k more (omega arith)
      ] in
      let after =
      are_next from address n rest (omega (arith, rising.0)) between
      (later_says above first rest held rising.0) rising.1 in
      record { next = after.next; rest = after.rest; all = λ h. after.all (omega (arith, h)) }
  are_next from above (suc n) ((address, Some value) ∷ rest) low none held rising =
      let first : Named = (address, Some value) in
      let after =
      are_next address address n rest (omega arith) (λ k more less. absurd (omega arith))
      (later_says above first rest held rising.0) rising.1 in
      record {
        next = (
          (
            omega (arith, rising.0),
            at_first above first rest held rising.0,
            λ k more less. gap from above first rest none held rising k more less,
          ),
          after.next,
        );
        rest = after.rest;
        all = λ h. after.all (omega (arith, h));
      }

first_below : {X : Type 0} (first : ℕ × X) (rest : List (ℕ × X)) (address place : ℕ)
    (default : ℕ × X)
    → IsRising first.0 rest → place ≤ length rest
    → (get_or (first ∷ rest) place default).0 < address → first.0 < address
first_below first rest address zero default rising within last = last
first_below first (second ∷ rest) address (suc place) default rising within last =
    let more = first_below second rest address place default rising.1 (omega arith) last in
    omega (arith, rising.0)
first_below first [] address (suc place) default rising within last = absurd (omega (arith, within))

-- the address in its place
pub place_is : {X : Type 0} (list : List (ℕ × X)) (above address place : ℕ) (default : ℕ × X)
    → IsRising above list → place ≤ length list
    → (place < length list → address ≤ (get_or list place default).0)
    → (0 < place → (get_or list (place - 1) default).0 < address) → IsPlace address list place
place_is [] above address place default rising within high low = omega (arith, within)
place_is (first ∷ rest) above address zero default rising within high low = high (omega arith)
place_is (first ∷ rest) above address (suc place) default rising within high low =
    let one_less : suc place - 1 ≡ place = omega arith in
    let last : (get_or (first ∷ rest) place default).0 < address =
    subst (λ k. (get_or (first ∷ rest) k default).0 < address) one_less (low (omega arith)) in (
      first_below first rest address place default rising.1 (omega arith) last,
      place_is rest first.0 address place default rising.1 (omega arith) (λ h. high (omega arith))
          (λ some. let e : place ≡ suc (place - 1) = omega arith in
          subst (λ k. (get_or (first ∷ rest) k default).0 < address) e last),
    )

-- over what was noted of it
pub put_same : (list : List Named) (new : Named) (place : ℕ) (default : Named)
    → IsPlace new.0 list place → place < length list → (get_or list place default).0 ≡ new.0
    → set list place new ≡ with_named new list
put_same [] new place default at within same = absurd (omega (arith, within))
put_same (first ∷ rest) new zero default at within same = sym (here new first rest (sym same))
put_same (first ∷ rest) new (suc place) default at within same =
    rw (behind new first rest at.0)
    (ap (λ (l : List Named). first ∷ l)
    (put_same rest new place default at.1 (omega arith) same))

-- where nothing was noted of it
pub put_new : (list : List Named) (new : Named) (place : ℕ) (default : Named)
    → IsPlace new.0 list place → place ≤ length list
    → (place < length list → (get_or list place default).0 ≢ new.0)
    → insert list place new ≡ with_named new list
put_new [] new zero default at within other = refl
put_new [] new (suc place) default at within other = absurd (omega (arith, within))
put_new (first ∷ rest) new zero default at within other =
    let apart : new.0 ≢ first.0 = λ e. other (omega arith) (sym e) in
    sym (before new first rest (omega (arith, at, apart)))
put_new (first ∷ rest) new (suc place) default at within other =
    rw (behind new first rest at.0)
    (ap (λ (l : List Named). first ∷ l)
    (put_new rest new place default at.1 (omega arith) (λ h. other (omega arith))))

-- where all are below it
pub put_behind : (list : List Named) (new : Named) → IsPlace new.0 list (length list)
    → take (length list) (with_named new list) ≡ list
put_behind [] new at = refl
put_behind (first ∷ rest) new at =
    rw (behind new first rest at.0) (ap (λ (l : List Named). first ∷ l) (put_behind rest new at.1))

pub rising-take : (n above : ℕ) (list : List Named) → IsRising above list
    → IsRising above (take n list)
rising-take zero above list rising = tt
rising-take (suc n) above [] rising = tt
rising-take (suc n) above (first ∷ rest) rising = (rising.0, rising-take n first.0 rest rising.1)

-- a slot of a page of a set is one of the set's
pub in_set : (page pages slots slot : ℕ) → page < pages → slot < slots
    → page * slots + slot < pages * slots
in_set page pages slots slot below few =
    let most : suc page * slots ≤ pages * slots =
    mul-le-mul_right {m = suc page} {n = pages} slots (omega arith) in
    omega (arith, most)

-- the last of a list that has some
pub last_is : (list : List Named) (above : ℕ) (default : Named) → 0 < length list
    → (get_or list (length list - 1) default).0 ≡ last_named above list
last_is [] above default some = absurd (omega (arith, some))
last_is (first ∷ []) above default some = refl
last_is (first ∷ second ∷ rest) above default some =
    let one_less : length (first ∷ second ∷ rest) - 1 ≡ suc (length (second ∷ rest) - 1) =
    omega arith in
    ap (λ k. (get_or (first ∷ second ∷ rest) k default).0) one_less
    ∙ last_is (second ∷ rest) first.0 default (omega arith)

-- each is above the one before it
pub rising_at : (list : List Named) (above place : ℕ) (default : Named) → IsRising above list
    → 0 < place → place < length list
    → (get_or list (place - 1) default).0 < (get_or list place default).0
rising_at [] above place default rising some within = absurd (omega (arith, within))
rising_at (first ∷ rest) above zero default rising some within = absurd (omega (arith, some))
rising_at (first ∷ []) above (suc place) default rising some within = absurd (omega (arith, within))
rising_at (first ∷ second ∷ rest) above (suc zero) default rising some within = rising.1.0
rising_at (first ∷ second ∷ rest) above (suc (suc place)) default rising some within =
    let less : suc place - 1 ≡ place = omega arith in
    let one_less : suc (suc place) - 1 ≡ suc place = omega arith in
    subst (λ k. (get_or (first ∷ second ∷ rest) k default).0 < (get_or rest place default).0)
    (sym one_less)
    (subst (λ k. (get_or (second ∷ rest) k default).0 < (get_or rest place default).0) less
    (rising_at (second ∷ rest) first.0 (suc place) default rising.1 (omega arith)
    (omega arith)))

-- what is noted anew of an address leaves the last address
pub last-same : (list : List Named) (above place : ℕ) (new default : Named) → place < length list
    → (get_or list place default).0 ≡ new.0
    → last_named above (set list place new) ≡ last_named above list
last-same [] above place new default within same = absurd (omega (arith, within))
last-same (first ∷ rest) above zero new default within same = ap (λ n. last_named n rest) (sym same)
last-same (first ∷ rest) above (suc place) new default within same =
    last-same rest first.0 place new default (omega arith) same

-- in a list of so many at most
module _ (room : ℕ) where
  pub put_over : (list : List Named) (new : Named) (place : ℕ) (default : Named)
      → IsPlace new.0 list place → place < length list → (get_or list place default).0 ≡ new.0
      → length list ≤ room → set list place new ≡ take room (with_named new list)
  put_over list new place default at within same few =
      search (rules, put_same, length-set, take_all)

  pub put_among : (list : List Named) (new : Named) (place : ℕ) (default : Named)
      → IsPlace new.0 list place → place ≤ length list
      → (place < length list → (get_or list place default).0 ≢ new.0)
      → take room (insert list place new) ≡ take room (with_named new list)
  put_among list new place default at within other =
      ap (take room) (put_new list new place default at within other)

  -- nothing is noted
  pub kept_none : (above : ℕ) (named : Option Named) (list : List Named) → length list ≤ room
      → named ≡ None → list ≡ take room (noted_above above named list)
  kept_none above named list few none = rw none (sym (take_all room list few))

  pub kept_below : (above : ℕ) (new : Named) (list : List Named) → length list ≤ room
      → new.0 ≤ above → list ≡ take room (noted_above above (Some new) list)
  kept_below above new list few low = rw (le-ltb above new.0 low) (sym (take_all room list few))

  -- where there is no room behind the others
  pub kept_full : (above : ℕ) (new : Named) (list : List Named) (place : ℕ) → length list ≤ room
      → above < new.0 → IsPlace new.0 list place → place ≤ length list → room ≤ place
      → list ≡ take room (noted_above above (Some new) list)
  kept_full above new list place few high at within full =
      let same : place ≡ length list = omega arith in
      let all : length list ≡ room = omega arith in
      rw (lt-ltb above new.0 high)
      (sym
      (ap (λ n. take n (with_named new list)) (sym all)
      ∙ put_behind list new (subst (λ n. IsPlace new.0 list n) same at)))

  -- where there is no room, an address behind the last one is not taken
  kept_behind : (above : ℕ) (new : Named) (list : List Named) → IsRising above list
      → length list ≡ room → last_named above list < new.0
      → list ≡ take room (noted_above above (Some new) list)
  kept_behind above new list rising full h =
      let low = last-at_least above list rising in
      kept_full above new list (length list) (omega (arith, full)) (omega arith)
      (behind_last above new.0 list rising h) (omega arith) (omega (arith, full))

  -- a word of which the only address that it can name is not taken
  pub kept_unnamed : (above ending : ℕ) (named : Option Named) (list : List Named)
      → IsRising above list → length list ≤ room
      → ((name : Named) → named ≡ Some name → name.0 ≡ ending)
      → (ending ≤ above) ⊎ ((length list ≡ room) × (last_named above list < ending))
      → list ≡ take room (noted_above above named list)
  kept_unnamed above ending None list rising few only out = kept_none above None list few refl
  kept_unnamed above ending (Some new) list rising few only out =
      let same : new.0 ≡ ending = only new refl in
      elim out [
        | inl low ↦ kept_below above new list few (omega (arith, same))
        | inr last ↦ kept_behind above new list rising last.0 (omega (arith, last.1, same))
      ]

  -- what is gathered rises, and is no more than there is room for
  pub rising_of : (above : ℕ) (words : List Word) (list : List Named)
      → list ≡ take room (with_each_named above words []) → IsRising above list
  rising_of above words list e =
      subst (λ (l : List Named). IsRising above l) (sym e)
      (rising-take room above (with_each_named above words [])
      (rising-gathered above words [] tt))

  pub few_taken : (all list : List Named) → list ≡ take room all → length list ≤ room
  few_taken all list e =
      let long = length-take room all in omega (arith, ap length e, min-le_left room (length all))

  pub few_of : (above : ℕ) (words : List Word) (list : List Named)
      → list ≡ take room (with_each_named above words []) → length list ≤ room
  few_of above words list e = few_taken (with_each_named above words []) list e

  -- one word more
  pub one_word : (above : ℕ) (words : List Word) (place : ℕ) (word : Word)
      (start list after : List Named)
      → place < length words → word ≡ get_or words place Erased
      → list ≡ take room (with_each_named above (take place words) start)
      → after ≡ take room (noted_above above (slot_names (slot_of word)) list)
      → after ≡ take room (with_each_named above (take (place + 1) words) start)
  one_word above words place word start list after within is before noted =
      let so_far = with_each_named above (take place words) start in
      let said = slot_names (slot_of word) in
      noted
      ∙ ap (λ (l : List Named). take room (noted_above above said l)) before
      ∙ few-noted_above room above said so_far
      ∙ ap (λ (w : Word). take room (noted_above above (slot_names (slot_of w)) so_far)) is
      ∙ ap (take room)
      (sym (gathered-append above (take place words) (get_or words place Erased ∷ []) start))
      ∙ ap (λ (more : List Word). take room (with_each_named above more start))
      (sym (take_more words place Erased within))

  through_is : 0 < room → (slots : List Word) (above : ℕ) (all : List Named) (through : Option ℕ)
      → IsRising above all → AreNext slots above above room all
      → IfNone through (length (take room all) < room)
      → IfSome through (λ last. length (take room all) ≡ room)
      → IfSome through (λ last. last ≡ last_named above (take room all))
      → AreLiveThrough (meaning slots) above (live_values (take room all)) through
  through_is some slots above all None rising next none full last =
      record { next = next.next; rest = next.all none; further = full }
  through_is some slots above all (Some through) rising next none full last = record {
    next = next.next;
    rest = subst
        (λ n. IsNoneLive (meaning slots) (last_of above (live_values (take room all))) (Some n))
        (sym last) next.rest;
    further =
        let far = last_named-further room above all rising (omega (arith, full, some)) in
        omega (arith, last);
  }

  -- so the living ones of the first that are gathered are the next live addresses
  batch_is : 0 < room → (slots : List Word) (above : ℕ) (list : List Named) (through : Option ℕ)
      → list ≡ take room (with_each_named above slots []) → IfNone through (length list < room)
      → IfSome through (λ last. length list ≡ room)
      → IfSome through (λ last. last ≡ last_named above list)
      → AreLiveThrough (meaning slots) above (live_values list) through
  batch_is some slots above list through e none full last =
      let all = with_each_named above slots [] in
      let rising = rising-gathered above slots [] tt in
      let next =
      are_next slots above above room all (omega arith) (λ k more less. absurd (omega arith))
      (λ k more. said_in-gathered above slots [] k more ∙ later-none (latest_in slots k))
      rising in
      rw e
      (through_is some slots above all through rising next (rw e at none) (rw e at full)
      (rw e at last))

  -- behind the last page there is no slot
  pub all_gathered : (above : ℕ) (slots : List Word) (page pages size : ℕ) (list : List Named)
      → list ≡ take room (with_each_named above (take (page * size) slots) []) → page ≡ pages
      → length slots ≡ pages * size → list ≡ take room (with_each_named above slots [])
  all_gathered above slots page pages size list gathers end long =
      let all : take (page * size) slots ≡ slots =
      ap (λ n. take (n * size) slots) end
      ∙ take_all (pages * size) slots (omega (arith, long)) in
      gathers ∙ ap (λ (words : List Word). take room (with_each_named above words [])) all

  -- the same, as the parts of a batch are made
  pub batch_from : 0 < room
      → (slots : List Word) (above start : ℕ) (list items : List Named) (through : Option ℕ)
      → list ≡ items → items ≡ take room (with_each_named start slots []) → start ≡ above
      → IfNone through (length list < room) → IfSome through (λ last. length list ≡ room)
      → IfSome through (λ last. last ≡ last_named above list)
      → AreLiveThrough (meaning slots) above (live_values list) through
  batch_from some slots above start list items through same gathers begins none full last =
      batch_is some slots above list through
      (same ∙ gathers ∙ ap (λ n. take room (with_each_named n slots [])) begins) none full last
