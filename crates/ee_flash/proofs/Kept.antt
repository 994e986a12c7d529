-- Words that are kept as numbers and flags.
use Rattle.std.proofs.Common.{◌≡◌, ◌⊎◌, inl, inr, ℕ, zero, suc, ◌+◌, ◌-◌, ◌<◌, ◌≤◌, Bool, true, false, cond, eqb, ◌&&◌, List, [], ◌∷◌, ◌++◌, length, get_or, set, replicate, take, drop, map, refl, sym, ap, ◌∙◌, arith, rules}
use borrow.Rule.Slice.PartMut.{put_mid}
use Rattle.std.specs.List.{All}
use Rattle.std.proofs.lemmas.Bool.{cases_eq, cases_lt, eqb-true, ne_eqb, true≢false}
use Rattle.std.proofs.lemmas.List.{drop-map, ext_get_or, get_or-drop, get_or-set_other, get_or-set_same, get_or-take, length-append, length-drop, length-replicate, length-set, length-take, places, take-map}
use Rattle.std.proofs.lemmas.List.Elements.{All-nil, All-push, All-replicate, All-set}
use Rattle.ee_flash.specs.Device.{IsBelowAllOnes, all_ones}
use Rattle.ee_flash.specs.Fuse.{left_at, left_page}
use Rattle.ee_flash.specs.Runs.{number_of, torn_flag, flagged_word, flagged_words}
use Rattle.ee_flash.proofs.Tears.{get_or-left_page, length-left_page}
use Rattle.ee_flash.specs.declared.fuse.Tear.{Tear}
use Rattle.ee_flash.specs.declared.word.Word.{Word}
use Rattle.ee_flash.specs.declared.word.Word.TheVariants.{Erased, Held, Torn}

number_by : (number : ℕ) (ones none torn : Bool) → (ones ≡ true → number ≡ all_ones)
    → (none ≡ true → number ≡ 0)
    → number_of (cond ones Erased (cond (none && torn) Torn (Held number))) ≡ number
number_by number true none torn is_ones is_none = sym (is_ones refl)
number_by number false true true is_ones is_none = sym (is_none refl)
number_by number false true false is_ones is_none = refl
number_by number false false torn is_ones is_none = refl

-- the number that a word was made of
pub number-flagged_word : (number : ℕ) (torn : Bool) → number_of (flagged_word number torn) ≡ number
number-flagged_word number torn =
    number_by number (eqb number all_ones) (eqb number 0) torn (eqb-true number all_ones)
    (eqb-true number 0)

kept_by : (number : ℕ) (ones none : Bool) → ones ≡ false
    → cond ones Erased (cond (none && false) Torn (Held number)) ≡ Held number
kept_by number true none not_ones = absurd (true≢false not_ones)
kept_by number false true not_ones = refl
kept_by number false false not_ones = refl

-- the word whose number and flag are kept
pub flagged_word-kept : (word : Word) → IsBelowAllOnes word
    → flagged_word (number_of word) (torn_flag word) ≡ word
flagged_word-kept Erased below = refl
flagged_word-kept Torn below = refl
flagged_word-kept (Held number) below =
    let less : number < all_ones = below number refl in
    kept_by number (eqb number all_ones) (eqb number 0)
    (ne_eqb number all_ones (λ same. absurd (omega (arith, same))))

pub length-flagged_words : (numbers : List ℕ) (flags : List Bool) → length flags ≡ length numbers
    → length (flagged_words numbers flags) ≡ length numbers
unfolding flagged_words
length-flagged_words [] flags e = refl
length-flagged_words (number ∷ numbers) [] e = absurd (omega arith)
length-flagged_words (number ∷ numbers) (torn ∷ flags) e =
    omega (arith, length-flagged_words numbers flags (omega arith))

pub get_or-flagged_words : (numbers : List ℕ) (flags : List Bool) (k none : ℕ) (flag : Bool)
    (word : Word)
    → length flags ≡ length numbers → k < length numbers
    → get_or (flagged_words numbers flags) k word
    ≡ flagged_word (get_or numbers k none) (get_or flags k flag)
unfolding flagged_words
get_or-flagged_words [] flags k none flag word e h = absurd (omega arith)
get_or-flagged_words (number ∷ numbers) [] k none flag word e h = absurd (omega arith)
get_or-flagged_words (number ∷ numbers) (torn ∷ flags) zero none flag word e h = refl
get_or-flagged_words (number ∷ numbers) (torn ∷ flags) (suc k) none flag word e h =
    get_or-flagged_words numbers flags k none flag word (omega arith) (omega arith)

-- the numbers of all
pub map-flagged_words : (numbers : List ℕ) (flags : List Bool) → length flags ≡ length numbers
    → map number_of (flagged_words numbers flags) ≡ numbers
unfolding flagged_words
map-flagged_words [] flags e = refl
map-flagged_words (number ∷ numbers) [] e = absurd (omega arith)
map-flagged_words (number ∷ numbers) (torn ∷ flags) e =
    ap (λ (first : ℕ). first ∷ map number_of (flagged_words numbers flags))
    (number-flagged_word number torn)
    ∙ ap (λ (more : List ℕ). number ∷ more) (map-flagged_words numbers flags (omega arith))

pub flagged_words-pushed : (numbers : List ℕ) (flags : List Bool) (number : ℕ) (torn : Bool)
    → length flags ≡ length numbers
    → flagged_words (numbers ++ number ∷ []) (flags ++ torn ∷ [])
    ≡ flagged_words numbers flags ++ flagged_word number torn ∷ []
unfolding flagged_words
flagged_words-pushed [] [] number torn e = refl
flagged_words-pushed [] (flag ∷ flags) number torn e = absurd (omega arith)
flagged_words-pushed (first ∷ numbers) [] number torn e = absurd (omega arith)
flagged_words-pushed (first ∷ numbers) (flag ∷ flags) number torn e =
    ap (λ (more : List Word). flagged_word first flag ∷ more)
    (flagged_words-pushed numbers flags number torn (omega arith))

pub flagged_words-set : (numbers : List ℕ) (flags : List Bool) (place number : ℕ) (torn : Bool)
    → length flags ≡ length numbers
    → flagged_words (set numbers place number) (set flags place torn)
    ≡ set (flagged_words numbers flags) place (flagged_word number torn)
unfolding flagged_words
flagged_words-set [] [] place number torn e = refl
flagged_words-set [] (flag ∷ flags) place number torn e = absurd (omega arith)
flagged_words-set (first ∷ numbers) [] place number torn e = absurd (omega arith)
flagged_words-set (first ∷ numbers) (flag ∷ flags) zero number torn e = refl
flagged_words-set (first ∷ numbers) (flag ∷ flags) (suc place) number torn e =
    ap (λ (more : List Word). flagged_word first flag ∷ more)
    (flagged_words-set numbers flags place number torn (omega arith))

pub flagged_words-erased : (count : ℕ)
    → flagged_words (replicate count all_ones) (replicate count false) ≡ replicate count Erased
unfolding flagged_words
flagged_words-erased zero = refl
flagged_words-erased (suc count) =
    ap (λ (more : List Word). Erased ∷ more) (flagged_words-erased count)

-- words of which a part was torn place by place
module _ (start count : ℕ) (tear : Tear) (old new : List Word) (fits : start + count ≤ length old)
    (as_long : length new ≡ length old)
    (inside : (k : ℕ) → k < count
    → get_or new (start + k) Erased ≡ left_at tear k (get_or old (start + k) Erased))
    (outside : (place : ℕ) → (place < start) ⊎ (start + count ≤ place)
    → get_or new place Erased ≡ get_or old place Erased) where
  abbrev part : List Word
  part = take count (drop start old)

  abbrev torn_part : List Word
  torn_part = put_mid start count old (left_page tear part)

  part_length : length part ≡ count
  part_length = simp (length-take, length-drop) (omega arith)

  left_length : length (left_page tear part) ≡ count
  left_length = length-left_page tear part ∙ part_length

  torn_length : length torn_part ≡ length old
  torn_length = let long = left_length in search (rules, places)

  elsewhere : (place : ℕ) → (place < start) ⊎ (start + count ≤ place)
      → get_or torn_part place Erased ≡ get_or old place Erased
  elsewhere place h = let long = left_length in grind (arith, places)

  in_left : (k : ℕ) → k < count
      → get_or torn_part (start + k) Erased ≡ get_or (left_page tear part) k Erased
  in_left k h = let long = left_length in grind (arith, places)

  in_part : (k : ℕ) → k < count
      → get_or torn_part (start + k) Erased ≡ left_at tear k (get_or old (start + k) Erased)
  in_part k h =
      in_left k h ∙ get_or-left_page tear part k (omega (arith, part_length))
      ∙ ap (left_at tear k)
      (get_or-take count (drop start old) k Erased h ∙ get_or-drop start old k Erased)

  pub same_part : new ≡ torn_part
  same_part =
      ext_get_or Erased _ _ (as_long ∙ sym torn_length) (λ place h.
      elim (cases_lt place start) [
        | inl before ↦ outside place (inl before) ∙ sym (elsewhere place (inl before))
        | inr from ↦ elim (cases_lt place (start + count)) [
          | inl within ↦
              let is : start + (place - start) ≡ place = omega arith in
              let below : place - start < count = omega arith in
              ap (λ (p : ℕ). get_or new p Erased) (sym is) ∙ inside (place - start) below
              ∙ sym (in_part (place - start) below) ∙ ap (λ (p : ℕ). get_or torn_part p Erased) is
          | inr past ↦ outside place (inr past) ∙ sym (elsewhere place (inr past))
        ]
      ])

-- ---- what a `Cells` has

pub kept_none : (numbers : List ℕ) (flags : List Bool) → numbers ≡ [] → flags ≡ []
    → (length flags ≡ length numbers) × All IsBelowAllOnes (flagged_words numbers flags)
unfolding flagged_words
kept_none numbers flags none no_flags =
    (ap length no_flags ∙ sym (ap length none), rw none (All-nil IsBelowAllOnes))

pub no_words : (numbers : List ℕ) (flags : List Bool) → numbers ≡ []
    → flagged_words numbers flags ≡ []
unfolding flagged_words
no_words numbers flags none = rw none refl

pub erased_words : (count : ℕ) (numbers : List ℕ) (flags : List Bool)
    → numbers ≡ replicate count all_ones → flags ≡ replicate count false
    → flagged_words numbers flags ≡ replicate count Erased
erased_words count numbers flags ones clear = rw (ones, clear) (flagged_words-erased count)

pub kept_erased : (count : ℕ) (numbers : List ℕ) (flags : List Bool)
    → numbers ≡ replicate count all_ones → flags ≡ replicate count false
    → (length flags ≡ length numbers) × All IsBelowAllOnes (flagged_words numbers flags)
kept_erased count numbers flags ones clear = (
  ap length clear ∙ length-replicate count false
      ∙ sym (ap length ones ∙ length-replicate count all_ones),
  rw (erased_words count numbers flags ones clear)
      (All-replicate IsBelowAllOnes count Erased (λ value held. cc)),
)

module _ (numbers : List ℕ) (flags : List Bool) (words : List Word)
    (is : flagged_words numbers flags ≡ words) (as_many : length flags ≡ length numbers) where
  pub length-kept : length words ≡ length numbers
  length-kept = ap length (sym is) ∙ length-flagged_words numbers flags as_many

  pub word_kept : (place number : ℕ) (torn : Bool) (word : Word) → place < length words
      → number ≡ get_or numbers place number → torn ≡ get_or flags place torn
      → word ≡ flagged_word number torn → word ≡ get_or words place Erased
  word_kept place number torn word h is_number flag_is is_word =
      is_word ∙ ap (λ (n : ℕ). flagged_word n torn) is_number
      ∙ ap (flagged_word (get_or numbers place number)) flag_is
      ∙ sym
      (get_or-flagged_words numbers flags place number torn Erased as_many
      (omega (arith, length-kept)))
      ∙ ap (λ l. get_or l place Erased) is

  pub numbers_kept : (start count : ℕ) (run : List ℕ) → run ≡ take count (drop start numbers)
      → run ≡ map number_of (take count (drop start words))
  numbers_kept start count run is_run =
      is_run
      ∙ ap (λ l. take count (drop start l))
      (sym (map-flagged_words numbers flags as_many) ∙ ap (map number_of) is)
      ∙ ap (take count) (drop-map number_of start words)
      ∙ take-map number_of count (drop start words)

  pub pushed_words : (number : ℕ) (torn : Bool) (word : Word) (more : List ℕ)
      (more_flags : List Bool)
      → IsBelowAllOnes word → number ≡ number_of word → torn ≡ torn_flag word
      → more ≡ numbers ++ number ∷ [] → more_flags ≡ flags ++ torn ∷ []
      → flagged_words more more_flags ≡ words ++ word ∷ []
  pushed_words number torn word more more_flags below is_number flag_is are are_flags =
      let kept : flagged_word number torn ≡ word =
      rw (is_number, flag_is) (flagged_word-kept word below) in
      rw (are, are_flags)
      (flagged_words-pushed numbers flags number torn as_many
      ∙ ap (λ l. l ++ flagged_word number torn ∷ []) is ∙ ap (λ w. words ++ w ∷ []) kept)

  pub kept_pushed : (number : ℕ) (torn : Bool) (word : Word) (more : List ℕ)
      (more_flags : List Bool)
      → IsBelowAllOnes word → number ≡ number_of word → torn ≡ torn_flag word
      → more ≡ numbers ++ number ∷ [] → more_flags ≡ flags ++ torn ∷ [] → All IsBelowAllOnes words
      → (length more_flags ≡ length more) × All IsBelowAllOnes (flagged_words more more_flags)
  kept_pushed number torn word more more_flags below is_number flag_is are are_flags each = (
    rw (are, are_flags)
        (omega
        (arith, length-append numbers (number ∷ []), length-append flags (torn ∷ []), as_many)),
    rw (pushed_words number torn word more more_flags below is_number flag_is are are_flags)
        (All-push IsBelowAllOnes words word each below),
  )

  pub set_words : (place number : ℕ) (torn : Bool) (word : Word) → IsBelowAllOnes word
      → number ≡ number_of word → torn ≡ torn_flag word
      → flagged_words (set numbers place number) (set flags place torn) ≡ set words place word
  set_words place number torn word below is_number flag_is =
      let kept : flagged_word number torn ≡ word =
      rw (is_number, flag_is) (flagged_word-kept word below) in
      flagged_words-set numbers flags place number torn as_many
      ∙ ap (λ l. set l place (flagged_word number torn)) is ∙ ap (set words place) kept

  pub kept_set : (place number : ℕ) (torn : Bool) (word : Word) → IsBelowAllOnes word
      → number ≡ number_of word → torn ≡ torn_flag word → All IsBelowAllOnes words
      → (length (set flags place torn) ≡ length (set numbers place number))
      × All IsBelowAllOnes (flagged_words (set numbers place number) (set flags place torn))
  kept_set place number torn word below is_number flag_is each = (
    length-set flags place torn ∙ as_many ∙ sym (length-set numbers place number),
    rw (set_words place number torn word below is_number flag_is)
        (All-set IsBelowAllOnes words place word below each),
  )

-- the words from `start` up to `place` are torn, and no others
abbrev pub AreTornTo : ℕ → ℕ → Tear → List Word → List Word → Type 0
AreTornTo start place tear old new =
    (length new ≡ length old)
    × ((k : ℕ) → k < place - start
    → get_or new (start + k) Erased ≡ left_at tear k (get_or old (start + k) Erased))
    × ((other : ℕ) → (other < start) ⊎ (place ≤ other)
    → get_or new other Erased ≡ get_or old other Erased)

pub torn_one_more : (start place : ℕ) (tear : Tear) (old now new : List Word) (left word : Word)
    → AreTornTo start place tear old now → start ≤ place → place < length old
    → word ≡ get_or now place Erased → left ≡ left_at tear (place - start) word
    → new ≡ set now place left → AreTornTo start (place + 1) tear old new
torn_one_more start place tear old now new left word torn from below is_word left_is is_new = (
  ap length is_new ∙ length-set now place left ∙ torn.0,
  λ k h. ap (λ l. get_or l (start + k) Erased) is_new ∙ elim (cases_eq k (place - start)) [
    | inl same ↦
        let here : start + k ≡ place = omega arith in
        let was : word ≡ get_or old (start + k) Erased =
        is_word ∙ torn.2 place (inr (omega arith))
        ∙ ap (λ (p : ℕ). get_or old p Erased) (sym here) in
        ap (λ (p : ℕ). get_or (set now place left) p Erased) here
        ∙ get_or-set_same now place left Erased (omega (arith, torn.0))
        ∙ left_is ∙ ap (λ (at : ℕ). left_at tear at word) (sym same) ∙ ap (left_at tear k) was
    | inr other ↦ get_or-set_other now place (start + k) left Erased (λ same. other (omega arith))
        ∙ torn.1 k (omega arith)
  ],
  λ other h. ap (λ l. get_or l other Erased) is_new ∙ elim h [
    | inl before ↦ get_or-set_other now place other left Erased
        (λ same. absurd (omega (arith, same)))
        ∙ torn.2 other (inl before)
    | inr past ↦ get_or-set_other now place other left Erased (λ same. absurd (omega (arith, same)))
        ∙ torn.2 other (inr (omega arith))
  ],
)
