-- What the readers of a rescue count.
use Rattle.std.proofs.Common.{◌≡◌, ℕ, ◌+◌, ◌*◌, ◌<◌, ◌≤◌, Bool, true, false, cond, not, ◌||◌, None, Some, List, [], ◌∷◌, length, refl, sym, ap, ◌∙◌, arith, suc, zero, inl, inr, get_or}
use Rattle.std.specs.List.{prefix_len}
use Rattle.std.proofs.lemmas.Bool.{cases_lt, cases_order}
use Rattle.std.proofs.lemmas.List.Sums.{prefix_len-le-length, prefix_len_passes, prefix_len_stops}
use Rattle.std.proofs.lemmas.List.Elements.{All-from_get_or}
use Rattle.std.proofs.lemmas.List.Folds.{list_any_none}
use Rattle.ee_flash.specs.Size.{Size}
use Rattle.ee_flash.specs.declared.word.Word.{Word}
use Rattle.ee_codec.specs.Reading.{mark_of, receive_of}
use Rattle.ee_pages.specs.Legal.{is_allowed}
use Rattle.ee_pages.specs.Page.{is_torn, word_in}
use Rattle.ee_pages.specs.Rescue.{bad_in_pages, count_below, fails_to_commit, is_bad, is_left_behind, named_generation}
use Rattle.ee_pages.specs.Sets.{front, is_mark, slots_of, word_of}

pub named_none : (pages : List (List Word))
    → ((k : ℕ) → k < length pages → receive_of (word_of pages k 0) ≡ None)
    → named_generation pages ≡ 1
named_none [] none = refl
named_none (words ∷ pages) none =
    rw (none 0 (omega arith)) (named_none pages (λ k h. none (suc k) (omega (arith, h))))

pub named_at : (pages : List (List Word)) (k generation : ℕ)
    → ((j : ℕ) → j < k → receive_of (word_of pages j 0) ≡ None)
    → receive_of (word_of pages k 0) ≡ Some generation → named_generation pages ≡ generation
named_at [] k generation none is = absurd (cc is)
named_at (words ∷ pages) zero generation none is = rw is refl
named_at (words ∷ pages) (suc k) generation none is =
    rw (none 0 (omega arith))
    (named_at pages k generation (λ j h. none (suc j) (omega (arith, h))) is)

pub none_left : (pages : List (List Word))
    → ((k : ℕ) → k < length pages → is_mark (mark_of (word_of pages k 3)) ≡ false)
    → is_left_behind pages ≡ false
none_left pages none =
    list_any_none (λ words. is_mark (mark_of (word_in words 3))) pages
    (All-from_get_or (λ words. is_mark (mark_of (word_in words 3)) ≡ false) pages [] none)

-- ---- how many words are bad

pub count_below-zero : (test : ℕ → Bool) → count_below test 0 ≡ 0
unfolding count_below
count_below-zero test = refl

count_below-suc : (test : ℕ → Bool) (number : ℕ)
    → count_below test (suc number) ≡ count_below test number + cond (test number) 1 0
unfolding count_below
count_below-suc test number = refl

count_below-next : (test : ℕ → Bool) (number : ℕ)
    → count_below test (number + 1) ≡ count_below test number + cond (test number) 1 0
count_below-next test number =
    let next : number + 1 ≡ suc number = omega arith in
    ap (count_below test) next ∙ count_below-suc test number

pub bad_in_pages-zero : (size : Size) (pages : List (List Word)) → bad_in_pages size pages 0 ≡ 0
unfolding bad_in_pages
bad_in_pages-zero size pages = refl

bad_in_pages-suc : (size : Size) (pages : List (List Word)) (page : ℕ)
    → bad_in_pages size pages (suc page)
    ≡ bad_in_pages size pages page + count_below (is_bad size pages page) size.words
unfolding bad_in_pages
bad_in_pages-suc size pages page = refl

bad_in_pages-next : (size : Size) (pages : List (List Word)) (page : ℕ)
    → bad_in_pages size pages (page + 1)
    ≡ bad_in_pages size pages page + count_below (is_bad size pages page) size.words
bad_in_pages-next size pages page =
    let next : page + 1 ≡ suc page = omega arith in
    ap (bad_in_pages size pages) next ∙ bad_in_pages-suc size pages page

-- the test of the code is that of the definition
pub bad_by : (shape size : Size) (pages : List (List Word)) (generation written page at : ℕ)
    (word : Word)
    → shape ≡ size → generation ≡ named_generation pages → written ≡ front (slots_of pages)
    → word ≡ word_of pages page at
    → (is_torn word || not (is_allowed shape generation written page at word) || fails_to_commit
    page at word)
    ≡ is_bad size pages page at
bad_by shape size pages generation written page at word same names front_is stands =
    rw (same, names, front_is, stands) refl

-- with one number more
pub count_more : (test : ℕ → Bool) (number bad : ℕ) (here : Bool) → here ≡ test number
    → bad ≡ count_below test number → bad ≤ number
    → (bad + cond here 1 0 ≡ count_below test (number + 1)) × (bad + cond here 1 0 ≤ number + 1)
count_more test number bad true is counted few = (
  omega (
    arith,
    counted,
    count_below-next test number ∙ ap (λ b. count_below test number + cond b 1 0) (sym is),
  ),
  omega (arith, few),
)
count_more test number bad false is counted few = (
  omega (
    arith,
    counted,
    count_below-next test number ∙ ap (λ b. count_below test number + cond b 1 0) (sym is),
  ),
  omega (arith, few),
)

-- with one page more
pub pages_more : (size : Size) (pages : List (List Word)) (page bad here : ℕ)
    → here ≡ count_below (is_bad size pages page) size.words → here ≤ size.words
    → bad ≡ bad_in_pages size pages page → bad ≤ page * size.words
    → (bad + here ≡ bad_in_pages size pages (page + 1)) × (bad + here ≤ (page + 1) * size.words)
pages_more size pages page bad here is few counted within = (
  omega
      (arith, is, counted, bad_in_pages-next size pages page),
  let e : (page + 1) * size.words ≡ page * size.words + size.words = omega arith in
      omega (arith, e, within, few),
)

-- ---- the slots before the first erased one

module _ {X : Type 0} (p : X → Bool) (d : X) where
  -- what passes up to an element that does not
  pub prefix_len_to : (xs : List X) (n : ℕ) → n < length xs
      → ((k : ℕ) → k < n → p (get_or xs k d) ≡ true) → p (get_or xs n d) ≡ false
      → prefix_len p xs ≡ n
  prefix_len_to xs n h each stops = elim (cases_order (prefix_len p xs) n) [
    | inl same ↦ same
    | inr (inl less) ↦ let e = each (prefix_len p xs) less in
        let f = prefix_len_stops p xs d (omega arith) in cc
    | inr (inr more) ↦ let e = prefix_len_passes p xs n d more in cc
  ]

  -- all pass
  pub prefix_len_of_all : (xs : List X) → ((k : ℕ) → k < length xs → p (get_or xs k d) ≡ true)
      → prefix_len p xs ≡ length xs
  prefix_len_of_all xs each = elim (cases_lt (prefix_len p xs) (length xs)) [
    | inl less ↦ let e = each (prefix_len p xs) less in
        let f = prefix_len_stops p xs d less in cc
    | inr end ↦ let most = prefix_len-le-length p xs in omega arith
  ]
