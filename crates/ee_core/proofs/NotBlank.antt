-- The pages of a list that are not blank, by their numbers.
use Rattle.ee_core.proofs.Words.{◌≡◌, ℕ, ◌+◌, ◌<◌, ◌≤◌, ◌++◌, ◌≢◌, Bool, true, false, cond, not, List, [], ◌∷◌, length, take, drop, get_or, set, refl, sym, ap, ◌∙◌, arith, zero, suc, eq-eqb, ne_eqb, length-take-le, take-append-drop, take_more, rules}
use Rattle.ee_core.proofs.Sets.{Word, is_blank, pending_of}
use Rattle.ee_core.proofs.Calls.{not_blank_from}
use Rattle.ee_core.proofs.Wears.{times}

-- the number of a page, if it is not blank
abbrev pub named : ℕ → List Word → List ℕ
named number page = cond (is_blank page) [] (number ∷ [])

chosen : (blank : Bool) (number : ℕ) (all xs ys : List ℕ) → all ≡ xs ++ ys
    → cond blank all (number ∷ all) ≡ cond blank xs (number ∷ xs) ++ ys
chosen true _ _ _ _ e = e
chosen false number _ _ _ e = ap (λ list. number ∷ list) e

not_blank-append : (xs ys : List (List Word)) (number : ℕ)
    → not_blank_from number (xs ++ ys)
    ≡ not_blank_from number xs ++ not_blank_from (number + length xs) ys
not_blank-append [] ys number =
    ap (λ n. not_blank_from n ys) (omega arith)
not_blank-append (page ∷ xs) ys number =
    chosen (is_blank page) number _ _ _
    (not_blank-append xs ys (number + 1)
    ∙ ap (λ n. not_blank_from (number + 1) xs ++ not_blank_from n ys) (omega arith))

-- one page more
pub not_blank_more : (pages : List (List Word)) (number k : ℕ) → k < length pages
    → not_blank_from number (take (k + 1) pages)
    ≡ not_blank_from number (take k pages) ++ named (number + k) (get_or pages k [])
not_blank_more pages number k h =
    ap (not_blank_from number) (take_more _ k [] h)
    ∙ not_blank-append (take k pages) (get_or pages k [] ∷ []) number
    ∙ ap (λ n. not_blank_from number (take k pages) ++ named n (get_or pages k []))
    (omega (arith, length-take-le k pages (omega arith)))

-- those behind it
pub not_blank_rest : (pages : List (List Word)) (number k : ℕ) → k < length pages
    → not_blank_from number pages
    ≡ (not_blank_from number (take k pages) ++ named (number + k) (get_or pages k []))
    ++ not_blank_from (number + (k + 1)) (drop (k + 1) pages)
not_blank_rest pages number k h =
    ap (not_blank_from number) (sym (take-append-drop (k + 1) pages))
    ∙ not_blank-append (take (k + 1) pages) (drop (k + 1) pages) number
    ∙ ap (λ n. not_blank_from number (take (k + 1) pages) ++ not_blank_from n (drop (k + 1) pages))
    (omega (arith, length-take-le (k + 1) pages (omega arith)))
    ∙ ap (λ list. list ++ not_blank_from (number + (k + 1)) (drop (k + 1) pages))
    (not_blank_more pages number k h)

-- they are as many as there are
counted : (blank : Bool) (number : ℕ) (numbers : List ℕ) (page : List Word)
    (pages : List (List Word))
    → length numbers ≡ length pages
    → length (cond blank numbers (number ∷ numbers))
    ≡ length (cond (not blank) (page ∷ pages) pages)
counted true _ _ _ _ e = e
counted false _ _ _ _ e = omega arith

pub length-not_blank : (pages : List (List Word)) (number : ℕ)
    → length (not_blank_from number pages) ≡ pending_of pages
length-not_blank [] _ = refl
length-not_blank (page ∷ pages) number =
    counted (is_blank page) number _ page _ (length-not_blank pages (number + 1))

-- ---- which they are

named_before : (blank : Bool) (number page : ℕ) (numbers : List ℕ) → page ≢ number
    → times page (cond blank numbers (number ∷ numbers)) ≡ times page numbers
named_before true _ _ _ _ = refl
named_before false number page _ apart =
    rw (ne_eqb number page (λ same. apart (sym same))) (omega arith)

-- none below the first
pub times_below : (pages : List (List Word)) (number page : ℕ) → page < number
    → times page (not_blank_from number pages) ≡ 0
times_below [] _ _ h = refl
times_below (words ∷ pages) number page h =
    named_before (is_blank words) number page _ (λ same. omega arith)
    ∙ times_below pages (number + 1) page (omega arith)

-- none past the last
pub times_past : (pages : List (List Word)) (number page : ℕ) → number + length pages ≤ page
    → times page (not_blank_from number pages) ≡ 0
times_past [] _ _ h = refl
times_past (words ∷ pages) number page h =
    named_before (is_blank words) number page _ (λ same. omega arith)
    ∙ times_past pages (number + 1) page (omega arith)

named_once : (blank : Bool) (number : ℕ) (numbers : List ℕ) → times number numbers ≡ 0
    → times number (cond blank numbers (number ∷ numbers)) ≡ cond blank 0 1
named_once true _ _ e = e
named_once false number _ e = rw (eq-eqb number number refl) (omega arith)

-- each once, if it is not blank
pub times_here : (pages : List (List Word)) (number k : ℕ)
    → times (number + k) (not_blank_from number pages) ≡ cond (is_blank (get_or pages k [])) 0 1
times_here [] _ k = refl
times_here (words ∷ pages) number zero =
    let e : number + 0 ≡ number = omega arith in
    search (rules, named_once, times_below)
times_here (words ∷ pages) number (suc k) =
    named_before (is_blank words) number (number + suc k) _ (λ same. omega arith)
    ∙ ap (λ n. times n (not_blank_from (number + 1) pages)) (omega arith)
    ∙ times_here pages (number + 1) k

-- ---- one page changed

shown : (blank was : Bool) (number : ℕ) (numbers old : List ℕ) → blank ≡ was → numbers ≡ old
    → cond blank numbers (number ∷ numbers) ≡ cond was old (number ∷ old)
shown _ was number numbers _ e same = search rules

-- from blank to blank, or between others
pub not_blank_same : (pages : List (List Word)) (number k : ℕ) (words : List Word)
    → is_blank words ≡ is_blank (get_or pages k [])
    → not_blank_from number (set pages k words) ≡ not_blank_from number pages
not_blank_same [] _ k _ e = refl
not_blank_same (page ∷ _) number zero words e =
    shown (is_blank words) (is_blank page) number _ _ e refl
not_blank_same (page ∷ pages) number (suc k) words e =
    shown (is_blank page) (is_blank page) number _ _ refl
    (not_blank_same pages (number + 1) k words e)

-- the first that is not blank becomes blank
pub first_blank : (pages : List (List Word)) (number k : ℕ) (words : List Word) → k < length pages
    → ((j : ℕ) → j < k → is_blank (get_or pages j []) ≡ true) → is_blank (get_or pages k []) ≡ false
    → is_blank words ≡ true
    → not_blank_from number pages ≡ (number + k) ∷ not_blank_from number (set pages k words)
first_blank [] _ k _ h _ _ _ = absurd (omega arith)
first_blank (page ∷ pages) number zero _ h _ written blank =
    rw (written, blank) (ap (λ n. n ∷ not_blank_from (number + 1) pages) (omega arith))
first_blank (page ∷ pages) number (suc k) words h lower written blank =
    rw (lower zero (omega arith))
    (first_blank pages (number + 1) k words (omega arith)
    (λ j below. lower (suc j) (omega arith)) written blank
    ∙ ap (λ n. n ∷ not_blank_from (number + 1) (set pages k words)) (omega arith))
