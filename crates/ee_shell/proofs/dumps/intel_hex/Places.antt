-- The places of a part, as far as they were read: each has the byte that was said of it.
use Rattle.std.proofs.Common.{◌≡◌, ◌⊎◌, ℕ, ◌+◌, ◌-◌, ◌<◌, ◌≤◌, Bool, true, false, cond, List, [], ◌∷◌, ◌++◌, length, drop, get_or, set, refl, sym, ap, ◌∙◌, subst, arith, append_assoc, inl, inr, Option, Some, None, get_or-set_same, get_or-set_other, rules}
use Rattle.std.proofs.lemmas.Grind.{common_steps}
use Rattle.std.specs.Prelude.{◌==◌, replicate}
use Rattle.std.specs.Bool.{OnFalse, OnTrue}
use Rattle.std.specs.Option.{unwrap_or}
use Rattle.std.proofs.lemmas.Bool.{eq-eqb, eqb-true, cases_eq, cases_lt, le-leb, lt-leb, lt-ltb, le-ltb}
use Rattle.std.proofs.lemmas.List.{append-nil, drop_all, drop_more, length-set, length-replicate, length-map, get_or-replicate, get_or-map, ext_get_or}
use Rattle.std.proofs.lemmas.Option.{cond_some, none-some, same_Some, option_and_then_some}
use Rattle.ee_shell.specs.Dumps.intel_hex.Text.{AgreeWithin, IsByteAt, Says, numbered_bytes}
use Rattle.ee_shell.specs.Dumps.intel_hex.Reading.{bytes_of, put, put_all, put_at}

pub Says-left : (xs ys : List (ℕ × ℕ)) (place byte : ℕ) → Says xs place byte
    → Says (xs ++ ys) place byte
Says-left [] ys place byte h = absurd h
Says-left (x ∷ xs) ys place byte (inl here) = inl here
Says-left (x ∷ xs) ys place byte (inr there) = inr (Says-left xs ys place byte there)

pub Says-right : (xs ys : List (ℕ × ℕ)) (place byte : ℕ) → Says ys place byte
    → Says (xs ++ ys) place byte
Says-right [] ys place byte h = h
Says-right (x ∷ xs) ys place byte h = inr (Says-right xs ys place byte h)

pub Says-parts : (xs ys : List (ℕ × ℕ)) (place byte : ℕ) → Says (xs ++ ys) place byte
    → Says xs place byte ⊎ Says ys place byte
Says-parts [] ys place byte h = inr h
Says-parts (x ∷ xs) ys place byte (inl here) = inl (inl here)
Says-parts (x ∷ xs) ys place byte (inr there) =
    elim (Says-parts xs ys place byte there) [ inl a ↦ inl (inr a) | inr b ↦ inr b ]

-- each place of the part has the byte that is said of it, and no other has one
pub record Keeps (base : ℕ) (pairs : List (ℕ × ℕ)) (cells : List (Option ℕ)) : Type 0 where
  pub told : (i byte : ℕ) → i < length cells → get_or cells i None ≡ Some byte
      → Says pairs (base + i) byte
  pub kept : (i byte : ℕ) → i < length cells → Says pairs (base + i) byte
      → get_or cells i None ≡ Some byte

-- before the first byte
pub nothing_kept : (base size : ℕ) → Keeps base [] (replicate size None)
nothing_kept base size = search (rules, get_or-replicate, length-replicate, none-some)

-- more of a place
pub record Kept (base : ℕ) (pairs : List (ℕ × ℕ)) (cells new : List (Option ℕ)) : Type 0 where
  pub keeps : Keeps base pairs new
  pub as_long : length new ≡ length cells

pub some_none : {A : Type 0} (x : A) → Some x ≡ None → ⊥
some_none x e = cc e

put_outside : (base place byte : ℕ) (cells : List (Option ℕ))
    → (place < base) ⊎ (base + length cells ≤ place) → put base place byte cells ≡ Some cells
unfolding put
put_outside base place byte cells (inl low) = rw (lt-leb base place low) refl
put_outside base place byte cells (inr high) = search (rules, le-leb, le-ltb)

put_inside : (base place byte : ℕ) (cells : List (Option ℕ)) → base ≤ place
    → place < base + length cells
    → put base place byte cells
    ≡ put_at (place - base) byte cells (get_or cells (place - base) None)
unfolding put
put_inside base place byte cells low high =
    rw (le-leb base place low, lt-ltb place (base + length cells) high) refl

pub put_below : (base place byte : ℕ) (cells : List (Option ℕ)) → place < base
    → put base place byte cells ≡ Some cells
put_below base place byte cells low = put_outside base place byte cells (inl low)

pub put_above : (base place byte at : ℕ) (cells : List (Option ℕ)) → base ≤ place
    → at ≡ place - base → length cells ≤ at → put base place byte cells ≡ Some cells
put_above base place byte at cells above at_is past =
    put_outside base place byte cells (inr (omega arith))

pub put_new : (base place byte at : ℕ) (cells : List (Option ℕ)) → base ≤ place → at ≡ place - base
    → at < length cells → None ≡ get_or cells at None
    → put base place byte cells ≡ Some (set cells at (Some byte))
put_new base place byte at cells above at_is within none = search (rules, put_inside)

put_given : (base place byte at given : ℕ) (cells : List (Option ℕ)) → base ≤ place
    → at ≡ place - base → at < length cells → Some given ≡ get_or cells at None
    → put base place byte cells ≡ cond (given == byte) (Some cells) None
put_given base place byte at given cells above at_is within has = search (rules, put_inside)

on_true : (b : Bool) (o : Option (List (Option ℕ))) (cells : List (Option ℕ))
    → o ≡ cond b (Some cells) None → OnTrue b (o ≡ Some cells)
on_true true o cells e = e
on_true false o cells e = tt

on_false : (b : Bool) (o : Option (List (Option ℕ))) (cells : List (Option ℕ))
    → o ≡ cond b (Some cells) None → OnFalse b (o ≡ None)
on_false true o cells e = tt
on_false false o cells e = e

pub put_taken : (base place byte at given : ℕ) (cells : List (Option ℕ)) → base ≤ place
    → at ≡ place - base → at < length cells → Some given ≡ get_or cells at None
    → OnTrue (given == byte) (put base place byte cells ≡ Some cells)
put_taken base place byte at given cells above at_is within has =
    on_true (given == byte) (put base place byte cells) cells
    (put_given base place byte at given cells above at_is within has)

pub put_not_taken : (base place byte at given : ℕ) (cells : List (Option ℕ)) → base ≤ place
    → at ≡ place - base → at < length cells → Some given ≡ get_or cells at None
    → OnFalse (given == byte) (put base place byte cells ≡ None)
put_not_taken base place byte at given cells above at_is within has =
    on_false (given == byte) (put base place byte cells) cells
    (put_given base place byte at given cells above at_is within has)

-- in the part or not
where_is : (base place count : ℕ)
    → ((place < base) ⊎ (base + count ≤ place)) ⊎ ((base ≤ place) × (place < base + count))
where_is base place count = search (rules, cases_lt)

-- a pair that stands at no place of the part
kept_outside : (base place byte : ℕ) (pairs : List (ℕ × ℕ)) (cells : List (Option ℕ))
    → Keeps base pairs cells → (place < base) ⊎ (base + length cells ≤ place)
    → Keeps base (pairs ++ (place, byte) ∷ []) cells
kept_outside base place byte pairs cells keeps outside = search (rules, Says-left, Says-parts)

-- a byte that comes to a place that has none
kept_new : (base at byte : ℕ) (pairs : List (ℕ × ℕ)) (cells : List (Option ℕ))
    → Keeps base pairs cells → at < length cells → get_or cells at None ≡ None
    → Keeps base (pairs ++ (base + at, byte) ∷ []) (set cells at (Some byte))
kept_new base at byte pairs cells keeps within empty = search (
  rules,
  Says-left,
  Says-parts,
  Says-right,
  cases_eq,
  get_or-set_other,
  get_or-set_same,
  length-set,
  none-some,
  same_Some,
)

-- and one that comes to a place that has it
kept_same : (base at byte : ℕ) (pairs : List (ℕ × ℕ)) (cells : List (Option ℕ))
    → Keeps base pairs cells → at < length cells → get_or cells at None ≡ Some byte
    → Keeps base (pairs ++ (base + at, byte) ∷ []) cells
kept_same base at byte pairs cells keeps within given = search (rules, Says-left, Says-parts)

kept_inside : (base at byte : ℕ) (pairs : List (ℕ × ℕ)) (cells new : List (Option ℕ))
    (given : Option ℕ)
    → Keeps base pairs cells → at < length cells → get_or cells at None ≡ given
    → put_at at byte cells given ≡ Some new → Kept base (pairs ++ (base + at, byte) ∷ []) cells new
kept_inside base at byte pairs cells new None keeps within empty e =
    grind (arith, common_steps, kept_new, length-set, same_Some)
kept_inside base at byte pairs cells new (Some given) keeps within has e =
    grind (arith, common_steps, cond_some, eqb-true, kept_same)

put_kept : (base place byte : ℕ) (pairs : List (ℕ × ℕ)) (cells new : List (Option ℕ))
    → Keeps base pairs cells → put base place byte cells ≡ Some new
    → Kept base (pairs ++ (place, byte) ∷ []) cells new
put_kept base place byte pairs cells new keeps e = elim (where_is base place (length cells)) [
  | inl outside ↦
      let is : cells ≡ new =
      same_Some cells new (sym (put_outside base place byte cells outside) ∙ e) in
      record {
        keeps =
            subst (Keeps base (pairs ++ (place, byte) ∷ [])) is
            (kept_outside base place byte pairs cells keeps outside);
        as_long = ap length (sym is);
      }
  | inr inside ↦
      let low = inside.0 in
      let high = inside.1 in
      let place_is : base + (place - base) ≡ place = omega arith in
      subst (λ p. Kept base (pairs ++ (p, byte) ∷ []) cells new) place_is
      (kept_inside base (place - base) byte pairs cells new (get_or cells (place - base) None) keeps
      (omega arith) refl (sym (put_inside base place byte cells low high) ∙ e))
]

refused_inside : (base at byte : ℕ) (pairs more : List (ℕ × ℕ)) (cells : List (Option ℕ))
    (given : Option ℕ)
    → Keeps base pairs cells → at < length cells → get_or cells at None ≡ given
    → put_at at byte cells given ≡ None
    → AgreeWithin base (length cells) (pairs ++ (base + at, byte) ∷ more) → ⊥
refused_inside base at byte pairs more cells None keeps within empty e agree =
    some_none (set cells at (Some byte)) e
refused_inside base at byte pairs more cells (Some given) keeps within has e agree =
    let first =
    Says-left pairs ((base + at, byte) ∷ more) (base + at) given
    (keeps.told at given within has) in
    let second = Says-right pairs ((base + at, byte) ∷ more) (base + at) byte (inl (refl, refl)) in
    let same : given ≡ byte =
    agree (base + at) given byte (omega arith) (omega arith) first second in
    let h : Some cells ≡ None = rw (eq-eqb given byte same) at e in
    some_none cells h

put_refused : (base place byte : ℕ) (pairs more : List (ℕ × ℕ)) (cells : List (Option ℕ))
    → Keeps base pairs cells → put base place byte cells ≡ None
    → AgreeWithin base (length cells) (pairs ++ (place, byte) ∷ more) → ⊥
put_refused base place byte pairs more cells keeps e agree =
    elim (where_is base place (length cells)) [
      | inl outside ↦ some_none cells (sym (put_outside base place byte cells outside) ∙ e)
      | inr inside ↦
          let low = inside.0 in
          let high = inside.1 in
          let place_is : base + (place - base) ≡ place = omega arith in
          refused_inside base (place - base) byte pairs more cells
          (get_or cells (place - base) None)
          keeps (omega arith) refl (sym (put_inside base place byte cells low high) ∙ e)
          (subst (λ p. AgreeWithin base (length cells) (pairs ++ (p, byte) ∷ more)) (sym place_is)
          agree)
    ]

-- bytes one after another
pub all_kept : (base : ℕ) (more pairs : List (ℕ × ℕ)) (cells new : List (Option ℕ))
    → Keeps base pairs cells → put_all base more cells ≡ Some new
    → Kept base (pairs ++ more) cells new
all_kept base [] pairs cells new keeps e = search (rules, append-nil, same_Some)
all_kept base (pair ∷ more) pairs cells new keeps e =
    option_and_then_some (put_all base more) (put base pair.0 pair.1 cells) new e (λ mid first rest.
    let one = put_kept base pair.0 pair.1 pairs cells mid keeps first in
    let others = all_kept base more (pairs ++ pair ∷ []) mid new one.keeps rest in
    record {
      keeps =
          subst (λ l. Keeps base l new) (append_assoc pairs (pair ∷ []) more) others.keeps;
      as_long = others.as_long ∙ one.as_long;
    })

pub cases_option : {A : Type 0} (o : Option A) → (o ≡ None) ⊎ ((x : A) × (o ≡ Some x))
cases_option None = inl refl
cases_option (Some x) = inr (x, refl)

pub all_refused : (base : ℕ) (more pairs : List (ℕ × ℕ)) (cells : List (Option ℕ))
    → Keeps base pairs cells → put_all base more cells ≡ None
    → AgreeWithin base (length cells) (pairs ++ more) → ⊥
all_refused base [] pairs cells keeps e agree = some_none cells e
all_refused base (pair ∷ more) pairs cells keeps e agree =
    elim (cases_option (put base pair.0 pair.1 cells)) [
      | inl none ↦ put_refused base pair.0 pair.1 pairs more cells keeps none agree
      | inr some ↦
          let one = put_kept base pair.0 pair.1 pairs cells some.0 keeps some.1 in
          let rest : put_all base more some.0 ≡ None = rw some.1 at e in
          all_refused base more (pairs ++ pair ∷ []) some.0 one.keeps rest
          (subst (λ n. AgreeWithin base n ((pairs ++ pair ∷ []) ++ more)) (sym one.as_long)
          (subst (AgreeWithin base (length cells)) (sym (append_assoc pairs (pair ∷ []) more))
          agree))
    ]

-- what agrees
pub agree_front : (base size : ℕ) (xs ys : List (ℕ × ℕ)) → AgreeWithin base size (xs ++ ys)
    → AgreeWithin base size xs
agree_front base size xs ys agree =
    λ place byte other low high first second. agree place byte other low high
    (Says-left xs ys place byte first) (Says-left xs ys place other second)

pub kept_agrees : (base : ℕ) (pairs : List (ℕ × ℕ)) (cells : List (Option ℕ))
    → Keeps base pairs cells → AgreeWithin base (length cells) pairs
kept_agrees base pairs cells keeps = λ place byte other low high first second.
    let at : base + (place - base) ≡ place = omega arith in
    let within : place - base < length cells = omega arith in
    same_Some byte other
    (sym (keeps.kept (place - base) byte within (subst (λ p. Says pairs p byte) (sym at) first))
    ∙ keeps.kept (place - base) other within
    (subst (λ p. Says pairs p other) (sym at) second))

-- ---- the bytes in the end

byte_is : (base i : ℕ) (pairs : List (ℕ × ℕ)) (cells : List (Option ℕ)) (given : Option ℕ)
    → Keeps base pairs cells → i < length cells → get_or cells i None ≡ given
    → IsByteAt pairs (base + i) (unwrap_or given 255)
byte_is base i pairs cells None keeps within e =
    inr (λ other says. none-some other (sym e ∙ keeps.kept i other within says), refl)
byte_is base i pairs cells (Some byte) keeps within e = inl (keeps.told i byte within e)

byte_of : (i : ℕ) (cells : List (Option ℕ)) → i < length cells
    → get_or (bytes_of cells) i 0 ≡ unwrap_or (get_or cells i None) 255
byte_of i cells within = get_or-map (λ (cell : Option ℕ). unwrap_or cell 255) cells i None 0 within

pub bytes_kept : (base i : ℕ) (pairs : List (ℕ × ℕ)) (cells : List (Option ℕ))
    → Keeps base pairs cells → i < length cells
    → IsByteAt pairs (base + i) (get_or (bytes_of cells) i 0)
bytes_kept base i pairs cells keeps within =
    subst (IsByteAt pairs (base + i)) (sym (byte_of i cells within))
    (byte_is base i pairs cells (get_or cells i None) keeps within refl)

one_byte : (base i byte : ℕ) (pairs : List (ℕ × ℕ)) (cells : List (Option ℕ)) (given : Option ℕ)
    → Keeps base pairs cells → i < length cells → get_or cells i None ≡ given
    → IsByteAt pairs (base + i) byte → byte ≡ unwrap_or given 255
one_byte base i byte pairs cells None keeps within e (inl says) =
    absurd (none-some byte (sym e ∙ keeps.kept i byte within says))
one_byte base i byte pairs cells None keeps within e (inr none) = none.1
one_byte base i byte pairs cells (Some given) keeps within e (inl says) =
    same_Some byte given (sym (keeps.kept i byte within says) ∙ e)
one_byte base i byte pairs cells (Some given) keeps within e (inr none) =
    absurd (none.0 given (keeps.told i given within e))

pub bytes_told : (base : ℕ) (bytes : List ℕ) (pairs : List (ℕ × ℕ)) (cells : List (Option ℕ))
    → Keeps base pairs cells → length bytes ≡ length cells
    → ((i : ℕ) → i < length cells → IsByteAt pairs (base + i) (get_or bytes i 0))
    → bytes ≡ bytes_of cells
bytes_told base bytes pairs cells keeps as_long are =
    ext_get_or 0 bytes (bytes_of cells)
    (as_long ∙ sym (length-map cells (λ (cell : Option ℕ). unwrap_or cell 255))) (λ i less.
    let within : i < length cells = omega arith in
    one_byte base i (get_or bytes i 0) pairs cells (get_or cells i None) keeps within refl
    (are i within)
    ∙ sym (byte_of i cells within))

-- ---- bytes one after another, from a place on

-- what all bytes come to, from what the bytes that are left do: one more was put
pub byte_put : (base same place here i byte : ℕ) (bytes : List ℕ) (cells mid : List (Option ℕ))
    (total : Option (List (Option ℕ)))
    → put_all base (numbered_bytes (place + i) (drop i bytes)) cells ≡ total → i < length bytes
    → byte ≡ get_or bytes i 0 → put same here byte cells ≡ Some mid → here ≡ place + i → same ≡ base
    → put_all base (numbered_bytes (place + (i + 1)) (drop (i + 1) bytes)) mid ≡ total
byte_put base same place here i byte bytes cells mid total left less byte_is one here_is same_is =
    search (rules, byte_is, drop_more)

pub byte_refused : (base same place here i byte : ℕ) (bytes : List ℕ) (cells : List (Option ℕ))
    (total : Option (List (Option ℕ)))
    → put_all base (numbered_bytes (place + i) (drop i bytes)) cells ≡ total → i < length bytes
    → byte ≡ get_or bytes i 0 → put same here byte cells ≡ None → here ≡ place + i → same ≡ base
    → total ≡ None
byte_refused base same place here i byte bytes cells total left less byte_is one here_is same_is =
    search (rules, byte_is, drop_more)

pub bytes_put : (base place i : ℕ) (bytes : List ℕ) (cells : List (Option ℕ))
    (total : Option (List (Option ℕ)))
    → put_all base (numbered_bytes (place + i) (drop i bytes)) cells ≡ total → length bytes ≤ i
    → total ≡ Some cells
bytes_put base place i bytes cells total left all =
    sym left ∙ ap (λ l. put_all base (numbered_bytes (place + i) l) cells) (drop_all i bytes all)

pub ruleset putting = (byte_put, byte_refused, bytes_put)
