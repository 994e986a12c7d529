-- What is read and written in pieces, as a whole.
use Rattle.std.proofs.Common.{◌≡◌, ℕ, ◌+◌, ◌-◌, ◌<◌, ◌++◌, List, [], length, take, drop, sym, ◌∙◌, ap, subst, arith, length-append, length-drop, Some, None}
use Rattle.std.specs.Prelude.{Option, IfSome}
use Rattle.std.proofs.Math.Seq.{take-add}
use Rattle.std.proofs.lemmas.List.{append-nil, take_all}
use Rattle.std.specs.Io.KnownBytes.{Appends, Consumes, IsAtEnd, Keeps}
use Rattle.std.proofs.KnownBytes.{Appends-trans, Consumes-kept, Consumes-trans, Consumes-whole}

-- a front grows by the front of what follows it
pub front_grows : (bytes : List ℕ) (written count : ℕ)
    → take written bytes ++ take count (take (length bytes - written) (drop written bytes))
    ≡ take (written + count) bytes
front_grows bytes written count =
    ap (λ rest. take written bytes ++ take count rest)
    (take_all (length bytes - written) (drop written bytes)
    (omega (arith, length-drop written bytes)))
    ∙ sym (take-add written count bytes)

pub wrote_more : (first mid last : Option (List ℕ)) (bytes : List ℕ) (written count : ℕ)
    → Appends first mid (take written bytes)
    → Appends mid last (take count (take (length bytes - written) (drop written bytes)))
    → Appends first last (take (written + count) bytes)
wrote_more first mid last bytes written count front more =
    subst (Appends first last) (front_grows bytes written count)
    (Appends-trans first mid last _ _ front more)

-- the end came: what was read is all there was
pub read_all : (first mid last : Option (List ℕ)) (bytes nothing : List ℕ)
    → Consumes first mid bytes → Consumes mid last nothing → nothing ≡ [] → IsAtEnd last
    → IfSome first (λ all. bytes ≡ all)
read_all first mid last bytes nothing taken more none end =
    Consumes-whole first last (bytes ++ nothing) (λ all. bytes ≡ all)
    (Consumes-trans first mid last bytes nothing taken more) end
    (sym (ap (λ l. bytes ++ l) none ∙ append-nil bytes))

longer : (first last : Option (List ℕ)) (bytes : List ℕ) (n : ℕ) → Consumes first last bytes
    → n < length bytes → IfSome first (λ all. n < length all)
longer None last bytes n taken h = tt
longer (Some all) None bytes n taken h = absurd taken
longer (Some all) (Some rest) bytes n taken h =
    omega (arith, ap length taken, length-append bytes rest)

-- more was read than n bytes
pub read_too_long : (first mid last : Option (List ℕ)) (bytes more : List ℕ) (n : ℕ)
    → Consumes first mid bytes → Consumes mid last more → n < length bytes + length more
    → IfSome first (λ all. n < length all)
read_too_long first mid last bytes more n taken again h =
    longer first last (bytes ++ more) n (Consumes-trans first mid last bytes more taken again)
    (omega (arith, length-append bytes more))

pub took_more : (first mid last : Option (List ℕ)) (old more new : List ℕ) → Consumes first mid old
    → Consumes mid last more → new ≡ old ++ more → Consumes first last new
took_more first mid last old more new taken again is =
    subst (Consumes first last) (sym is) (Consumes-trans first mid last old more taken again)

pub took_none : (first mid last : Option (List ℕ)) (old new : List ℕ) → Consumes first mid old
    → Keeps mid last → new ≡ old → Consumes first last new
took_none first mid last old new taken kept is =
    subst (Consumes first last) (sym is) (Consumes-kept first mid last old taken kept)
