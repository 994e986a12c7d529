use Rattle.std.proofs.Common.{◌≡◌, ◌≢◌, ◌⊎◌, ◌<◌, ◌≤◌, ℕ, Option, inl, inr, ap, sym, ◌∙◌, subst, arith}
use Rattle.std.specs.Prelude.{unwrap_or}
use Rattle.ee_flash.specs.Size.{Size}
use Rattle.ee_nor.specs.Coded.Coded.{mark_value}
use Rattle.ee_nor.specs.Coded.EccNor.{ecc_at}
use Rattle.ee_nor.specs.Coded.Shapes.{mark_read, plain_mark}
use Rattle.ee_nor.proofs.CodedLemmas.Marks.{first_held, own_held, passed_over, plain_held, second_held, value_of_first}
use Rattle.ee_nor.proofs.coded.shapes.value_held.Goals as goal
use Rattle.ee_nor.proofs.coded.shapes.value_held.Goals.{else-named-eq0-via-then-named-eq0+else-second, else-named-eq0-via-else-named-eq0}

pub returns-then-named-own-clause-other : goal.returns-then-named-own-clause-other
returns-then-named-own-clause-other g c =
    let ecc = g.N.EccNor.ecc c.args.nor.now in
    let limits = (g.met.N.EccNor.formed c.args.nor.now).within_limits in
    let size : c.shape.result ≡ ecc.size = c.shape.ensures in
    let own : c.mark_value-own.result ≡ mark_value ecc.size =
    c.mark_value-own.ensures ∙ ap mark_value size in
    let pages : c.pages.result ≡ ecc.size.pages =
    c.pages.ensures.value ∙ ap (λ (of : Size). of.pages) c.shape-2.ensures in
    let first =
    value_of_first ecc 0 c.unwrap_or-first.result c.value_named-named.result c.read.result
    c.unwrap_or-first.ensures c.read.ensures c.value_named-named.ensures.found
    c.value_named-named.ensures.none in
    let second =
    value_of_first ecc ecc.size.pages c.unwrap_or-second.result c.value_named-named_second.result
    c.read-2.result c.unwrap_or-second.ensures
    (c.read-2.ensures ∙ ap (λ (page : ℕ). (ecc_at ecc page 1).reading) pages)
    c.value_named-named_second.ensures.found c.value_named-named_second.ensures.none in
    let held = first_held ecc limits c.value_named-named.result c.value_named-named_second.result
    first second c.if-named-gt0.true (λ same. c.if-named-own.true (same ∙ sym own)) in
    held.other

pub returns-then-named_second-gt0-clause-other : goal.returns-then-named_second-gt0-clause-other
returns-then-named_second-gt0-clause-other g c =
    let ecc = g.N.EccNor.ecc c.args.nor.now in
    let limits = (g.met.N.EccNor.formed c.args.nor.now).within_limits in
    let size : c.shape.result ≡ ecc.size = c.shape.ensures in
    let own : c.mark_value-own.result ≡ mark_value ecc.size =
    c.mark_value-own.ensures ∙ ap mark_value size in
    let pages : c.pages.result ≡ ecc.size.pages =
    c.pages.ensures.value ∙ ap (λ (of : Size). of.pages) c.shape-2.ensures in
    let first =
    value_of_first ecc 0 c.unwrap_or-first.result c.value_named-named.result c.read.result
    c.unwrap_or-first.ensures c.read.ensures c.value_named-named.ensures.found
    c.value_named-named.ensures.none in
    let second =
    value_of_first ecc ecc.size.pages c.unwrap_or-second.result c.value_named-named_second.result
    c.read-2.result c.unwrap_or-second.ensures
    (c.read-2.ensures ∙ ap (λ (page : ℕ). (ecc_at ecc page 1).reading) pages)
    c.value_named-named_second.ensures.found c.value_named-named_second.ensures.none in
    let before = passed_over c.value_named-named.result (mark_value ecc.size)
    (subst (λ (k : ℕ). ((0 < c.value_named-named.result) × (c.value_named-named.result ≡ k))
    ⊎ (c.value_named-named.result ≤ 0)) own c.else-named-gt0.either) in
    let held = second_held ecc limits c.value_named-named.result
    c.value_named-named_second.result first second c.if-named_second-gt0.true before in
    held.other

pub returns-then-named_second-gt0-clause-none : goal.returns-then-named_second-gt0-clause-none
returns-then-named_second-gt0-clause-none g c =
    let ecc = g.N.EccNor.ecc c.args.nor.now in
    let limits = (g.met.N.EccNor.formed c.args.nor.now).within_limits in
    let size : c.shape.result ≡ ecc.size = c.shape.ensures in
    let own : c.mark_value-own.result ≡ mark_value ecc.size =
    c.mark_value-own.ensures ∙ ap mark_value size in
    let pages : c.pages.result ≡ ecc.size.pages =
    c.pages.ensures.value ∙ ap (λ (of : Size). of.pages) c.shape-2.ensures in
    let first =
    value_of_first ecc 0 c.unwrap_or-first.result c.value_named-named.result c.read.result
    c.unwrap_or-first.ensures c.read.ensures c.value_named-named.ensures.found
    c.value_named-named.ensures.none in
    let second =
    value_of_first ecc ecc.size.pages c.unwrap_or-second.result c.value_named-named_second.result
    c.read-2.result c.unwrap_or-second.ensures
    (c.read-2.ensures ∙ ap (λ (page : ℕ). (ecc_at ecc page 1).reading) pages)
    c.value_named-named_second.ensures.found c.value_named-named_second.ensures.none in
    let before = passed_over c.value_named-named.result (mark_value ecc.size)
    (subst (λ (k : ℕ). ((0 < c.value_named-named.result) × (c.value_named-named.result ≡ k))
    ⊎ (c.value_named-named.result ≤ 0)) own c.else-named-gt0.either) in
    let held = second_held ecc limits c.value_named-named.result
    c.value_named-named_second.result first second c.if-named_second-gt0.true before in
    held.none

pub returns-then-second-clause-other : goal.returns-then-second-clause-other
returns-then-second-clause-other g c =
    let ecc = g.N.EccNor.ecc c.args.nor.now in
    let limits = (g.met.N.EccNor.formed c.args.nor.now).within_limits in
    let size : c.shape.result ≡ ecc.size = c.shape.ensures in
    let own : c.mark_value-own.result ≡ mark_value ecc.size =
    c.mark_value-own.ensures ∙ ap mark_value size in
    let pages : c.pages.result ≡ ecc.size.pages =
    c.pages.ensures.value ∙ ap (λ (of : Size). of.pages) c.shape-2.ensures in
    let first =
    value_of_first ecc 0 c.unwrap_or-first.result c.value_named-named.result c.read.result
    c.unwrap_or-first.ensures c.read.ensures c.value_named-named.ensures.found
    c.value_named-named.ensures.none in
    let second =
    value_of_first ecc ecc.size.pages c.unwrap_or-second.result c.value_named-named_second.result
    c.read-2.result c.unwrap_or-second.ensures
    (c.read-2.ensures ∙ ap (λ (page : ℕ). (ecc_at ecc page 1).reading) pages)
    c.value_named-named_second.ensures.found c.value_named-named_second.ensures.none in
    let is : c.unwrap_or-first.result ≡ mark_read ecc 0 =
    c.unwrap_or-first.ensures ∙ ap (λ (read : Option ℕ). unwrap_or read 0) c.read.ensures in
    let is_second : c.unwrap_or-second.result ≡ mark_read ecc ecc.size.pages =
    c.unwrap_or-second.ensures ∙ ap (λ (read : Option ℕ). unwrap_or read 0)
    (c.read-2.ensures ∙ ap (λ (page : ℕ). (ecc_at ecc page 1).reading) pages) in
    let plain : (mark_read ecc 0 ≡ plain_mark) ⊎ (mark_read ecc ecc.size.pages ≡ plain_mark) =
    elim c.if-second.either [
      | inl same ↦ inl (sym is ∙ same)
      | inr other ↦ inr (sym is_second ∙ other.1)
    ] in
    let held = plain_held ecc limits c.value_named-named.result
    c.value_named-named_second.result first second c.if-named-eq0.true
    (omega (arith, c.if-named_second-gt0.false)) plain in
    held.other

pub returns-else-named-eq0-clause-none : goal.returns-else-named-eq0-clause-none
returns-else-named-eq0-clause-none g c =
    let ecc = g.N.EccNor.ecc c.args.nor.now in
    let limits = (g.met.N.EccNor.formed c.args.nor.now).within_limits in
    let size : c.shape.result ≡ ecc.size = c.shape.ensures in
    let own : c.mark_value-own.result ≡ mark_value ecc.size =
    c.mark_value-own.ensures ∙ ap mark_value size in
    let pages : c.pages.result ≡ ecc.size.pages =
    c.pages.ensures.value ∙ ap (λ (of : Size). of.pages) c.shape-2.ensures in
    let first =
    value_of_first ecc 0 c.unwrap_or-first.result c.value_named-named.result c.read.result
    c.unwrap_or-first.ensures c.read.ensures c.value_named-named.ensures.found
    c.value_named-named.ensures.none in
    let second =
    value_of_first ecc ecc.size.pages c.unwrap_or-second.result c.value_named-named_second.result
    c.read-2.result c.unwrap_or-second.ensures
    (c.read-2.ensures ∙ ap (λ (page : ℕ). (ecc_at ecc page 1).reading) pages)
    c.value_named-named_second.ensures.found c.value_named-named_second.ensures.none in
    let before = passed_over c.value_named-named.result (mark_value ecc.size)
    (subst (λ (k : ℕ). ((0 < c.value_named-named.result) × (c.value_named-named.result ≡ k))
    ⊎ (c.value_named-named.result ≤ 0)) own c.else-named-gt0.either) in
    let is : c.unwrap_or-first.result ≡ mark_read ecc 0 =
    c.unwrap_or-first.ensures ∙ ap (λ (read : Option ℕ). unwrap_or read 0) c.read.ensures in
    let is_second : c.unwrap_or-second.result ≡ mark_read ecc ecc.size.pages =
    c.unwrap_or-second.ensures ∙ ap (λ (read : Option ℕ). unwrap_or read 0)
    (c.read-2.ensures ∙ ap (λ (page : ℕ). (ecc_at ecc page 1).reading) pages) in
    let no_plain : c.value_named-named.result ≡ 0
    → (mark_read ecc 0 ≢ plain_mark) × (mark_read ecc ecc.size.pages ≢ plain_mark) = λ none.
    elim c.else-named-eq0.branch [
      | else-named-eq0-via-then-named-eq0+else-second w ↦ (
        λ same. w.if-second.false.0 (is ∙ same),
        λ same. w.if-second.false.1 (is_second ∙ same),
      )
      | else-named-eq0-via-else-named-eq0 w ↦ absurd (w.if-named-eq0.false none)
    ] in
    let held = own_held ecc limits c.value_named-named.result
    c.value_named-named_second.result first second c.mark_value-own.result own before
    (omega (arith, c.if-named_second-gt0.false)) no_plain in
    held.none
