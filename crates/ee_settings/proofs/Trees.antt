-- A table's members, as the code's map has them and as the definitions do.
use Rattle.std.proofs.Common.{◌≡◌, ◌∙◌, suc, ℤ, List, [], ◌∷◌, ◌++◌, length, map, Option, Some, option_and_then, ℕ, String, Global, Bor, string_bytes, refl, ap, sym, rules}
use Rattle.std.proofs.lemmas.List.{map-append}
use Rattle.std.specs.Map.Iter.{deref_pair}
use Rattle.toml.specs.Data.{Data, as_integer, as_str, integer, string}
use Rattle.std.specs.Prelude.{option_copied}
use Rattle.toml.specs.View.{view, members_view}
use Rattle.toml.specs.declared.value.Value.{Value}
use Rattle.ee_settings.specs.File.{Entry, entries_of}

-- an entry of the code's map as the definitions see it
abbrev pub seen : String Global × Value → Entry
seen e = (string_bytes e.0, view e.1)

pub entries_seen : (es : List (String Global × Value)) → entries_of (members_view es) ≡ map seen es
entries_seen [] = refl
entries_seen (e ∷ es) = ap (λ rest. seen e ∷ rest) (entries_seen es)

pub entries_counted : (es : List (String Global × Value))
    → length (entries_of (members_view es)) ≡ length es
entries_counted [] = refl
entries_counted (e ∷ es) = ap suc (entries_counted es)

-- where a whole number stands
pub integer_found : (found : Option Data) (z : ℤ) → option_and_then as_integer found ≡ Some z
    → found ≡ Some (integer z)
integer_found found z h1 = search rules

pub whole_found : (found : Option Data) (z y : ℤ) → option_and_then as_integer found ≡ Some z
    → y ≡ z → found ≡ Some (integer y)
whole_found found z y h e = integer_found found z h ∙ ap (λ x. Some (integer x)) (sym e)

-- where a text stands
pub text_found : (given : Option (Bor (List ℕ))) (found : Option Data) (text : Bor (List ℕ))
    → option_and_then as_str found ≡ option_copied given → given ≡ Some text
    → found ≡ Some (string text.now)
text_found given found text h is = search rules

-- what stands before an entry and behind it
pub split_entries : (all before after : List (String Global × Value)) (e : String Global × Value)
    → all ≡ before ++ e ∷ after
    → entries_of (members_view all) ≡ map seen before ++ seen e ∷ map seen after
split_entries all before after e h =
    entries_seen all ∙ ap (map seen) h ∙ map-append seen before (e ∷ after)

-- one more entry was gone over
pub gone_more : (yielded : List (Bor (String Global) × Bor Value))
    (x : Bor (String Global) × Bor Value)
    → map seen (map deref_pair (yielded ++ x ∷ []))
    ≡ map seen (map deref_pair yielded) ++ seen (deref_pair x) ∷ []
gone_more yielded x =
    ap (map seen) (map-append deref_pair yielded (x ∷ []))
    ∙ map-append seen (map deref_pair yielded) (deref_pair x ∷ [])
