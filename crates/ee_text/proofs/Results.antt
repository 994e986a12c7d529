-- What holds of a fault that is passed on, and of a text that grew.
use Rattle.std.proofs.Common.{◌≡◌, ℕ, List, ◌++◌, sym, ap, ◌∙◌, subst, append_assoc, Result, Ok, Err, IfErr, OnErr, MatchResult}
use Rattle.std.specs.Result.{IsErrAnd}
use Rattle.ee_text.specs.Line.{IsLonger}

-- an error that is passed on
pub passed_on : {T E : Type 0} (r : Result T E) (fault : E) (P : E → Type 0)
    → IsErrAnd r (λ e. e ≡ fault) → P fault → IfErr r P
passed_on (Ok x) fault P e h = absurd e
passed_on (Err given) fault P e h = subst P (sym e) h

-- an answer that is passed on with it
pub error_passed_on : {T E : Type 0} (r : Result T E) (fault : E) (O : T → Type 0) (P : E → Type 0)
    → IsErrAnd r (λ e. e ≡ fault) → P fault → MatchResult r O P
error_passed_on (Ok x) fault O P e h = absurd e
error_passed_on (Err given) fault O P e h = subst P (sym e) h

-- what holds anyway
pub on_err_anyway : {T E : Type 0} (r : Result T E) (P : Type 0) → P → OnErr r P
on_err_anyway (Ok x) P h = tt
on_err_anyway (Err given) P h = h

-- a text that grew, and perhaps grew on
pub longer_still : (old now new written : List ℕ) → now ≡ old ++ written → IsLonger now new
    → IsLonger old new
longer_still old now new written so_far more =
    (written ++ more.0, more.1 ∙ ap (λ l. l ++ more.0) so_far ∙ append_assoc old written more.0)
