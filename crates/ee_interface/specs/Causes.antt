-- That no cause is passed over.
use Rattle.std.specs.Prelude.{◌≡◌, ◌≢◌, ◌⊎◌, Result, MatchResult}

-- each cause that applies is named, or want of memory is in its place
abbrev pub NamesEach : {T E : Type 0} → E → (E → Type 0) → Result T E → Type 0
NamesEach memory IsReason result =
    (cause : _) → cause ≢ memory → IsReason cause
    → MatchResult result (λ _. ⊥) (λ fault. (fault ≡ cause) ⊎ (fault ≡ memory))
