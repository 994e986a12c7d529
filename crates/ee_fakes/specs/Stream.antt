-- How a writer stops.
use Rattle.std.specs.Prelude.{◌≡◌, ℕ, Ok, MatchResult}
use Rattle.std.specs.declared.result.Result.{Result}
use Rattle.std.specs.declared.io.Error.{Error as IoError}
use Rattle.std.specs.IoError.{error_kind}
use Rattle.ee_fakes.specs.declared.writer.Stop.{Stop}
use Rattle.ee_fakes.specs.declared.writer.Stop.TheVariants.{Error, NoByte}

-- what the call that stops answers: the error, or that it took no byte
abbrev pub IsStopped : Stop → Result ℕ IoError → Type 0
IsStopped (Error kind) answer = MatchResult answer (λ _. ⊥) (λ error. error_kind error ≡ kind)
IsStopped NoByte answer = answer ≡ Ok 0
