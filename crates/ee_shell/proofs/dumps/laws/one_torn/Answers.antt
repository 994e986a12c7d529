use Rattle.ee_shell.proofs.DumpsLemmas.Torn.{no_torn, one_first}
use Rattle.ee_shell.proofs.dumps.laws.one_torn.Goals as goal

pub returns : goal.returns
returns c =
    λ form device page at first. (
      λ dump is. no_torn form device dump page at is first,
      λ other place second. one_first device page at other place first second,
    )
