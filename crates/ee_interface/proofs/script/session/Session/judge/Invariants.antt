use Rattle.std.proofs.Common.{◌≡◌, [], length}
use Rattle.ee_interface.proofs.ScriptLemmas.Faults.{HasJudged}
use Rattle.ee_interface.proofs.script.session.Session.judge.Given as goal

abbrev pub invariant-lines : goal.invariant-lines
invariant-lines g l = record {
  judged : HasJudged g.S.Serve.serves l.fn.self l.text l.rest l.self;
  nothing : l.self.unfinished ≡ [];
}

abbrev pub decreases-lines : goal.decreases-lines
decreases-lines g l = length l.rest
