use Rattle.std.proofs.Common.{◌⊎◌, ◌≡◌, inl, arith}
use Rattle.std.proofs.lemmas.Grind.{common_steps}
use Rattle.ee_text.proofs.Public.{passed_on}
use Rattle.ee_check.specs.declared.certificate.Stretch.{Stretch}
use Rattle.ee_check.specs.declared.checking.CheckFault.TheVariants.{Memory}
use Rattle.ee_check.specs.Fault.{IsFirstFlaw}
use Rattle.ee_check.proofs.Flaws.{one_further, flaw_met}
use Rattle.ee_check.proofs.checking.check_stretches.Goals as goal

-- what stands where no stretch is
no_stretch : Stretch
no_stretch = record { to = 0; from = 0 }

pub returns-in_err-judge-clause-err : goal.returns-in_err-judge-clause-err
unfolding no_stretch
returns-in_err-judge-clause-err g c =
    let l = c.loop-stretch in
    let flaw =
    flaw_met c.args.start.now c.args.trace.now c.args.stretches.now l.stretch-index l.count
    no_stretch l.walk c.in_err-judge.field-0.0
    c.loop-stretch-test.true l.invariant.counted l.invariant.so_far c.in_err-judge.ensures in
    passed_on c.from_residual-in_err-judge.result c.in_err-judge.field-0.0
    (λ fault. IsFirstFlaw c.args.start.now c.args.trace.now c.args.stretches.now fault
    ⊎ (fault ≡ Memory))
    c.from_residual-in_err-judge.ensures.1 (inl flaw)

pub loop-stretch-preserved : goal.loop-stretch-preserved
unfolding no_stretch
loop-stretch-preserved g c =
    let l = c.loop-stretch in
    record {
      counted = omega (arith, l.invariant.counted);
      so_far =
          one_further c.args.start.now c.args.trace.now c.args.stretches.now l.stretch-index
          no_stretch l.walk c.pass.new.self
          c.loop-stretch-test.true l.invariant.so_far c.in_ok-judge.ensures
          c.in_ok-pass.ensures.live c.in_ok-pass.ensures.place;
    }

pub returns-clause-ok : goal.returns-clause-ok
returns-clause-ok g c = grind (arith, common_steps)
