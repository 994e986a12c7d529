use Rattle.std.proofs.Common.{◌≡◌, ◌⊎◌, inl, inr}
use Rattle.std.proofs.lemmas.Result.{IfErr-weaker, IfOk-weaker, MatchResult-from_both}
use Rattle.ee_text.proofs.Public.{error_passed_on}
use Rattle.ee_interface.specs.declared.replay_fault.ReplayFault.TheVariants.{Memory}
use Rattle.ee_replay.proofs.OneReplayCause.{one_replay_fault, replayed_is_good}
use Rattle.ee_replay.proofs.Replays.{is_replayed}
use Rattle.ee_replay.proofs.replaying.replay_as.Goals as goal

pub returns-in_err-desk-clause-names : goal.returns-in_err-desk-clause-names
returns-in_err-desk-clause-names g c = λ cause some applies.
    error_passed_on c.from_residual.result c.in_err-desk.field-0.0 (λ done. ⊥)
    (λ fault. (fault ≡ cause) ⊎ (fault ≡ Memory)) c.from_residual.ensures.1
    (one_replay_fault c.args.image.now c.args.script.now cause c.in_err-desk.field-0.0 some applies
    (inl c.in_err-desk.ensures.fault))

pub returns-clause-replayed : goal.returns-clause-replayed
returns-clause-replayed g c =
    IfOk-weaker _ _ _ (λ replayed on. is_replayed _ _ _ _ _ c.in_ok-desk.ensures.opened on)
    c.run_on.ensures.run

pub returns-clause-fault : goal.returns-clause-fault
returns-clause-fault g c =
    let opened = c.in_ok-desk.ensures.opened in
    IfErr-weaker _ _ _ (λ fault met. inr ((opened.device, opened.old), met)) c.run_on.ensures.fault

pub returns-clause-names : goal.returns-clause-names
returns-clause-names g c = λ cause some applies.
    let opened = c.in_ok-desk.ensures.opened in
    MatchResult-from_both c.run_on.result (λ replayed. ⊥)
    (λ fault. (fault ≡ cause) ⊎ (fault ≡ Memory))
    (IfOk-weaker _ _ _
    (λ replayed on. replayed_is_good c.args.image.now c.args.script.now _ _ cause
    (is_replayed _ _ _ _ _ opened on) some applies) c.run_on.ensures.run)
    (IfErr-weaker _ _ _
    (λ fault met. one_replay_fault c.args.image.now c.args.script.now cause fault some applies
    (inr ((opened.device, opened.old), met))) c.run_on.ensures.fault)
