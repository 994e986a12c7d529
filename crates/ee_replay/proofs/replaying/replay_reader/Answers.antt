use Rattle.std.proofs.Common.{◌≡◌, ◌⊎◌, inl, inr}
use Rattle.std.proofs.lemmas.Result.{IfErr-weaker, IfOk-weaker, MatchResult-from_both, err_from_is_err_and}
use Rattle.ee_interface.specs.declared.replay_fault.ReplayFault.TheVariants.{Memory, Read, Script}
use Rattle.ee_replay.proofs.Given.{given_is_good, named_of_stream, only_memory}
use Rattle.ee_image_store.proofs.Public.{one_open_fault, store_is_good}
use Rattle.ee_replay.proofs.Replays.{is_replayed}
use Rattle.ee_replay.proofs.replaying.replay_reader.Goals as goal

pub returns-in_err-desk-clause-names : goal.returns-in_err-desk-clause-names
returns-in_err-desk-clause-names g c = λ cause some applies.
    let p = err_from_is_err_and c.from_residual.result c.from_residual.ensures.1 in
    rw p.1
    (rw p.2 (one_open_fault c.args.image.now cause _ some applies c.in_err-desk.ensures.fault))

pub returns-in_err-desk-clause-bad : goal.returns-in_err-desk-clause-bad
returns-in_err-desk-clause-bad g c = λ script n known store bad.
    let p = err_from_is_err_and c.from_residual.result c.from_residual.ensures.1 in
    rw p.1 (rw p.2 (inr (inl (only_memory c.args.image.now _ store c.in_err-desk.ensures.fault))))

pub returns-clause-replayed : goal.returns-clause-replayed
returns-clause-replayed g c = IfOk-weaker c.run_reader.result _ _
    (λ replayed run. (run.0, run.1, is_replayed _ _ _ _ _ c.in_ok-desk.ensures.opened run.2))
    c.run_reader.ensures.run

pub returns-clause-fault : goal.returns-clause-fault
returns-clause-fault g c =
    let opened = c.in_ok-desk.ensures.opened in
    IfErr-weaker c.run_reader.result _ _ (λ fault why. inr ((opened.device, opened.old), why))
    c.run_reader.ensures.fault

pub returns-clause-names : goal.returns-clause-names
returns-clause-names g c = λ cause some applies.
    let opened = c.in_ok-desk.ensures.opened in
    absurd (store_is_good c.args.image.now opened.device cause opened.old some applies)

pub returns-clause-bad : goal.returns-clause-bad
returns-clause-bad g c = λ script n known store bad.
    MatchResult-from_both c.run_reader.result (λ replayed. ⊥)
    (λ fault. (fault ≡ Script n) ⊎ (fault ≡ Memory) ⊎ (fault ≡ Read))
    (IfOk-weaker c.run_reader.result _ _
    (λ replayed run. given_is_good _ _ c.args.image.now script run.0 _ _ n known bad run.1
    (is_replayed _ _ _ _ _ c.in_ok-desk.ensures.opened run.2))
    c.run_reader.ensures.run)
    (IfErr-weaker c.run_reader.result _ _
    (λ fault why. named_of_stream _ _ script n fault known bad why) c.run_reader.ensures.fault)
