use Rattle.std.proofs.Common.{◌≡◌, ◌⊎◌, subst, sym}
use Rattle.std.proofs.lemmas.Result.{IfErr-weaker, IfOk-weaker, MatchResult-from_both}
use Rattle.ee_flash.specs.Device.{Device}
use Rattle.ee_interface.specs.declared.replay_fault.ReplayFault.TheVariants.{Script, Memory}
use Rattle.ee_image_store.specs.Opening.{IsNewStore}
use Rattle.ee_replay.proofs.OneReplayCause.{one_run_fault, run_is_good, script_is_some}
use Rattle.ee_replay.proofs.Replays.{is_tried}
use Rattle.ee_replay.proofs.replaying.try_script.Goals as goal

pub returns-clause-tried : goal.returns-clause-tried
returns-clause-tried g c =
    let new = subst (λ (device : Device). IsNewStore c.args.shape device) (sym c.of.ensures)
    c.in_ok-new.ensures in
    IfOk-weaker c.run_on.result _ _ (λ tried run. is_tried _ _ _ _ _ new run) c.run_on.ensures.run

pub returns-clause-bad : goal.returns-clause-bad
returns-clause-bad g c = λ n bad.
    MatchResult-from_both c.run_on.result (λ tried. ⊥)
    (λ fault. (fault ≡ Script n) ⊎ (fault ≡ Memory))
    (IfOk-weaker c.run_on.result _ _
    (λ tried run. run_is_good _ _ c.args.script.now _ _ (Script n) run.run (script_is_some n) bad)
    c.run_on.ensures.run)
    (IfErr-weaker c.run_on.result _ _
    (λ fault met. one_run_fault c.args.script.now (Script n) fault (script_is_some n) bad met)
    c.run_on.ensures.fault)
