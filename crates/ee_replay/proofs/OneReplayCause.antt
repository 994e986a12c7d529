-- A script has one cause at most for which it isn't replayed.
use Rattle.std.proofs.Common.{◌≡◌, ◌≢◌, ◌⊎◌, inl, inr, ℕ, List, refl, ap, rules}
use Rattle.ee_flash.specs.Size.{Size}
use Rattle.ee_core.specs.State.{State}
use Rattle.ee_interface.proofs.ScriptLemmas.Public.{one_first_bad_line_lem, scripts_are_good_lem}
use Rattle.ee_interface.specs.declared.replay_fault.ReplayFault.{ReplayFault}
use Rattle.ee_interface.specs.declared.replay_fault.ReplayFault.TheVariants.{Image, Open, Script, Memory, Read}
use Rattle.ee_replay.specs.Replaying.{IsReplayFault, IsReplayed, IsScriptRun, IsRunFault}
use Rattle.ee_image_store.proofs.Public.{one_open_fault, store_is_good}

-- ---- the faults of a script

pub script_is_some : (n : ℕ) → Script n ≢ Memory
script_is_some n e = cc e

pub one_run_fault : (text : List ℕ) (cause fault : ReplayFault) → cause ≢ Memory
    → IsRunFault text cause → IsRunFault text fault → (fault ≡ cause) ⊎ (fault ≡ Memory)
one_run_fault text (Image cause) fault some h i = absurd h
one_run_fault text (Open cause) fault some h i = absurd h
one_run_fault text Memory fault some h i = absurd (some refl)
one_run_fault text Read fault some h i = absurd h
one_run_fault text (Script n) (Image fault) some h i = absurd i
one_run_fault text (Script n) (Open fault) some h i = absurd i
one_run_fault text (Script m) (Script n) some h i =
    inl (ap Script (one_first_bad_line_lem text n m i h))
one_run_fault text (Script n) Memory some h i = inr refl
one_run_fault text (Script n) Read some h i = absurd i

pub run_is_good : (size : Size) (start : State) (text image reported : List ℕ) (cause : ReplayFault)
    → IsScriptRun size start text image reported → cause ≢ Memory → IsRunFault text cause → ⊥
run_is_good size start text image reported (Image cause) run some h = h
run_is_good size start text image reported (Open cause) run some h = h
run_is_good size start text image reported (Script n) run some h =
    scripts_are_good_lem text run.report.commands n run.report.is_script h
run_is_good size start text image reported Memory run some h = some refl
run_is_good size start text image reported Read run some h = h

-- ---- the faults of a replay

pub memory_or : (fault : ReplayFault) → (fault ≡ Memory) ⊎ (fault ≢ Memory)
memory_or (Image fault) = inr (λ e. cc e)
memory_or (Open fault) = inr (λ e. cc e)
memory_or (Script n) = inr (λ e. cc e)
memory_or Memory = inl refl
memory_or Read = inr (λ e. cc e)

pub one_replay_fault : (image text : List ℕ) (cause fault : ReplayFault) → cause ≢ Memory
    → IsReplayFault image text cause → IsReplayFault image text fault
    → (fault ≡ cause) ⊎ (fault ≡ Memory)
one_replay_fault image text cause fault some (inl h) (inl i) =
    one_open_fault image cause fault some h i
one_replay_fault image text cause fault some (inl h) (inr i) =
    absurd (store_is_good image i.0.0 cause i.0.1 some h)
one_replay_fault image text cause fault some (inr h) (inr i) =
    one_run_fault text cause fault some h.1 i.1
one_replay_fault image text cause fault some (inr h) (inl i) =
    search (rules, memory_or, store_is_good)

pub replayed_is_good : (image text new_image reported : List ℕ) (cause : ReplayFault)
    → IsReplayed image text new_image reported → cause ≢ Memory → IsReplayFault image text cause → ⊥
replayed_is_good image text new_image reported cause replayed some (inl h) =
    store_is_good image replayed.device cause replayed.old some h
replayed_is_good image text new_image reported cause replayed some (inr h) =
    run_is_good _ _ text new_image reported cause replayed.run some h.1
