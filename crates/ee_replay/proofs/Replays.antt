-- A run on a store that was opened is a run from what the text spells.
use Rattle.std.proofs.Common.{◌≡◌, ◌∙◌, ℕ, List, ap, subst, arith}
use Rattle.ee_flash.specs.Device.{Device, blank_device}
use Rattle.ee_flash.specs.Size.{Size}
use Rattle.ee_core.specs.Points.{Point}
use Rattle.ee_core.specs.State.{State, formatted_state, state_of}
use Rattle.ee_image.specs.Text.{image_text}
use Rattle.ee_image_store.specs.Erases.{ErasesRise, erases_of_all}
use Rattle.ee_image_store.specs.Opening.{IsNewStore, IsOpened, SpellsDevice}
use Rattle.ee_replay.specs.Lines.{point_behind}
use Rattle.ee_replay.specs.Replaying.{IsReplayed, IsScriptRun, IsRunOn, IsTried, leaves_of}
use Rattle.ee_replay.specs.Serving.{IsMade, IsServed, IsSound, serving_on}
use Rattle.ee_image_store.proofs.Public.{both, wear_since}
use Rattle.ee_replay.proofs.ScriptWears.{wears_since_opening}

pub is_run_on : (old flash : Device) (new : Point) (text image reported : List ℕ)
    → IsServed old text new reported → IsSound new → flash ≡ new.device → SpellsDevice image flash
    → IsRunOn old text image reported
is_run_on old flash new text image reported served sound same spelled = record {
  run = record {
    last = new;
    left = record {
      spelled = subst (SpellsDevice image) same spelled;
      sound = sound;
      same_size = served.same_size;
    };
    report = served.report;
  };
  made = served.made;
  leaves =
      ap (λ one. (one, reported))
      ((subst (SpellsDevice image) same spelled).text_is
      ∙ ap (λ (point : Point). image_text point.device) served.made.point_is)
      ∙ ap
      (λ one. (
        image_text (point_behind served.report.commands (serving_on old)).device,
        one,
      )) served.report_is;
}

-- a run of the machine of this size from this state, on this store
abbrev RunFrom : Size → State → List ℕ → List ℕ → List ℕ → Device → Type 0
RunFrom size start text image reported store =
    (run : IsScriptRun size start text image reported)
    × IsMade store run.report.commands run.report.answers run.last
    × ((image, reported) ≡ leaves_of store run.report.commands)

-- the same run, of a machine that is known by another size and state
from_there : (size other : Size) (start from : State) (text image reported : List ℕ)
    (store : Device)
    → size ≡ other → start ≡ from → RunFrom size start text image reported store
    → RunFrom other from text image reported store
from_there size other start from text image reported store sizes starts run =
    subst (λ (s : Size). RunFrom s from text image reported store) sizes
    (subst (λ (state : State). RunFrom size state text image reported store) starts run)

-- a run from what was opened is a run from what the text spells
pub is_replayed : (old_image text image reported : List ℕ) (store : Device)
    → IsOpened old_image store → IsRunOn store text image reported
    → IsReplayed old_image text image reported
is_replayed old_image text image reported store opened on =
    let there =
    from_there store.size opened.device.size (state_of store) (state_of opened.device) text
    image reported store opened.same_size opened.state_is (on.run, on.made, on.leaves) in
    let answers = there.0.report.answers in
    let pages = erases_of_all opened.device.size answers in
    record {
      device = opened.device;
      old = opened.old;
      rests = opened.rests;
      run = there.0;
      leaves = there.2
          ∙ ap (λ (at : Device). leaves_of at there.0.report.commands) opened.opens.steps.done;
      opened = store;
      opens = opened.opens;
      made = there.1;
      erases = λ plain.
          let further =
          subst
          (λ (size : Size).
          ErasesRise (erases_of_all size answers) store there.0.last.device)
          opened.same_size (there.1.erases plain) in
          both opened.device store there.0.last.device 0 pages pages opened.erases further
          (omega arith);
      wears = λ plain page.
          wears_since_opening opened.device store there.0.last there.0.report.commands answers
          opened.opens plain there.1.lines page;
    }

-- a run from what was formatted
pub is_tried : (size : Size) (text image reported : List ℕ) (store : Device) → IsNewStore size store
    → IsRunOn store text image reported → IsTried size text image reported
is_tried size text image reported store new on =
    let there =
    from_there store.size size (state_of store) formatted_state text image reported store
    new.size_is new.state_is (on.run, on.made, on.leaves) in
    let answers = there.0.report.answers in
    let pending : (state_of store).pending ≡ 0 = ap (λ (s : State). s.pending) new.state_is in
    record {
      run = there.0;
      fresh = store;
      formats = new.formats;
      made = there.1;
      leaves = there.2
          ∙ ap (λ (at : Device). leaves_of at there.0.report.commands) new.formats.steps.done;
      worn = λ plain.
          let rises =
          subst (λ (s : Size). ErasesRise (erases_of_all s answers) store there.0.last.device)
          new.size_is (there.1.erases plain) in
          record {
            erased = rises.erased;
            wear = wear_since store (blank_device size) there.0.last.device rises.erased new.no_wear
                rises.wear;
            rise = omega (arith, rises.rise, pending);
          };
    }
