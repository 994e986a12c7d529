-- One clean step after another, and what they leave, as text.
use Rattle.std.proofs.Common.{◌≡◌, ◌∙◌, ◌++◌, ◌+◌, ℕ, zero, suc, List, [], Ok, true, ap, arith, refl, replicate, subst}
use Rattle.std.proofs.lemmas.Grind.{common_steps}
use Rattle.ee_flash.specs.Device.{Device}
use Rattle.ee_flash.specs.Size.{Size}
use Rattle.ee_core.specs.Calls.{Cleans}
use Rattle.ee_core.specs.Runs.{Call, Cleaned, IsRun, IsWholeRun}
use Rattle.ee_core.specs.State.{State, Wears, pending_pages, state_of, with_pending}
use Rattle.ee_commands.specs.Images.{IsCleaned, cleaned_text}
use Rattle.ee_image_store.specs.Opening.{IsOpened, IsStoreLeft}
use Rattle.ee_image_store.proofs.Public.{pages_since}

-- clean steps in which a page was erased, as many as this
abbrev pub cleanings : ℕ → List Call
cleanings n = replicate n (Cleaned (Ok true))

no_cuts : (calls : List Call) (n : ℕ) (old new : Device) → calls ≡ cleanings n → IsRun calls old new
    → IsWholeRun calls old new
no_cuts calls n old new are run = grind (arith, common_steps)

pub cleans_none : (device : Device) → IsWholeRun (cleanings 0) device device
cleans_none device = no_cuts (cleanings 0) 0 device device refl refl

run_more : (n : ℕ) (old mid new : Device) → IsRun (cleanings n) old mid → Cleans mid (Ok true) new
    → IsRun (cleanings (suc n)) old new
run_more zero old mid new run one =
    (new, subst (λ (device : Device). Cleans device (Ok true) new) run one, refl)
run_more (suc n) old mid new run one = (run.0, run.1, run_more n run.0 mid new run.2 one)

pub cleans_more : (n : ℕ) (old mid new : Device) → IsWholeRun (cleanings n) old mid
    → Cleans mid (Ok true) new → IsWholeRun (cleanings (n + 1)) old new
cleans_more n old mid new some one =
    let next : suc n ≡ n + 1 = omega arith in
    no_cuts (cleanings (n + 1)) (n + 1) old new refl
    (subst (λ (m : ℕ). IsRun (cleanings m) old new) next (run_more n old mid new some.run one))

pub is_cleaned : (image new_image empty text : List ℕ) (store new : Device) (erased : ℕ)
    → IsOpened image store → new.size ≡ store.size → IsWholeRun (cleanings erased) store new
    → state_of new ≡ with_pending 0 (state_of store) → Wears (pending_pages store) store new
    → erased ≡ (state_of store).pending → IsStoreLeft new.size new_image new → empty ≡ []
    → text ≡ empty ++ cleaned_text erased → IsCleaned image new_image text
is_cleaned image new_image empty text store new erased opened size cleans state wears count left
    none says =
    record {
      device = opened.device;
      store = store;
      last = new;
      old = opened.old;
      opens = opened.opens;
      cleans =
          subst (λ (n : ℕ). IsWholeRun (cleanings n) store new)
          (count ∙ ap (λ (s : State). s.pending) opened.state_is) cleans;
      left = subst (λ (size : Size). IsStoreLeft size new_image new) (size ∙ opened.same_size) left;
      state_is = state ∙ ap (with_pending 0) opened.state_is;
      wear = subst (λ (pages : List ℕ). Wears pages opened.device new) opened.same_pending
          (pages_since opened.device store new (pending_pages store) opened.no_wear wears);
      text_is =
          says ∙ ap (λ l. l ++ cleaned_text erased) none
          ∙ ap cleaned_text (count ∙ ap (λ (s : State). s.pending) opened.state_is);
    }
