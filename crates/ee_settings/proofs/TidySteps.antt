-- The steps of tidying: those of its forgettings, one after another.
use Rattle.std.proofs.Common.{◌≡◌, ◌∙◌, Bool, ap, append_assoc, arith, cond, ℕ, List, [], ◌∷◌, ◌++◌, Ok, refl, subst, sym}
use Rattle.std.proofs.lemmas.Bool.{le-ltb, lt-ltb, true≢false}
use Rattle.ee_flash.specs.Device.{Device, IsOn}
use Rattle.ee_flash.specs.Laws.{all_completed}
use Rattle.ee_flash.specs.Step.{IsCutIn, Step, device_after}
use Rattle.ee_flash.specs.Taking.{Completes, CutAt, IsCutAmong}
use Rattle.ee_pages.specs.Meaning.{Forget}
use Rattle.ee_core.specs.Calls.{Forgets}
use Rattle.ee_core.specs.State.{capacity, state_of}
use Rattle.ee_core.specs.StepLists.{steps_of_append, steps_of_making, steps_of_transfer}
use Rattle.ee_core.specs.declared.variables.ForgetFault.TheVariants as forget
use Rattle.ee_core.specs.declared.variables.Written.{Written}
use Rattle.ee_core.specs.declared.variables.Written.TheVariants.{Appended, Moved}
use Rattle.ee_settings.specs.Laws.{TidyTakesItsSteps}
use Rattle.ee_settings.specs.Tidying.{ForgetsEach, StopsForgetting, steps_of_forgetting}

-- one forgetting
module _ (address : ℕ) (old new : Device) where
  abbrev by_free : Bool → List Step
  by_free free =
      cond free (steps_of_append (Forget address) old) (steps_of_transfer (Forget address ∷ []) old)

  one_taken : (written : Written) → Forgets old address (Ok written) new
      → IsOn old × Completes (steps_of_making (Forget address ∷ []) old) old new
  one_taken Appended appends = (
    appends.proceeds.on,
    subst (λ steps. Completes steps old new)
        (sym (ap by_free (lt-ltb (state_of old).fill (capacity old) appends.free))) appends.steps,
  )
  one_taken Moved moves =
      let needed = moves.needed in (
        moves.proceeds.on,
        subst (λ steps. Completes steps old new)
            (sym
            (ap by_free (le-ltb (state_of old).fill (capacity old) (omega (arith, needed)))))
            moves.steps,
      )

completed-append : (first second : List Step) (device : Device)
    → all_completed (first ++ second) device ≡ all_completed second (all_completed first device)
completed-append [] second device = refl
completed-append (step ∷ first) second device =
    completed-append first second (device_after step device)

each_taken : (addresses : List ℕ) (old new : Device) → ForgetsEach addresses old new
    → Completes (steps_of_forgetting addresses old) old new
each_taken [] old new done = record { done = done; none_while_off = λ off. refl }
each_taken (address ∷ addresses) old new done =
    let mid = done.1 in
    let one = one_taken address old mid done.0 done.2 in
    let rest = each_taken addresses mid new done.3 in
    let steps = steps_of_making (Forget address ∷ []) old in
    record {
      done = rest.done
          ∙ ap (λ (device : Device). all_completed (steps_of_forgetting addresses device) device)
          one.1.done
          ∙ sym
          (completed-append steps (steps_of_forgetting addresses (all_completed steps old)) old);
      none_while_off = λ off. absurd (true≢false (sym one.0 ∙ off));
    }

each-append : (front more : List ℕ) (old : Device)
    → steps_of_forgetting (front ++ more) old
    ≡ steps_of_forgetting front old
    ++ steps_of_forgetting more (all_completed (steps_of_forgetting front old) old)
each-append [] more old = refl
each-append (address ∷ front) more old =
    let steps = steps_of_making (Forget address ∷ []) old in
    let mid = all_completed steps old in
    let rest = steps_of_forgetting front mid in
    let last = all_completed rest mid in
    ap (λ l. steps ++ l) (each-append front more mid)
    ∙ sym (append_assoc steps rest (steps_of_forgetting more last))
    ∙ ap (λ (device : Device). (steps ++ rest) ++ steps_of_forgetting more device)
    (sym (completed-append steps rest old))

-- a cut behind steps that were taken
cut_behind : (first steps more : List Step) (old new : Device)
    → IsCutAmong steps (all_completed first old) new → IsCutAmong (first ++ (steps ++ more)) old new
cut_behind first steps more old new (CutAt before step behind is cut) =
    CutAt (first ++ before) step (behind ++ more)
    (ap (λ l. first ++ (l ++ more)) is
    ∙ ap (λ l. first ++ l) (append_assoc before (step ∷ behind) more)
    ∙ sym (append_assoc first before (step ∷ (behind ++ more))))
    (subst (λ (device : Device). IsCutIn step device new)
    (sym (completed-append first before old)) cut)

cut_among : (addresses : List ℕ) (old new : Device) → StopsForgetting addresses forget.Cut old new
    → IsCutAmong (steps_of_forgetting addresses old) old new
cut_among addresses old new stops =
    let first = steps_of_forgetting stops.front old in
    let last = all_completed first old in
    let steps = steps_of_making (Forget stops.address ∷ []) last in
    let is : stops.last ≡ last = (each_taken stops.front old stops.last stops.forgotten).done in
    subst (λ l. IsCutAmong l old new)
    (sym
    (ap (λ l. steps_of_forgetting l old) stops.addresses_are
    ∙ each-append stops.front (stops.address ∷ stops.rest) old))
    (cut_behind first steps (steps_of_forgetting stops.rest (all_completed steps last)) old new
    (subst
    (λ (device : Device).
    IsCutAmong (steps_of_making (Forget stops.address ∷ []) device) device new) is
    stops.stopped.steps))

pub tidy_takes : TidyTakesItsSteps
tidy_takes schema old new = (
  λ count tidied. each_taken _ old new tidied.2,
  λ stops. cut_among _ old new stops,
  λ stops. (
    stops.front,
    stops.address ∷ stops.rest,
    stops.addresses_are,
    subst (λ (device : Device). Completes (steps_of_forgetting stops.front old) old device)
        (sym stops.stopped.3) (each_taken stops.front old stops.last stops.forgotten),
  ),
)
