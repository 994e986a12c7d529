-- What is left of an image whose addresses are all forgotten, and why none is.
use Rattle.std.proofs.Common.{◌≡◌, ◌≢◌, ◌⊎◌, ◌∙◌, ◌++◌, ◌<◌, ℕ, Bool, true, false, List, [], ◌∷◌, Option, Some, None, Ok, inl, inr, sym, ap, refl, subst, arith}
use Rattle.ee_flash.specs.Device.{Device}
use Rattle.ee_flash.specs.Size.{Size}
use Rattle.ee_flash.specs.declared.word.Word.{Word}
use Rattle.ee_flash.specs.declared.word.Word.TheVariants.{Erased, Held, Torn}
use Rattle.ee_pages.specs.Meaning.{later_of, latest_in, live_in, value_said}
use Rattle.ee_pages.specs.Sets.{fill_of, set_of, slots_of}
use Rattle.ee_pages.specs.declared.side.Side.{Side}
use Rattle.ee_core.specs.Emptying.{Clears}
use Rattle.ee_core.specs.State.{State, state_in, state_of}
use Rattle.ee_interface.specs.Fault.{fault_of_replay}
use Rattle.ee_interface.specs.declared.fault.Fault.{Fault}
use Rattle.ee_interface.specs.declared.fault.Fault.TheVariants.{HoldsValues, Memory, Spent}
use Rattle.ee_interface.specs.declared.replay_fault.ReplayFault.{ReplayFault}
use Rattle.ee_image_store.specs.Opening.{IsOpenFault, IsOpened, IsStoreLeft, IsStoreText}
use Rattle.ee_image_store.proofs.Public.{not_opened, opening_good, opening_named, same_at_rest, same_state}
use Rattle.ee_commands.specs.Forgetting.{IsForgottenImage, IsForgetAllFault, IsHeldBack, IsSpentStore, StaysFull, forgotten_text}

-- ---- no address has a value

-- where no slot is used, none says anything
silent : (slots : List Word) (address : ℕ) → fill_of slots ≡ 0 → latest_in slots address ≡ None
silent [] address none = refl
silent (Erased ∷ slots) address none = ap (λ said. later_of None said) (silent slots address none)
silent (Held number ∷ slots) address none = absurd (omega (arith, none))
silent (Torn ∷ slots) address none = absurd (omega (arith, none))

none_in : (device : Device) (live : Option (Side × ℕ)) (address : ℕ)
    → (state_in device live).fill ≡ 0 → (state_in device live).map address ≡ None
none_in device None address none = refl
none_in device (Some live) address none =
    ap value_said (silent (slots_of (set_of live.0 device)) address none)

none_left : (old : Device) (moved : Bool) (new : Device) → Clears old (Ok moved) new → (address : ℕ)
    → (state_of new).map address ≡ None
none_left old true new empties address = ap (λ (s : State). s.map address) empties.state_is
none_left old false new idle address =
    ap (λ (d : Device). (state_of d).map address) idle.2 ∙ none_in old _ address idle.1

pub is_emptied : (image new_image empty text : List ℕ) (store last : Device) (moved : Bool)
    (live : ℕ)
    → IsOpened image store → Clears store (Ok moved) last → last.size ≡ store.size
    → live ≡ live_in (state_of store).map → IsStoreLeft last.size new_image last → empty ≡ []
    → text ≡ empty ++ forgotten_text live → IsForgottenImage image new_image text
is_emptied image new_image empty text store last moved live opened clears size counted left none
    says =
    record {
      device = opened.device;
      store = store;
      last = last;
      moved = moved;
      old = opened.old;
      opens = opened.opens;
      clears = clears;
      left = subst (λ (s : Size). IsStoreLeft s new_image last) (size ∙ opened.same_size) left;
      none_left = none_left store moved last clears;
      text_is =
          says ∙ ap (λ l. l ++ forgotten_text live) none
          ∙ ap forgotten_text (counted ∙ ap (λ (s : State). live_in s.map) opened.state_is);
    }

-- ---- one cause at most

-- a store that was cleared was not spent
not_spent : (old : Device) (moved : Bool) (new : Device) → Clears old (Ok moved) new
    → IsSpentStore old → ⊥
not_spent old true new empties spent = empties.may.not_last spent.last
not_spent old false new idle spent = absurd (omega (arith, idle.1, spent.used))

-- the cause is one of each device with this state
same_stay : (force : Bool) (device other : Device) (fault : Fault)
    → state_of device ≡ state_of other → StaysFull force device fault → StaysFull force other fault
same_stay force device other fault same (inl (is, (none, held))) =
    inl (is, (none, subst (λ (s : State). 0 < live_in s.map) same held))
same_stay force device other fault same (inr (is, spent, free)) =
    inr (
      is,
      record {
        used = subst (λ (s : State). 0 < s.fill) same spent.used;
        last = sym (ap (λ (s : State). s.generation) same) ∙ spent.last;
      },
      λ held. free (held.0, subst (λ (s : State). 0 < live_in s.map) (sym same) held.1),
    )

pub held_stays : (force : Bool) (store : Device) → IsHeldBack force store
    → StaysFull force store HoldsValues
held_stays force store held = inl (refl, held)

pub spent_stays : (force : Bool) (store : Device) (fault : Fault) → fault ≡ Spent
    → IsSpentStore store → (IsHeldBack force store → ⊥) → StaysFull force store fault
spent_stays force store fault is spent free = inr (is, spent, free)

-- the cause is one of the image, if it is one of its store
pub stays_full : (force : Bool) (image : List ℕ) (store : Device) (fault : Fault)
    → IsOpened image store → StaysFull force store fault → IsForgetAllFault force image fault
stays_full force image store fault opened stays =
    inr (opened.device, opened.old, same_stay force store opened.device fault opened.state_is stays)

-- and of its store, if it is one of the image that is opened
stays_opened : (force : Bool) (image : List ℕ) (store other : Device) (fault : Fault)
    → IsOpened image store → IsStoreText image other → StaysFull force other fault
    → StaysFull force store fault
stays_opened force image store other fault opened again stays =
    same_stay force other store fault
    (same_state other opened.device
    (same_at_rest image other opened.device again.spelled opened.old.spelled)
    ∙ sym opened.state_is)
    stays

-- the cause of a store that was opened
of_store : (force : Bool) (image : List ℕ) (store : Device) (cause : Fault)
    → IsOpened image store → cause ≢ Memory → IsForgetAllFault force image cause
    → StaysFull force store cause
of_store force image store cause opened some (inl unopened) =
    absurd (opening_good image opened.device cause opened.old some unopened)
of_store force image store cause opened some (inr (other, again, stays)) =
    stays_opened force image store other cause opened again stays

none_of_good : (force : Bool) (store last : Device) (moved : Bool) (cause : Fault)
    → (IsHeldBack force store → ⊥) → Clears store (Ok moved) last → StaysFull force store cause → ⊥
none_of_good force store last moved cause free clears (inl (is, held)) = free held
none_of_good force store last moved cause free clears (inr (is, spent, unheld)) =
    not_spent store moved last clears spent

pub forgotten_good : (force : Bool) (image : List ℕ) (store last : Device) (moved : Bool)
    (cause : Fault)
    → IsOpened image store → (IsHeldBack force store → ⊥) → Clears store (Ok moved) last
    → cause ≢ Memory → IsForgetAllFault force image cause → ⊥
forgotten_good force image store last moved cause opened free clears some applies =
    none_of_good force store last moved cause free clears
    (of_store force image store cause opened some applies)

pub forgotten_unopened : (force : Bool) (image : List ℕ) (why : ReplayFault) (fault cause : Fault)
    → IsOpenFault image why → fault ≡ fault_of_replay why → cause ≢ Memory
    → IsForgetAllFault force image cause → (fault ≡ cause) ⊎ (fault ≡ Memory)
forgotten_unopened force image why fault cause unopened told some (inl h) =
    opening_named image why fault cause unopened told some h
forgotten_unopened force image why fault cause unopened told some (inr (other, again, stays)) =
    inr (not_opened image why fault unopened told (other, again))

one_stay : (force : Bool) (store : Device) (fault cause : Fault) → StaysFull force store fault
    → StaysFull force store cause → fault ≡ cause
one_stay force store fault cause (inl (is, held)) (inl (same, again)) = is ∙ sym same
one_stay force store fault cause (inl (is, held)) (inr (other, spent, free)) = absurd (free held)
one_stay force store fault cause (inr (is, spent, free)) (inl (other, held)) = absurd (free held)
one_stay force store fault cause (inr (is, spent, free)) (inr (same, again, held)) = is ∙ sym same

pub one_cause : (force : Bool) (image : List ℕ) (store : Device) (fault cause : Fault)
    → IsOpened image store → StaysFull force store fault → cause ≢ Memory
    → IsForgetAllFault force image cause → (fault ≡ cause) ⊎ (fault ≡ Memory)
one_cause force image store fault cause opened stays some applies =
    inl (one_stay force store fault cause stays (of_store force image store cause opened some applies))
