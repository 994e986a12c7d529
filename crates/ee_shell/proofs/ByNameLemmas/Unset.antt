-- What is forgotten by name, and that one cause at most applies for which it is not.
use Rattle.std.proofs.Common.{◌≡◌, ◌≢◌, ◌⊎◌, ◌∙◌, ℕ, List, inl, inr, sym, subst, Ok, rules, [], ◌∷◌}
use Rattle.ee_flash.specs.Device.{Device}
use Rattle.ee_flash.specs.Size.{Size, slot_count}
use Rattle.ee_pages.specs.Meaning as meaning
use Rattle.ee_core.specs.Calls.{Forgets}
use Rattle.ee_core.specs.Changes.{IsAccepted}
use Rattle.ee_core.specs.State.{State, state_of}
use Rattle.ee_core.specs.declared.variables.Written.{Written}
use Rattle.ee_core.specs.declared.variables.Written.TheVariants as written
use Rattle.ee_settings.specs.Calls.{IsNamed, IsNumbersOf}
use Rattle.ee_settings.specs.Setting.{Setting}
use Rattle.ee_settings.specs.declared.numbers.Numbers.{Numbers}
use Rattle.ee_interface.specs.declared.script.command.Command.TheVariants.{Forget}
use Rattle.ee_interface.specs.declared.fault.Fault.{Fault}
use Rattle.ee_interface.specs.declared.fault.Fault.TheVariants.{Memory}
use Rattle.ee_image_store.proofs.Public.{by_append, by_move}
use Rattle.ee_image_store.specs.Opening.{IsOpened, IsStoreLeft, StaysOn}
use Rattle.ee_shell.proofs.ByNameLemmas.Named.{at_opened, name_good, of_text, one_refusal, served_from_text, size_kept, spelled_once}
use Rattle.ee_shell.specs.ByName.Settings.{IsCommandServed, SpellsSettings}
use Rattle.ee_shell.specs.ByName.Unsetting.{IsForgettingRefusal, IsForgotten, IsUnset, IsUnsettingRefused, IsUnsettingRefusedIn, LeavesUnset}

-- ---- what is forgotten

forgotten_at : (settings : List Setting) (old new : Device) (name : List ℕ) (setting : Setting)
    (answer : Written)
    → StaysOn old → IsNamed settings name setting
    → Forgets old setting.numbers.address (Ok answer) new → IsForgotten settings old name new
forgotten_at settings old new name setting written.Appended on named done = record {
  setting = setting;
  named = named;
  served = inl (
    record {
      step = (done.proceeds.accepted, done.free, done.state_is);
      same_size = done.goes_on.same_size;
      erases = by_append old (meaning.Forget setting.numbers.address) new done;
    },
    done.no_wear,
  );
  stays_on = record {
    on = done.goes_on.same_power ∙ on.on;
    never_cut = done.goes_on.same_cuts_left ∙ on.never_cut;
  };
  answer = written.Appended;
  forgotten = done;
}
forgotten_at settings old new name setting written.Moved on named done = record {
  setting = setting;
  named = named;
  served = inr (
    record {
      step = (done.proceeds.accepted, done.needed, done.state_is);
      same_size = done.goes_on.same_size;
      erases = by_move old (meaning.Forget setting.numbers.address) new done;
    },
    done.wear,
  );
  stays_on = record {
    on = done.goes_on.same_power ∙ on.on;
    never_cut = done.goes_on.same_cuts_left ∙ on.never_cut;
  };
  answer = written.Moved;
  forgotten = done;
}

pub is_forgotten : (settings : List Setting) (old new : Device) (name : List ℕ) (numbers : Numbers)
    (answer : Written)
    → StaysOn old → IsNumbersOf settings name numbers
    → Forgets old numbers.address (Ok answer) new → IsForgotten settings old name new
is_forgotten settings old new name numbers answer on h done =
    forgotten_at settings old new name h.1 answer on h.2
    (subst (λ (ns : Numbers). Forgets old ns.address (Ok answer) new) (sym h.3) done)

pub is_unset : (image text name new_image line : List ℕ) (store : Device) (settings : List Setting)
    → IsOpened image store → SpellsSettings text settings
    → LeavesUnset settings store name new_image line → IsUnset image text name new_image line
is_unset image text name new_image line store settings opened spelled done =
    let served =
    served_from_text image store done.last (Forget done.forgotten.setting.numbers.address) opened
    done.forgotten.served in
    record {
      device = opened.device;
      store = store;
      last = done.last;
      old = opened.old;
      opens = opened.opens;
      settings = settings;
      spelled = spelled;
      forgotten = done.forgotten;
      served = served;
      left = subst (λ (size : Size). IsStoreLeft size new_image done.last)
          (size_kept opened.device done.last (Forget done.forgotten.setting.numbers.address) served)
          done.left;
      line_is = done.line_is;
    }

-- ---- the causes for which nothing is forgotten

pub is_unsetting_refused_in : (image text name : List ℕ) (store : Device) (settings : List Setting)
    (fault : Fault)
    → IsOpened image store → SpellsSettings text settings
    → IsUnsettingRefused settings store.size (state_of store) name fault
    → IsUnsettingRefusedIn image text name fault
is_unsetting_refused_in image text name store settings fault opened spelled refused = record {
  device = opened.device;
  old = opened.old;
  settings = settings;
  spelled = spelled;
  refused = of_text image store
      (λ (size : Size) (state : State). IsUnsettingRefused settings size state name fault) opened
      refused;
}

one_forgetting : (size : Size) (state : State) (address : ℕ) (fault cause : Fault)
    → IsForgettingRefusal size state address fault → IsForgettingRefusal size state address cause
    → fault ≡ cause
one_forgetting size state address fault cause h1 h2 = search rules

-- what refuses a forgetting in the image refuses it in its store
refused_there : (image text name : List ℕ) (store : Device) (settings : List Setting)
    (cause : Fault)
    → IsOpened image store → SpellsSettings text settings
    → IsUnsettingRefusedIn image text name cause
    → IsUnsettingRefused settings store.size (state_of store) name cause
refused_there image text name store settings cause opened spelled h =
    subst (λ (ss : List Setting). IsUnsettingRefused ss store.size (state_of store) name cause)
    (spelled_once text h.settings settings h.spelled spelled)
    (at_opened image h.device store
    (λ (size : Size) (state : State). IsUnsettingRefused h.settings size state name cause) h.old
    opened h.refused)

pub unsetting_refused_once : (image text name : List ℕ) (store : Device) (settings : List Setting)
    (fault cause : Fault)
    → IsOpened image store → SpellsSettings text settings
    → IsUnsettingRefused settings store.size (state_of store) name fault → cause ≢ Memory
    → IsUnsettingRefusedIn image text name cause → (fault ≡ cause) ⊎ (fault ≡ Memory)
unsetting_refused_once image text name store settings fault cause opened spelled refused some h =
    one_refusal settings name
    (λ (s : Setting) (one : Fault).
    IsForgettingRefusal store.size (state_of store) s.numbers.address one) fault cause
    spelled.schema.1
    (λ s one other. one_forgetting store.size (state_of store) s.numbers.address fault cause one
    other) some refused (refused_there image text name store settings cause opened spelled h)

accepted_forgetting : (size : Size) (state : State) (address : ℕ) (cause : Fault)
    → IsAccepted (slot_count size) state (meaning.Forget address ∷ [])
    → IsForgettingRefusal size state address cause → ⊥
accepted_forgetting size state address cause accepted (inl h) = accepted.has_place h.0
accepted_forgetting size state address cause accepted (inr h) = accepted.not_spent h.1

accepted_by : (old new : Device) (address : ℕ) → IsCommandServed old (Forget address) new
    → IsAccepted (slot_count old.size) (state_of old) (meaning.Forget address ∷ [])
accepted_by old new address (inl h) = h.0.step.0
accepted_by old new address (inr h) = h.0.step.0

pub unset_good : (image text name : List ℕ) (store new : Device) (settings : List Setting)
    (cause : Fault)
    → IsOpened image store → SpellsSettings text settings → IsForgotten settings store name new
    → cause ≢ Memory → IsUnsettingRefusedIn image text name cause → ⊥
unset_good image text name store new settings cause opened spelled done some h =
    name_good settings name
    (λ (s : Setting) (fault : Fault).
    IsForgettingRefusal store.size (state_of store) s.numbers.address fault) done.setting cause
    spelled.schema.1 done.named
    (accepted_forgetting store.size (state_of store) done.setting.numbers.address cause
    (accepted_by store new done.setting.numbers.address done.served)) some
    (refused_there image text name store settings cause opened spelled h)
