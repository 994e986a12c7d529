-- The image that is left, and that one cause at most applies for which nothing is applied.
use Rattle.std.proofs.Common.{◌≡◌, ◌⊎◌, ◌∙◌, ℕ, List, inl, inr, sym, ap, subst}
use Rattle.toml.specs.Data.{Members}
use Rattle.ee_flash.specs.Device.{Device}
use Rattle.ee_settings.specs.File.{entries_of}
use Rattle.ee_settings.specs.Setting.{Setting}
use Rattle.ee_interface.specs.declared.fault.Fault.{Fault}
use Rattle.ee_interface.specs.declared.fault.Fault.TheVariants.{Memory, ValuesText}
use Rattle.ee_image_store.specs.Opening.{HasStore, IsOpened, IsStoreLeft}
use Rattle.ee_image_store.proofs.Public.{no_memory_to_open, same_at_rest, same_state}
use Rattle.ee_shell.proofs.ByNameLemmas.Named.{one_tree, spelled_once}
use Rattle.ee_shell.specs.ByName.Settings.{HasNoTree, HasTree, SpellsSettings}
use Rattle.ee_shell.proofs.ByNameLemmas.Taken.{IsAlike, applied_good, applied_keeps, one_stop}
use Rattle.ee_shell.specs.ByName.Applying.{Applies, HasSettings, IsApplied, IsApplyFault, IsValueFault, LeavesApplied, StopsAtEntry}

pub is_applied : (image text values new_image line : List ℕ) (store : Device)
    (settings : List Setting) (tree : Members)
    → IsOpened image store → SpellsSettings text settings → HasTree values tree
    → LeavesApplied settings (entries_of tree) store new_image line
    → IsApplied image text values new_image line
is_applied image text values new_image line store settings tree opened spelled has_tree done =
    let keeps =
    applied_keeps settings (entries_of tree) store done.last done.count opened.stays_on
    done.applied in
    record {
      store = store;
      opened = opened;
      settings = settings;
      spelled = spelled;
      tree = tree;
      has_tree = has_tree;
      count = done.count;
      last = done.last;
      applied = done.applied;
      left = subst (λ size. IsStoreLeft size new_image done.last) (keeps.1 ∙ opened.same_size)
          done.left;
      line_is = done.line_is;
    }

pub unread_fault : (image text values : List ℕ) (store : Device) (settings : List Setting)
    (fault : Fault)
    → IsOpened image store → SpellsSettings text settings
    → ((fault ≡ ValuesText) × HasNoTree values) ⊎ (fault ≡ Memory)
    → IsApplyFault image text values fault
unread_fault image text values store settings fault opened spelled (inl h) =
    inr (inr (inl ((opened.device, opened.old), (settings, spelled), h.1, h.0)))
unread_fault image text values store settings fault opened spelled (inr none) =
    rw none (inl (no_memory_to_open image))

pub stopped_fault : (image text values : List ℕ) (store : Device) (settings : List Setting)
    (tree : Members) (fault : Fault)
    → IsOpened image store → SpellsSettings text settings → HasTree values tree
    → StopsAtEntry settings (entries_of tree) store fault ⊎ (fault ≡ Memory)
    → IsApplyFault image text values fault
stopped_fault image text values store settings tree fault opened spelled has_tree (inl stops) =
    inr
    (inr
    (inr
    (record {
      store = store;
      opened = opened;
      settings = settings;
      spelled = spelled;
      tree = tree;
      has_tree = has_tree;
      stops = stops;
    })))
stopped_fault image text values store settings tree fault opened spelled has_tree (inr none) =
    rw none (inl (no_memory_to_open image))

-- an image is opened as stores of one size and state
opened_alike : (image : List ℕ) (one other : Device) → IsOpened image one → IsOpened image other
    → IsAlike one other
opened_alike image one other h k =
    let rest = same_at_rest image h.device k.device h.old.spelled k.old.spelled in
    record {
      size = h.same_size ∙ ap (λ (d : Device). d.size) rest ∙ sym k.same_size;
      state = h.state_is ∙ same_state h.device k.device rest ∙ sym k.state_is;
    }

-- what stops them in the image stops them by these settings and this tree
stops_there : (image text values : List ℕ) (settings : List Setting) (tree : Members)
    (cause : Fault)
    → SpellsSettings text settings → HasTree values tree
    → (h : IsValueFault image text values cause)
    → StopsAtEntry settings (entries_of tree) h.store cause
stops_there image text values settings tree cause spelled has_tree h =
    subst (λ (ss : List Setting). StopsAtEntry ss (entries_of tree) h.store cause)
    (spelled_once text h.settings settings h.spelled spelled)
    (subst (λ (t : Members). StopsAtEntry h.settings (entries_of t) h.store cause)
    (one_tree values h.tree tree h.has_tree has_tree) h.stops)

-- each cause of its own takes a store and settings
pub apply_takes : (image text values : List ℕ) (cause : Fault)
    → (HasStore image × HasSettings text × HasNoTree values × (cause ≡ ValuesText))
    ⊎ IsValueFault image text values cause
    → HasStore image × HasSettings text
apply_takes image text values cause (inl h) = (h.0, h.1)
apply_takes image text values cause (inr h) =
    ((h.opened.device, h.opened.old), (h.settings, h.spelled))

pub apply_unread : (image text values : List ℕ) (fault cause : Fault)
    → ((fault ≡ ValuesText) × HasNoTree values) ⊎ (fault ≡ Memory)
    → (HasStore image × HasSettings text × HasNoTree values × (cause ≡ ValuesText))
    ⊎ IsValueFault image text values cause
    → (fault ≡ cause) ⊎ (fault ≡ Memory)
apply_unread image text values fault cause (inr none) h = inr none
apply_unread image text values fault cause (inl told) (inl h) = inl (told.0 ∙ sym h.3)
apply_unread image text values fault cause (inl told) (inr h) = absurd (told.1 h.tree h.has_tree)

pub apply_stopped : (image text values : List ℕ) (store : Device) (settings : List Setting)
    (tree : Members) (fault cause : Fault)
    → IsOpened image store → SpellsSettings text settings → HasTree values tree
    → StopsAtEntry settings (entries_of tree) store fault ⊎ (fault ≡ Memory)
    → (HasStore image × HasSettings text × HasNoTree values × (cause ≡ ValuesText))
    ⊎ IsValueFault image text values cause
    → (fault ≡ cause) ⊎ (fault ≡ Memory)
apply_stopped image text values store settings tree fault cause opened spelled has_tree (inr none) h
    =
    inr none
apply_stopped image text values store settings tree fault cause opened spelled has_tree (inl stops)
    (inl h) =
    absurd (h.2 tree has_tree)
apply_stopped image text values store settings tree fault cause opened spelled has_tree (inl stops)
    (inr h) =
    inl
    (one_stop settings (entries_of tree) store h.store fault cause spelled.schema.1
    (opened_alike image store h.store opened h.opened) stops
    (stops_there image text values settings tree cause spelled has_tree h))

pub apply_good : (image text values : List ℕ) (store new : Device) (settings : List Setting)
    (tree : Members) (count : ℕ) (cause : Fault)
    → IsOpened image store → SpellsSettings text settings → HasTree values tree
    → Applies settings (entries_of tree) store count new
    → (HasStore image × HasSettings text × HasNoTree values × (cause ≡ ValuesText))
    ⊎ IsValueFault image text values cause
    → ⊥
apply_good image text values store new settings tree count cause opened spelled has_tree applied
    (inl h) =
    h.2 tree has_tree
apply_good image text values store new settings tree count cause opened spelled has_tree applied
    (inr h) =
    applied_good settings (entries_of tree) store h.store new count cause spelled.schema.1
    (opened_alike image store h.store opened h.opened) applied
    (stops_there image text values settings tree cause spelled has_tree h)
