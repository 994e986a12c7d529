-- What is told and tidied by a later schema, and that one cause at most applies for which it is
-- not.
use Rattle.std.proofs.Common.{◌≡◌, ◌∙◌, ◌⊎◌, ◌+◌, ℕ, Option, Some, None, List, inl, inr, sym, ap, subst, arith, Ok, Err, rules}
use Rattle.std.specs.Prelude.{option_map}
use Rattle.ee_flash.specs.Device.{Device}
use Rattle.ee_flash.specs.Size.{Size}
use Rattle.ee_core.specs.State.{State, state_of}
use Rattle.ee_settings.proofs.Public.{each_goes_on, leaves_named, leaves_state, none_spent, spent_among}
use Rattle.ee_settings.specs.Setting.{Schema, Setting}
use Rattle.ee_settings.specs.Stale.{stale_in}
use Rattle.ee_settings.specs.Tidying.{IsSpentAmong, Tidies, after_forgettings, kept_map, unnamed_in}
use Rattle.ee_settings.specs.declared.fault.TidyFault.{TidyFault}
use Rattle.ee_settings.specs.declared.fault.TidyFault.TheVariants as tidy
use Rattle.ee_interface.specs.declared.fault.Fault.{Fault}
use Rattle.ee_interface.specs.declared.fault.Fault.TheVariants.{Memory, Spent}
use Rattle.ee_image_store.proofs.Public.{no_memory_to_open, same_at_rest, same_state}
use Rattle.ee_shell.proofs.ByNameLemmas.Named.{whole_once}
use Rattle.ee_image_store.specs.Opening.{IsOpened, IsStoreLeft, StaysOn}
use Rattle.ee_shell.specs.ByName.SecondSchema.{AreStaleLines, IsSpentFor, IsTidied, IsTidiedImage, IsTidyImageFault, LeavesTidied, stale_lines}
use Rattle.ee_shell.specs.ByName.Settings.{SpellsSchema, SpellsSettings}

-- ---- tidying a store

none_left : (cuts : Option ℕ) → Some 0 ≡ option_map (λ left. left + 1) cuts → ⊥
none_left None e = let wrong : ◌≡◌ {A = Option ℕ} (Some 0) None = e in cc wrong
none_left (Some n) e = let wrong : 0 ≡ n + 1 = cc e in omega arith

-- power that stays on is not cut in it
never_cut : (schema : Schema) (old new : Device) → StaysOn old
    → Tidies schema old (Err tidy.Cut) new → ⊥
never_cut schema old new on stops = search (rules, each_goes_on, none_left)

pub is_tidied : (schema : Schema) (old new : Device) (count : ℕ) → StaysOn old
    → Tidies schema old (Ok count) new → IsTidied schema old count new
is_tidied schema old new count on done =
    let goes = each_goes_on (unnamed_in schema (state_of old).map) old new done.2 in
    record {
      tidied = done;
      map_is = leaves_named schema old new count done;
      state_is = leaves_state schema old new count done;
      stays_on =
          record { on = goes.same_power ∙ on.on; never_cut = goes.same_cuts_left ∙ on.never_cut };
      same_size = goes.same_size;
    }

-- the same of a fault that is found to be one of these
pub never_cut_so : (schema : Schema) (old new : Device) (why : TidyFault) → why ≡ tidy.Cut
    → StaysOn old → Tidies schema old (Err why) new → ⊥
never_cut_so schema old new why is on stops =
    never_cut schema old new on
    (subst (λ (one : TidyFault). Tidies schema old (Err one) new) is stops)

pub spent_so : (schema : Schema) (old new : Device) (why : TidyFault) → why ≡ tidy.Spent
    → Tidies schema old (Err why) new
    → IsSpentAmong old.size (unnamed_in schema (state_of old).map) (state_of old)
spent_so schema old new why is stops =
    spent_among schema old new
    (subst (λ (one : TidyFault). Tidies schema old (Err one) new) is stops)

-- ---- what is told

-- the lines of the opened store's stale entries are those of the image's
pub are_stale_lines : (image text lines : List ℕ) (store : Device) (settings : List Setting)
    → IsOpened image store → SpellsSettings text settings
    → lines ≡ stale_lines settings (stale_in (state_of store).map settings)
    → AreStaleLines image text lines
are_stale_lines image text lines store settings opened spelled says = search rules

-- ---- the image that is left

pub is_tidied_image : (image text new_image line : List ℕ) (store : Device)
    (schema : Schema)
    → IsOpened image store → SpellsSchema text schema
    → LeavesTidied schema store new_image line → IsTidiedImage image text new_image line
is_tidied_image image text new_image line store schema opened spelled done = record {
  store = store;
  opened = opened;
  schema = schema;
  spelled = spelled;
  count = done.count;
  last = done.last;
  tidied = done.tidied.tidied;
  map_is =
      λ address. done.tidied.map_is address
      ∙ ap (λ (state : State). kept_map schema state.map address) opened.state_is;
  state_is =
      done.tidied.state_is
      ∙ ap (λ (state : State). after_forgettings store.size (unnamed_in schema state.map) state)
      opened.state_is
      ∙ ap
      (λ (size : Size). after_forgettings size
      (unnamed_in schema (state_of opened.device).map) (state_of opened.device))
      opened.same_size;
  left = subst (λ (size : Size). IsStoreLeft size new_image done.last)
      (done.tidied.same_size ∙ opened.same_size) done.left;
  line_is = done.line_is;
}

pub is_spent_for : (image text : List ℕ) (store : Device) (schema : Schema) (fault : Fault)
    → IsOpened image store → SpellsSchema text schema → fault ≡ Spent
    → IsSpentAmong store.size (unnamed_in schema (state_of store).map) (state_of store)
    → IsSpentFor image text fault
is_spent_for image text store schema fault opened spelled told spent = search rules

-- why no image is left: the store is spent, or memory ran out
pub untidied : (image text : List ℕ) (store : Device) (schema : Schema) (fault : Fault)
    → IsOpened image store → SpellsSchema text schema
    → (IsSpentAmong store.size (unnamed_in schema (state_of store).map) (state_of store)
    × (fault ≡ Spent))
    ⊎ (fault ≡ Memory)
    → IsTidyImageFault image text fault
untidied image text store schema fault opened spelled (inl h) =
    inr (inr (is_spent_for image text store schema fault opened spelled h.1 h.0))
untidied image text store schema fault opened spelled (inr none) =
    rw none (inl (no_memory_to_open image))

-- ---- the causes

-- what is spent in the image is spent in its store
spent_there : (image text : List ℕ) (store : Device) (schema : Schema) (cause : Fault)
    → IsOpened image store → SpellsSchema text schema → IsSpentFor image text cause
    → IsSpentAmong store.size (unnamed_in schema (state_of store).map) (state_of store)
spent_there image text store schema cause opened spelled h =
    let rest = same_at_rest image h.device opened.device h.old.spelled opened.old.spelled in
    let size : h.device.size ≡ store.size =
    ap (λ (d : Device). d.size) rest ∙ sym opened.same_size in
    let state : state_of h.device ≡ state_of store =
    same_state h.device opened.device rest ∙ sym opened.state_is in
    subst
    (λ (ss : Schema).
    IsSpentAmong store.size (unnamed_in ss (state_of store).map) (state_of store))
    (whole_once text h.schema schema h.spelled spelled)
    (subst
    (λ (s : Size). IsSpentAmong s (unnamed_in h.schema (state_of store).map) (state_of store))
    size
    (subst (λ (t : State). IsSpentAmong h.device.size (unnamed_in h.schema t.map) t) state
    h.spent))

pub tidy_good : (image text : List ℕ) (store new : Device) (schema : Schema) (count : ℕ)
    (cause : Fault)
    → IsOpened image store → SpellsSchema text schema → IsTidied schema store count new
    → IsSpentFor image text cause → ⊥
tidy_good image text store new schema count cause opened spelled done h =
    none_spent schema store new count done.tidied
    (spent_there image text store schema cause opened spelled h)
