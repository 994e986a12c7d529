-- What the code finds of an entry, and what that makes of it; and how the entries that
-- were gone over grow.
use Rattle.std.proofs.Common.{◌≡◌, ◌≢◌, ◌⊎◌, ◌∙◌, ◌+◌, ℕ, ℤ, List, [], ◌∷◌, ◌++◌, length, map, Option, Some, None, Ok, String, Global, Bor, inl, inr, refl, sym, ap, subst, rules}
use Rattle.std.proofs.lemmas.List.{length-map}
use Rattle.std.specs.Map.Iter.{deref_pair}
use Rattle.std.specs.Prelude.{pos}
use Rattle.toml.specs.Data.{Data, as_integer, integer}
use Rattle.toml.specs.declared.value.Value.{Value}
use Rattle.ee_flash.specs.Device.{Device}
use Rattle.ee_flash.specs.Size.{Size}
use Rattle.ee_core.specs.Calls.{Writes}
use Rattle.ee_core.specs.State.{State, state_of}
use Rattle.ee_core.specs.declared.variables.Written.{Written}
use Rattle.ee_settings.proofs.Public.{integer_found, seen}
use Rattle.ee_settings.specs.Calls.{IsNumbersOf, IsUnknown}
use Rattle.ee_settings.specs.File.{Entry}
use Rattle.ee_settings.specs.Setting.{IsInRange, Setting}
use Rattle.ee_settings.specs.declared.numbers.Numbers.{Numbers}
use Rattle.ee_interface.specs.declared.fault.Fault.{Fault}
use Rattle.ee_interface.specs.declared.fault.Fault.TheVariants.{BadValue, Memory, UnknownValue, ValueOutOfRange}
use Rattle.ee_image_store.specs.Opening.{StaysOn}
use Rattle.ee_shell.proofs.ByNameLemmas.Named.{is_written}
use Rattle.ee_shell.proofs.ByNameLemmas.Taken.{applied_more}
use Rattle.ee_shell.specs.ByName.Applying.{Applies, IsEntryRefusal, IsWriteRefusalAt, StopsAtEntry, TakesEntry}
use Rattle.ee_shell.specs.ByName.Verifying.{IsEntryFault, IsWanted}

-- ---- one entry

integer_is : (tree : Data) (number : ℤ) → as_integer tree ≡ Some number → tree ≡ integer number
integer_is tree number h =
    let found : ◌≡◌ {A = Option Data} (Some tree) (Some (integer number)) =
    integer_found (Some tree) number h in
    cc found

-- no number is found
pub bad_value : (settings : List Setting) (number : ℕ) (name : List ℕ) (tree : Data)
    → as_integer tree ≡ None → IsEntryFault settings number (name, tree) (BadValue number)
bad_value settings number name tree none =
    inl ((λ n is. let some : as_integer tree ≡ Some n = ap as_integer is in cc (none, some)), refl)

pub unknown_value : (settings : List Setting) (number : ℕ) (name : List ℕ) (tree : Data) (n : ℤ)
    → as_integer tree ≡ Some n → IsUnknown settings name
    → IsEntryFault settings number (name, tree) (UnknownValue number)
unknown_value settings number name tree n some unknown =
    inr (inl (n, integer_is tree n some, unknown, refl))

pub value_out_of_range : (settings : List Setting) (number : ℕ) (name : List ℕ) (tree : Data)
    (n : ℤ) (numbers : Numbers)
    → as_integer tree ≡ Some n → IsNumbersOf settings name numbers
    → ((value : ℕ) → IsInRange numbers value → n ≢ pos value)
    → IsEntryFault settings number (name, tree) (ValueOutOfRange number numbers.min numbers.max)
value_out_of_range settings number name tree n numbers some h out =
    inr
    (inr (
      n,
      integer_is tree n some,
      h.1,
      h.2,
      (λ value within. out value (subst (λ (ns : Numbers). IsInRange ns value) h.3 within)),
      ap (λ (ns : Numbers). ValueOutOfRange number ns.min ns.max) (sym h.3),
    ))

pub is_wanted : (settings : List Setting) (name : List ℕ) (tree : Data) (n : ℤ) (numbers : Numbers)
    (value : ℕ)
    → as_integer tree ≡ Some n → IsNumbersOf settings name numbers
    → (n ≡ pos value) × IsInRange numbers value → IsWanted settings (name, tree) numbers value
is_wanted settings name tree n numbers value some h within = record {
  number = integer_is tree n some ∙ ap integer within.0;
  setting = h.1;
  named = h.2;
  numbers_are = h.3;
  in_range = within.1;
}

-- what an entry is refused for whatever the store is
pub fault_refuses : (settings : List Setting) (size : Size) (state : State) (number : ℕ)
    (entry : Entry) (fault : Fault)
    → IsEntryFault settings number entry fault
    → IsEntryRefusal settings size state number entry fault
fault_refuses settings size state number entry fault (inl h) = inl h
fault_refuses settings size state number entry fault (inr (inl h)) = inr (inl h)
fault_refuses settings size state number entry fault (inr (inr h)) =
    inr (inr (h.0, h.1, h.2, h.3, inl (h.4, h.5)))

within_own : (settings : List Setting) (entry : Entry) (numbers : Numbers) (value : ℕ)
    (wanted : IsWanted settings entry numbers value)
    → IsInRange wanted.setting.numbers value
within_own settings entry numbers value wanted =
    subst (λ (ns : Numbers). IsInRange ns value) (sym wanted.numbers_are) wanted.in_range

-- its value is stored already
pub taken_stored : (settings : List Setting) (device : Device) (entry : Entry) (numbers : Numbers)
    (value : ℕ)
    → IsWanted settings entry numbers value → (state_of device).map numbers.address ≡ Some value
    → TakesEntry settings device entry 0 device
taken_stored settings device entry numbers value wanted stored = inl (
  record {
    value = value;
    number = wanted.number;
    setting = wanted.setting;
    named = wanted.named;
    in_range = within_own settings entry numbers value wanted;
    stored =
        ap (λ (ns : Numbers). (state_of device).map ns.address) wanted.numbers_are ∙ stored;
  },
  refl,
  refl,
)

-- it was written
pub taken_new : (settings : List Setting) (old new : Device) (entry : Entry) (numbers : Numbers)
    (value : ℕ) (answer : Written)
    → StaysOn old → IsWanted settings entry numbers value
    → (state_of old).map numbers.address ≢ Some value
    → Writes old numbers.address value (Ok answer) new → TakesEntry settings old entry 1 new
taken_new settings old new entry numbers value answer on wanted another writes = inr (
  record {
    value = value;
    number = wanted.number;
    setting = wanted.setting;
    named = wanted.named;
    another =
        λ same. another
        (ap (λ (ns : Numbers). (state_of old).map ns.address) (sym wanted.numbers_are) ∙ same);
    written = is_written settings old new entry.0 value answer on (
      wanted.setting,
      wanted.named,
      within_own settings entry numbers value wanted,
      subst (λ (ns : Numbers). Writes old ns.address value (Ok answer) new)
          (sym wanted.numbers_are) writes,
    );
  },
  refl,
)

-- its write was refused
pub unwritten : (settings : List Setting) (old : Device) (number : ℕ) (entry : Entry)
    (numbers : Numbers) (value : ℕ) (fault : Fault)
    → IsWanted settings entry numbers value → (state_of old).map numbers.address ≢ Some value
    → IsWriteRefusalAt old.size (state_of old) number numbers.address fault ⊎ (fault ≡ Memory)
    → IsEntryRefusal settings old.size (state_of old) number entry fault ⊎ (fault ≡ Memory)
unwritten settings old number entry numbers value fault wanted another (inr none) = inr none
unwritten settings old number entry numbers value fault wanted another (inl refused) =
    inl
    (inr
    (inr (
      pos value,
      wanted.number,
      wanted.setting,
      wanted.named,
      inr (
        value,
        refl,
        within_own settings entry numbers value wanted,
        (λ same. another
            (ap (λ (ns : Numbers). (state_of old).map ns.address) (sym wanted.numbers_are)
            ∙ same)),
        subst (λ (ns : Numbers). IsWriteRefusalAt old.size (state_of old) number ns.address fault)
            (sym wanted.numbers_are) refused,
      ),
    )))

-- ---- all of them

pub as_many : (yielded : List (Bor (String Global) × Bor Value))
    → length (map seen (map deref_pair yielded)) ≡ length yielded
as_many yielded = length-map (map deref_pair yielded) seen ∙ length-map yielded deref_pair

pub entry_taken : (settings : List Setting) (before grown : List Entry) (name text : List ℕ)
    (tree : Data) (old mid new : Device) (count more : ℕ)
    → grown ≡ before ++ (text, tree) ∷ [] → name ≡ text → Applies settings before old count mid
    → TakesEntry settings mid (name, tree) more new → Applies settings grown old (count + more) new
entry_taken settings before grown name text tree old mid new count more grows same h takes =
    search (rules, applied_more)

pub entry_refused : (settings : List Setting) (all before after : List Entry) (name text : List ℕ)
    (tree : Data) (old mid : Device) (count number : ℕ) (fault : Fault)
    → all ≡ before ++ (text, tree) ∷ after → name ≡ text → number ≡ length before + 1
    → Applies settings before old count mid
    → IsEntryRefusal settings mid.size (state_of mid) number (name, tree) fault ⊎ (fault ≡ Memory)
    → StopsAtEntry settings all old fault ⊎ (fault ≡ Memory)
entry_refused settings all before after name text tree old mid count number fault split same at h
    (inr none) =
    inr none
entry_refused settings all before after name text tree old mid count number fault split same at h
    (inl refused) =
    inl (record {
      before = before;
      entry = (text, tree);
      after = after;
      split = split;
      count = count;
      mid = mid;
      applied = h;
      refused =
          subst (λ n. IsEntryRefusal settings mid.size (state_of mid) n (text, tree) fault) at
          (subst
          (λ (t : List ℕ).
          IsEntryRefusal settings mid.size (state_of mid) number (t, tree) fault) same
          refused);
    })
