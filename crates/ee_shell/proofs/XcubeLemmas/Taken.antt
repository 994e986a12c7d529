-- A store that takes numbers, the last first.
use Rattle.std.proofs.Common.{◌≡◌, ◌⊎◌, inl, inr, ◌∙◌, ◌<◌, ◌≤◌, ◌+◌, ℕ, true, false, None, List, [], ◌∷◌, drop, get_or, length, refl, sym, ap, subst, arith}
use Rattle.std.proofs.Math.Path.{fun_ext}
use Rattle.std.proofs.lemmas.List.{drop_more}
use Rattle.ee_flash.specs.Device.{Device}
use Rattle.ee_flash.specs.Size.{Size, slot_count}
use Rattle.ee_pages.specs.Meaning.{Map, Put, live_in}
use Rattle.ee_core.proofs.Public.{live_in-nothing}
use Rattle.ee_core.specs.Changes.{Appends, IsFull}
use Rattle.ee_core.specs.State.{State, capacity, state_of}
use Rattle.ee_interface.specs.declared.fault.Fault.{Fault}
use Rattle.ee_interface.specs.declared.fault.Fault.TheVariants.{DumpFull, Memory}
use Rattle.ee_image_store.specs.Opening.{IsNewStore, StaysOn}
use Rattle.ee_shell.specs.Xcube.Element.{address_in, is_xcube_element, value_in}
use Rattle.ee_shell.specs.Xcube.Values.{HoldsValues, IsTidy, TakesNumber, latest, state_with_values, taken_state}
use Rattle.ee_shell.proofs.XcubeLemmas.Latest.{behind_has_fewer, one_new, one_taken, state_at}

-- each used slot has a value of its own
pub tidy : (size : Size) (map : Map) (device : Device) → HoldsValues size map device
    → IsTidy device
tidy size map device holds = record {
  stays_on = holds.stays_on;
  fill_is =
      ap (λ (s : State). s.fill) holds.state_is
      ∙ sym (ap (λ (s : State). live_in s.map) holds.state_is);
}

split : (numbers : List ℕ) (n : ℕ) → n < length numbers
    → drop n numbers ≡ get_or numbers n 0 ∷ drop (n + 1) numbers
split numbers n inside = drop_more numbers n 0 inside

-- one number more
pub holds_more : (size : Size) (numbers : List ℕ) (n : ℕ) (old new : Device) → n < length numbers
    → HoldsValues size (latest (drop (n + 1) numbers)) old → TakesNumber old (get_or numbers n 0) new
    → HoldsValues size (latest (drop n numbers)) new
holds_more size numbers n old new inside holds takes =
    let number = get_or numbers n 0 in
    rw (split numbers n inside)
    (record {
      stays_on = takes.stays_on;
      same_size = takes.same_size ∙ holds.same_size;
      state_is =
          takes.state_is
          ∙ (ap (taken_state number) holds.state_is ∙ one_taken number (drop (n + 1) numbers));
      no_wear = takes.no_wear ∙ holds.no_wear;
    })

-- the store is full before all are taken
pub too_many : (size : Size) (numbers : List ℕ) (n : ℕ) (old : Device) → n < length numbers
    → HoldsValues size (latest (drop (n + 1) numbers)) old
    → is_xcube_element (get_or numbers n 0) ≡ true
    → IsFull (capacity old) (state_of old) (address_in (get_or numbers n 0))
    → slot_count size < live_in (latest numbers)
too_many size numbers n old inside holds fits full =
    let number = get_or numbers n 0 in
    let rest = drop (n + 1) numbers in
    let none : latest rest (address_in number) ≡ None =
    ap (λ (s : State). s.map (address_in number)) (sym holds.state_is) ∙ full.new_address in
    let all : live_in (latest rest) ≡ slot_count size =
    ap (λ (s : State). live_in s.map) (sym holds.state_is)
    ∙ (full.all_live ∙ ap slot_count holds.same_size) in
    let more : live_in (latest (number ∷ rest)) ≡ live_in (latest rest) + 1 =
    one_new number rest fits none in
    let few : live_in (latest (drop n numbers)) ≤ live_in (latest numbers) =
    behind_has_fewer n numbers in
    let whole : live_in (latest (number ∷ rest)) ≤ live_in (latest numbers) =
    rw (split numbers n inside) at few in
    omega (arith, all, more, whole)

pub refused : (size : Size) (numbers : List ℕ) (n : ℕ) (old : Device) (fault : Fault)
    → n < length numbers → HoldsValues size (latest (drop (n + 1) numbers)) old
    → ((is_xcube_element (get_or numbers n 0) ≡ true)
    × IsFull (capacity old) (state_of old) (address_in (get_or numbers n 0)) × (fault ≡ DumpFull))
    ⊎ (fault ≡ Memory)
    → (slot_count size < live_in (latest numbers) × (fault ≡ DumpFull)) ⊎ (fault ≡ Memory)
refused size numbers n old fault inside holds (inl h) =
    inl (too_many size numbers n old inside holds h.0 h.1, h.2)
refused size numbers n old fault inside holds (inr none) = inr none

-- a new store holds nothing
pub new_holds : (size : Size) (device : Device) → IsNewStore size device
    → HoldsValues size (latest []) device
new_holds size device new = record {
  stays_on = new.stays_on;
  same_size = new.size_is;
  state_is =
      new.state_is
      ∙ (ap (λ (map : Map). state_at map 0) (fun_ext (λ address. refl))
      ∙ ap (state_at (latest [])) (live_in-nothing (latest []) (λ address. refl)));
  no_wear = new.no_wear;
}

pub new_holds_own : (size : Size) (device : Device) → IsNewStore size device
    → HoldsValues device.size (latest []) device
new_holds_own size device new =
    subst (λ (own : Size). HoldsValues own (latest []) device) (sym new.size_is) (new_holds size device new)
