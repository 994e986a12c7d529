-- The values that the numbers of a part mean, and the store that takes them.
use Rattle.std.specs.Prelude.{◌≡◌, ◌==◌, ◌&&◌, ℕ, Bool, not, nat_lt, if◌then◌else◌, is_none, Option, Some, None, List, [], ◌∷◌, length, replicate}
use Rattle.std.specs.List.{list_any}
use Rattle.ee_flash.specs.Device.{Device}
use Rattle.ee_flash.specs.Size.{Size, page_count}
use Rattle.ee_pages.specs.Meaning.{Map, Put, live_in}
use Rattle.ee_core.specs.State.{State, appended_state, formatted_state, state_of}
use Rattle.ee_image_store.specs.Opening.{StaysOn}
use Rattle.ee_shell.specs.Xcube.Element.{address_in, value_in, is_xcube_element}
use Rattle.ee_shell.specs.Xcube.Pages.{numbers_of}

-- an element says its data of its address
abbrev pub element_says : ℕ → ℕ → Option ℕ
element_says number address =
    if is_xcube_element number && address_in number == address then Some (value_in number) else None

abbrev pub value_or : Option ℕ → Option ℕ → Option ℕ
value_or None other = other
value_or (Some value) other = Some value

-- what the last number that says something of the address says
abbrev pub latest : List ℕ → Map
latest [] address = None
latest (number ∷ numbers) address = value_or (latest numbers address) (element_says number address)

-- the values of a part
abbrev pub values_of : Device → Map
values_of part = latest (numbers_of part)

-- there are numbers, and none of them is an element
abbrev pub lacks_elements : List ℕ → Bool
lacks_elements numbers = nat_lt 0 (length numbers) && not (list_any is_xcube_element numbers)

-- a new store in which each of these values was written once
abbrev pub state_with_values : Map → State
state_with_values map = record formatted_state { map = map; fill = live_in map }

-- a store of this size has this state, and no page of it was erased
pub record HoldsValues (size : Size) (map : Map) (device : Device) : Type 0 where
  pub stays_on : StaysOn device
  pub same_size : device.size ≡ size
  pub state_is : state_of device ≡ state_with_values map
  pub no_wear : device.wear ≡ replicate (page_count size) 0

-- ---- for the functions within

-- an address without a value gets what an element says of it
abbrev pub taken_state : ℕ → State → State
taken_state number state =
    if is_xcube_element number && is_none (state.map (address_in number))
    then appended_state (Put (address_in number) (value_in number)) state
    else state

-- each used slot has a value of its own
pub record IsTidy (device : Device) : Type 0 where
  pub stays_on : StaysOn device
  pub fill_is : (state_of device).fill ≡ live_in (state_of device).map

-- the store took a number
pub record TakesNumber (old : Device) (number : ℕ) (new : Device) : Type 0 where
  pub stays_on : StaysOn new
  pub same_size : new.size ≡ old.size
  pub state_is : state_of new ≡ taken_state number (state_of old)
  pub no_wear : new.wear ≡ old.wear
