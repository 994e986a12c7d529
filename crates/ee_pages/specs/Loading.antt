-- The values of a list of addresses.
use Rattle.std.specs.Prelude.{ℕ, Option, Some, None, List, map}
use Rattle.ee_flash.specs.declared.word.Word.{Word}
use Rattle.ee_pages.specs.Meaning.{Map, latest_in}
use Rattle.ee_pages.specs.declared.loading.Wanted.{Wanted}

-- each entry with the value of its address
abbrev pub loaded : Map → List Wanted → List Wanted
loaded values entries =
    map (λ entry. record { address = entry.address; value = values entry.address }) entries

-- the value of an address of which something more is said, or nothing
abbrev pub value_over : Option ℕ → Option (Option ℕ) → Option ℕ
value_over old None = old
value_over old (Some said) = said

-- each entry with the value that these slots give its address, where they say something of it
abbrev pub told : List Word → List Wanted → List Wanted
told slots entries =
    map
    (λ entry. record {
      address = entry.address;
      value = value_over entry.value (latest_in slots entry.address);
    })
    entries
