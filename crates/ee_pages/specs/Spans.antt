-- The values of addresses that follow one another.
use Rattle.std.specs.Prelude.{◌≡◌, ◌<◌, ◌+◌, ◌%◌, ◌^◌, ℕ, is_some, List, Option, slice_index, true}
use Rattle.ee_flash.specs.declared.word.Word.TheVariants.{Held}
use Rattle.ee_pages.specs.Meaning.{Map, later_of, says, value_said}

-- a span: its first address, how many it has, and of each what is said, as a number
pub record Span : Type 0 where
  pub first : ℕ
  pub count : ℕ
  pub numbers : List ℕ

-- what a number says of the address that it ends in
abbrev pub own_said : ℕ → Option (Option ℕ)
own_said number = says (Held number) (number % 2 ^ 16)

-- what a span says of its address at this place
abbrev pub span_says : Span → ℕ → Option (Option ℕ)
span_says span at = own_said (slice_index span.numbers at)

-- Of each of its addresses a span has what it had, or where it had nothing what is said before.
pub record TellsBefore (said : ℕ → Option (Option ℕ)) (old new : Span) : Type 0 where
  pub first : new.first ≡ old.first
  pub count : new.count ≡ old.count
  pub each : (at : ℕ) → at < old.count
      → span_says new at ≡ later_of (said (old.first + at)) (span_says old at)

-- of so many of its addresses, the first ones, something is said
abbrev pub AreSaidTo : Span → ℕ → Type 0
AreSaidTo span end = (at : ℕ) → at < end → is_some (span_says span at) ≡ true

-- the span has an address at least, and each of its addresses has the value that the map has
pub record IsSpan (values : Map) (span : Span) : Type 0 where
  pub some : 0 < span.count
  pub each : (at : ℕ) → at < span.count
      → value_said (span_says span at) ≡ values (span.first + at)
