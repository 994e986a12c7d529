-- How a reader goes over the live addresses of a map.
use Rattle.std.specs.Prelude.{ℕ, Option, List, drop, take}
use Rattle.std.specs.List.{All}
use Rattle.ee_codec.specs.Words.{IsAddress}
use Rattle.ee_pages.specs.Meaning.{Map}
use Rattle.ee_pages.specs.LiveOrder.{AreNextLive, IsNoneLive, last_of}

-- The address behind which it goes on, the next live addresses that it has ready, with their
-- values, and up to where there are no others: `None` for all addresses.
pub record Course : Type 0 where
  pub after : ℕ
  pub ready : List (ℕ × ℕ)
  pub through : Option ℕ

-- of a batch of which this many were given: the last of those, and where a reader is then
abbrev pub last_given : List (ℕ × ℕ) → ℕ → ℕ
last_given found given = last_of 0 (take given found)

abbrev pub course_of : List (ℕ × ℕ) → Option ℕ → ℕ → Course
course_of found through given =
    record { after = last_given found given; ready = drop given found; through = through }

-- it goes over the live addresses of this map
pub record GoesOver (map : Map) (course : Course) : Type 0 where
  pub next : AreNextLive map course.after course.ready
  pub rest : IsNoneLive map (last_of course.after course.ready) course.through
  pub proper : All (λ (found : ℕ × ℕ). IsAddress found.0) course.ready
