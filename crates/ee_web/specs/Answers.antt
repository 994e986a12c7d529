-- What calls answer, and the numbers that stand for it.
use Rattle.std.specs.Prelude.{ℕ, Bool, true, false}
use Rattle.ee_pages.specs.declared.find.ScanFault.TheVariants.{Unformatted, NoLiveSet, TwoLive, Foreign}
use Rattle.ee_core.specs.declared.rescuing.Rescued as core
use Rattle.ee_web.specs.declared.answer.Answer.{Answer}
use Rattle.ee_web.specs.declared.answer.Answer.TheVariants.{Done, Moved, Nothing, Full, Spent, Absent, NoStore, ListTooShort, WrongShape, ImproperAddress, Twice, NothingBegun, Rescued}
use Rattle.ee_web.specs.declared.answer.CallResult.{CallResult}

-- the number of an answer
abbrev pub status_of : Answer → ℕ
status_of Done = 0
status_of Moved = 1
status_of Nothing = 2
status_of Full = 3
status_of Spent = 4
status_of Absent = 5
status_of (NoStore Unformatted) = 6
status_of (NoStore NoLiveSet) = 7
status_of (NoStore TwoLive) = 8
status_of (NoStore (Foreign page at)) = 9
status_of ListTooShort = 10
status_of WrongShape = 11
status_of ImproperAddress = 12
status_of Twice = 13
status_of NothingBegun = 14
status_of (Rescued rescued) = 15

-- the page and the place of a foreign word, 0 where the answer names none
abbrev pub foreign_at : Answer → ℕ × ℕ
foreign_at (NoStore (Foreign page at)) = (page, at)
foreign_at answer = (0, 0)

-- what a rescue found and made, 0 and 0 where the answer is none of one
abbrev pub rescued_in : Answer → core.Rescued
rescued_in (Rescued rescued) = rescued
rescued_in answer = record { bad_words = 0; live = 0 }

-- Whether the steps that a call listed are played on the mirror: not where the words are no store,
-- or the call is refused.
abbrev pub is_played : Answer → Bool
is_played (NoStore fault) = false
is_played ListTooShort = false
is_played WrongShape = false
is_played ImproperAddress = false
is_played answer = true

-- what the caller is told of an answer, with so many steps listed
abbrev pub result_of : Answer → ℕ → CallResult
result_of answer listed = record {
  status = status_of answer;
  listed = listed;
  page = (foreign_at answer).0;
  place = (foreign_at answer).1;
  bad = (rescued_in answer).bad_words;
  live = (rescued_in answer).live;
}
