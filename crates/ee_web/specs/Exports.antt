-- What a call of the library tells its caller, and what it leaves in the memory that is lent to it.
use Rattle.std.specs.Prelude.{◌≡◌, ◌≤◌, ℕ, List, length, take}
use Rattle.std.specs.List.{All}
use Rattle.ee_codec.specs.Words.{IsAddress}
use Rattle.ee_flash.specs.Endurance.{CanTakeAll}
use Rattle.ee_flash.specs.Laws.{all_completed}
use Rattle.ee_flash.specs.Size.{Size}
use Rattle.ee_web.specs.Answers.{result_of}
use Rattle.ee_web.specs.Calls.{Answers, FillsList}
use Rattle.ee_web.specs.Listing.{IsZeroIfErase, steps_of}
use Rattle.ee_web.specs.Mirror.{MirrorFits, Mirror, device_in}
use Rattle.ee_web.specs.declared.answer.Answer.{Answer}
use Rattle.ee_web.specs.declared.answer.Answer.TheVariants.{NoStore, ListTooShort, WrongShape, ImproperAddress}
use Rattle.ee_web.specs.declared.answer.CallResult.{CallResult}
use Rattle.ee_web.specs.declared.listing.ListedStep.{ListedStep}
use Rattle.ee_web.specs.declared.request.Request.{Request}
use Rattle.ee_web.specs.declared.request.Request.TheVariants.{Write, WriteBoth, Forget}

-- Nothing is written, and nothing is listed.
pub record WritesNothing (old new : Mirror) (count : ℕ) : Type 0 where
  pub same : new ≡ old
  pub none_listed : count ≡ 0

-- The first so many of the listed steps can be taken, each when it comes, and an erase has the
-- value 0; the mirror means what they lead to when they are played in order.
pub record IsPlayed (size : Size) (old new : Mirror) (listed : List ListedStep) (count : ℕ)
    : Type 0 where
  pub fits : MirrorFits size new
  pub within : count ≤ length listed
  pub taken : CanTakeAll (steps_of count listed) (device_in size old)
  pub zeros : All IsZeroIfErase (take count listed)
  pub played : device_in size new ≡ all_completed (steps_of count listed) (device_in size old)

-- its addresses, where it has any, are proper
abbrev pub IsProperRequest : Request ℕ → Type 0
IsProperRequest (Write address value) = IsAddress address
IsProperRequest (WriteBoth first one second other) = IsAddress first × IsAddress second
IsProperRequest (Forget address) = IsAddress address
IsProperRequest request = Unit {0}

-- What an answer to a request says. Where the words are no store nothing is written or listed. A
-- list that is too short is full of steps, such as the call may have taken when power is cut in it,
-- and nothing is written.
abbrev pub EndsCall : Size → Request ℕ → Answer → Mirror → Mirror → List ListedStep → ℕ → Type 0
EndsCall size request WrongShape old new listed count =
    ¬ MirrorFits size old × WritesNothing old new count
EndsCall size request ImproperAddress old new listed count =
    MirrorFits size old × ¬ IsProperRequest request × WritesNothing old new count
EndsCall size request ListTooShort old new listed count =
    MirrorFits size old × IsProperRequest request × WritesNothing old new count
    × FillsList (device_in size old) listed (Answers request (device_in size old) ListTooShort)
EndsCall size request (NoStore fault) old new listed count =
    MirrorFits size old × IsProperRequest request × WritesNothing old new count
    × Answers request (device_in size old) (NoStore fault) (device_in size new)
EndsCall size request answer old new listed count =
    MirrorFits size old × IsProperRequest request × IsPlayed size old new listed count
    × Answers request (device_in size old) answer (device_in size new)

-- a call that takes steps: it tells one answer, which says what it says
abbrev pub MakesCall : Size → Request ℕ → CallResult → Mirror → Mirror → List ListedStep → Type 0
MakesCall size request result old new listed =
    (answer : Answer) × (result ≡ result_of answer result.listed)
    × EndsCall size request answer old new listed result.listed
