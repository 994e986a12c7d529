-- What a request is answered, and what it leaves of the device that the mirror means, by cases on
-- the request and on the answer. Where the list is too short that is a device whose power is cut in
-- the step that finds no place in it.
use Rattle.std.specs.Prelude.{◌≡◌, ◌<◌, ◌≤◌, ◌⊎◌, ℕ, Ok, Err, true, false, List, [], ◌∷◌, length, take}
use Rattle.std.specs.List.{All}
use Rattle.ee_flash.specs.Device.{Device}
use Rattle.ee_flash.specs.Endurance.{CanTakeAll}
use Rattle.ee_flash.specs.Laws.{all_completed}
use Rattle.ee_flash.specs.Size.{page_count}
use Rattle.ee_flash.specs.Step.{one_more, with_page_worn}
use Rattle.ee_pages.specs.Layout.{IsScanFault}
use Rattle.ee_core.specs.Calls.{Cleans, Forgets, Writes, WritesAll}
use Rattle.ee_core.specs.Emptying.{Clears}
use Rattle.ee_core.specs.Openings.{IsCutFormat, IsCutOpening, IsFormatted, Opens}
use Rattle.ee_core.specs.Rescues.{IsRescued, RescueFails}
use Rattle.ee_core.specs.declared.rescuing.RescueFault.TheVariants as rescue
use Rattle.ee_core.specs.declared.variables.Written.TheVariants as written
use Rattle.ee_core.specs.declared.change.Put.{Put}
use Rattle.ee_core.specs.declared.variables.WriteAllFault.TheVariants as all
use Rattle.ee_core.specs.declared.variables.WriteFault.TheVariants as write
use Rattle.ee_core.specs.declared.variables.ForgetFault.TheVariants as forget
use Rattle.ee_core.specs.declared.variables.ClearFault.TheVariants as clear
use Rattle.ee_web.specs.Draft.{IsFresh}
use Rattle.ee_web.specs.Listing.{IsZeroIfErase, steps_of}
use Rattle.ee_web.specs.declared.answer.Answer.{Answer}
use Rattle.ee_web.specs.declared.answer.Answer.TheVariants.{Done, Moved, Nothing, Full, Spent, Absent, NoStore, ListTooShort, Twice, NothingBegun, Rescued}
use Rattle.ee_web.specs.declared.listing.ListedStep.{ListedStep}
use Rattle.ee_web.specs.declared.request.Request.{Request}
use Rattle.ee_web.specs.declared.request.Request.TheVariants.{Format, Open, Write, WriteBoth, Forget, Clean, Clear, Rescue}

-- a format makes a store with nothing in it
abbrev pub Formats : Device → Answer → Device → Type 0
Formats old Done new = IsFormatted old new
Formats old ListTooShort new = IsCutFormat old new
Formats old answer new = ⊥

-- a rescue makes a store of what can be read, or is refused
abbrev pub RescuesWords : Device → Answer → Device → Type 0
RescuesWords old (Rescued rescued) new = IsRescued old rescued new
RescuesWords old NothingBegun new = RescueFails old rescue.NothingBegun new
RescuesWords old Spent new = RescueFails old rescue.Spent new
RescuesWords old ListTooShort new = RescueFails old rescue.Cut new
RescuesWords old answer new = ⊥

-- an opening that fails, and why
abbrev pub IsNotOpened : Device → Answer → Device → Type 0
IsNotOpened old (NoStore fault) new = IsScanFault old fault × (new ≡ old)
IsNotOpened old ListTooShort new = IsCutOpening old new
IsNotOpened old answer new = ⊥

-- two values, as a list
abbrev pub both_of : ℕ → ℕ → ℕ → ℕ → List Put
both_of first first_value second second_value =
    record { address = first; value = first_value }
    ∷ record { address = second; value = second_value } ∷ []

-- what a store that was opened is asked, if anything
abbrev pub AnswersOpen : Request ℕ → Device → Answer → Device → Type 0
AnswersOpen Open old Done new = new ≡ old
AnswersOpen (Write address value) old Done new = Writes old address value (Ok written.Appended) new
AnswersOpen (Write address value) old Moved new = Writes old address value (Ok written.Moved) new
AnswersOpen (Write address value) old Full new = Writes old address value (Err write.Full) new
AnswersOpen (Write address value) old Spent new = Writes old address value (Err write.Spent) new
AnswersOpen (Write address value) old ListTooShort new =
    Writes old address value (Err write.Cut) new
AnswersOpen (WriteBoth first one second other) old Moved new =
    WritesAll old (both_of first one second other) (Ok written.Moved) new
AnswersOpen (WriteBoth first one second other) old Twice new =
    WritesAll old (both_of first one second other) (Err (all.Twice 1)) new
AnswersOpen (WriteBoth first one second other) old Full new =
    WritesAll old (both_of first one second other) (Err all.Full) new
AnswersOpen (WriteBoth first one second other) old Spent new =
    WritesAll old (both_of first one second other) (Err all.Spent) new
AnswersOpen (WriteBoth first one second other) old ListTooShort new =
    WritesAll old (both_of first one second other) (Err all.Cut) new
AnswersOpen (Forget address) old Done new = Forgets old address (Ok written.Appended) new
AnswersOpen (Forget address) old Moved new = Forgets old address (Ok written.Moved) new
AnswersOpen (Forget address) old Absent new = Forgets old address (Err forget.Absent) new
AnswersOpen (Forget address) old Spent new = Forgets old address (Err forget.Spent) new
AnswersOpen (Forget address) old ListTooShort new = Forgets old address (Err forget.Cut) new
AnswersOpen Clean old Done new = Cleans old (Ok true) new
AnswersOpen Clean old Nothing new = Cleans old (Ok false) new
AnswersOpen Clean old ListTooShort new = Cleans old (Err write.Cut) new
AnswersOpen Clear old Moved new = Clears old (Ok true) new
AnswersOpen Clear old Nothing new = Clears old (Ok false) new
AnswersOpen Clear old Spent new = Clears old (Err clear.Spent) new
AnswersOpen Clear old ListTooShort new = Clears old (Err clear.Cut) new
AnswersOpen request old answer new = ⊥

-- what a request is answered, and what it leaves: all but a format and a rescue open the store
-- first, which sets the marks that a cut left
abbrev pub Answers : Request ℕ → Device → Answer → Device → Type 0
Answers Format old answer new = Formats old answer new
Answers Rescue old answer new = RescuesWords old answer new
Answers request old answer new =
    IsNotOpened old answer new
    ⊎ ((opened : Device) × Opens old opened × AnswersOpen request opened answer new)

-- how often power was cut by then: once more where the list is too short
abbrev pub cuts_after : Answer → ℕ → ℕ
cuts_after ListTooShort cuts = one_more cuts
cuts_after answer cuts = cuts

-- ---- the list

-- The wears when power was cut in one more step: in a program, or in the erase of a
-- page, which wears it.
abbrev pub WearsOnceMore : Device → List ℕ → Type 0
WearsOnceMore device wear =
    (wear ≡ device.wear)
    ⊎ ((page : ℕ) × (page < page_count device.size)
    × (wear ≡ (with_page_worn page device).wear))

-- Each place of the list is a step that can be taken, and power was cut in a further one, before it
-- changed a word: what it left then is what the call leaves.
pub record FillsList (start : Device) (listed : List ListedStep) (leaves : Device → Type 0)
    : Type 0 where
  pub taken : CanTakeAll (steps_of (length listed) listed) start
  pub zeros : All IsZeroIfErase listed
  pub cut : Device
  pub image : cut.image ≡ (all_completed (steps_of (length listed) listed) start).image
  pub wear : WearsOnceMore (all_completed (steps_of (length listed) listed) start) cut.wear
  pub leads : leaves cut

-- what a draft says of its list when it ends
pub record IsEnded (start device : Device) (listed : List ListedStep) (count : ℕ) : Type 0 where
  pub within : count ≤ length listed
  pub taken : CanTakeAll (steps_of count listed) start
  pub zeros : All IsZeroIfErase (take count listed)
  pub image : device.image ≡ (all_completed (steps_of count listed) start).image
  pub whole : device.cuts ≡ 0 → device ≡ all_completed (steps_of count listed) start
  pub further : device.cuts ≡ 1
      → WearsOnceMore (all_completed (steps_of count listed) start) device.wear
  pub full : (device.cuts ≡ 0 → ⊥) → count ≡ length listed

-- what a draft of a request ends with: a device that is what the answer says, and the
-- list of the steps to it
pub record Drafts (request : Request ℕ) (start : Device) (answer : Answer)
    (listed : List ListedStep) (count : ℕ) : Type 0 where
  pub fresh : IsFresh start
  pub left : Device
  pub answers : Answers request start answer left
  pub cuts : left.cuts ≡ cuts_after answer start.cuts
  pub ended : IsEnded start left listed count
