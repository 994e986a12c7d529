-- From what a request was answered on a draft to what its call tells.
use Rattle.std.proofs.Common.{◌≡◌, inl, inr, ℕ, List, false, true, refl, subst, sym, ap, ◌∙◌, rules}
use Rattle.std.proofs.lemmas.List.{take_all}
use Rattle.ee_flash.specs.Device.{Device}
use Rattle.ee_flash.specs.Laws.{all_completed}
use Rattle.ee_flash.specs.Size.{Size}
use Rattle.ee_pages.specs.declared.find.ScanFault.{ScanFault}
use Rattle.ee_core.specs.Openings.{Opens}
use Rattle.ee_web.specs.Answers.{is_played, result_of}
use Rattle.ee_web.specs.Calls.{Answers, AnswersOpen, Drafts, FillsList, IsEnded, cuts_after}
use Rattle.ee_web.specs.Draft.{IsFresh}
use Rattle.ee_web.specs.Exports.{EndsCall, IsPlayed, IsProperRequest, MakesCall, WritesNothing}
use Rattle.ee_web.specs.Listing.{steps_of}
use Rattle.ee_web.specs.Mirror.{MirrorFits, Mirror, device_in}
use Rattle.ee_web.specs.declared.answer.Answer.{Answer}
use Rattle.ee_web.specs.declared.answer.Answer.TheVariants.{NoStore, ListTooShort, WrongShape, ImproperAddress}
use Rattle.ee_web.specs.declared.answer.CallResult.{CallResult}
use Rattle.ee_web.specs.declared.listing.ListedStep.{ListedStep}
use Rattle.ee_web.specs.declared.request.Request.{Request}
use Rattle.ee_web.specs.declared.request.Request.TheVariants.{Format, Rescue}

-- a store that was opened is asked, for all but a format and a rescue
pub opened_first : (request : Request ℕ) (old opened new : Device) (answer : Answer)
    → Opens old opened → AnswersOpen request opened answer new → Answers request old answer new
opened_first Format old opened new answer opens never = absurd never
opened_first Rescue old opened new answer opens never = absurd never
opened_first request old opened new answer opens answers = inr (opened, opens, answers)

-- a store answers nothing of its caller's arguments, and nothing was done where there is none
no_shape : (request : Request ℕ) (old new : Device) → Answers request old WrongShape new → ⊥
no_shape Format old new never = never
no_shape Rescue old new never = never
no_shape request old new (inl never) = never
no_shape request old new (inr never) = never.2

no_address : (request : Request ℕ) (old new : Device) → Answers request old ImproperAddress new → ⊥
no_address Format old new never = never
no_address Rescue old new never = never
no_address request old new (inl never) = never
no_address request old new (inr never) = never.2

none_done : (request : Request ℕ) (fault : ScanFault) (old new : Device)
    → Answers request old (NoStore fault) new → new ≡ old
none_done Format fault old new never = absurd never
none_done Rescue fault old new never = absurd never
none_done request fault old new (inl none) = none.1
none_done request fault old new (inr never) = absurd never.2

-- a device that was asked on a draft
pub drafted : (request : Request ℕ) (start asked left : Device) (answer told : Answer)
    (listed : List ListedStep) (count : ℕ)
    → IsFresh start → IsEnded start left listed count → asked ≡ start → told ≡ answer
    → Answers request asked answer left → left.cuts ≡ cuts_after answer asked.cuts
    → Drafts request start told listed count
drafted request start asked left answer told listed count fresh ended is_start is_told answers cuts
    =
    search rules

-- a list that was too short
fills : (request : Request ℕ) (start : Device) (listed : List ListedStep) (count : ℕ)
    → Drafts request start ListTooShort listed count
    → FillsList start listed (Answers request start ListTooShort)
fills request start listed count drafts = search (rules, take_all)

-- the arguments of a call are refused
pub shape_refused : (size : Size) (request : Request ℕ) (result : CallResult) (old : Mirror)
    (listed : List ListedStep)
    → ¬ MirrorFits size old → result ≡ result_of WrongShape 0
    → MakesCall size request result old old listed
shape_refused size request result old listed unfit is =
    let none : result.listed ≡ 0 = ap (λ (r : CallResult). r.listed) is in (
      WrongShape,
      is ∙ ap (result_of WrongShape) (sym none),
      (unfit, record { same = refl; none_listed = none }),
    )

pub address_refused : (size : Size) (request : Request ℕ) (result : CallResult) (old : Mirror)
    (listed : List ListedStep)
    → MirrorFits size old → ¬ IsProperRequest request → result ≡ result_of ImproperAddress 0
    → MakesCall size request result old old listed
address_refused size request result old listed fits improper is =
    let none : result.listed ≡ 0 = ap (λ (r : CallResult). r.listed) is in (
      ImproperAddress,
      is ∙ ap (result_of ImproperAddress) (sym none),
      (fits, improper, record { same = refl; none_listed = none }),
    )

module _ (size : Size) (request : Request ℕ) (old new : Mirror) (listed : List ListedStep)
    (count : ℕ) (result : CallResult) (fits : MirrorFits size old)
    (is_proper : IsProperRequest request) where
  abbrev start : Device
  start = device_in size old

  unwritten : (new ≡ old) × (result.listed ≡ 0) → WritesNothing old new result.listed
  unwritten refused = record { same = refused.0; none_listed = refused.1 }

  ends : (answer : Answer) → Drafts request start answer listed count
      → (is_played answer ≡ false → (new ≡ old) × (result.listed ≡ 0))
      → (is_played answer ≡ true → IsPlayed size old new listed result.listed)
      → (is_played answer ≡ true → result.listed ≡ count)
      → EndsCall size request answer old new listed result.listed
  ends ListTooShort drafts refused played same =
      (fits, is_proper, unwritten (refused refl), fills request start listed count drafts)
  ends (NoStore fault) drafts refused played same = (
    fits,
    is_proper,
    unwritten (refused refl),
    subst (Answers request start (NoStore fault))
        (none_done request fault start drafts.left drafts.answers
        ∙ sym (ap (device_in size) (refused refl).0)) drafts.answers,
  )
  ends WrongShape drafts refused played same =
      absurd (no_shape request start drafts.left drafts.answers)
  ends ImproperAddress drafts refused played same =
      absurd (no_address request start drafts.left drafts.answers)
  ends answer drafts refused played same = (
    fits,
    is_proper,
    played refl,
    subst (Answers request start answer)
        (drafts.ended.whole (drafts.cuts ∙ drafts.fresh.never_cut)
        ∙ sym
        ((played refl).played
        ∙ ap (λ (n : ℕ). all_completed (steps_of n listed) start) (same refl)))
        drafts.answers,
  )

-- what was drafted is settled
pub settled : (size shape : Size) (request asked : Request ℕ) (old new : Mirror)
    (listed used : List ListedStep) (count : ℕ) (result : CallResult) (answer : Answer)
    → MirrorFits size old → IsProperRequest request
    → Drafts asked (device_in shape old) answer used count → shape ≡ size → asked ≡ request
    → used ≡ listed → result ≡ result_of answer result.listed
    → (is_played answer ≡ false → (new ≡ old) × (result.listed ≡ 0))
    → (is_played answer ≡ true → IsPlayed shape old new used result.listed)
    → (is_played answer ≡ true → result.listed ≡ count)
    → MakesCall size request result old new listed
settled size shape request asked old new listed used count result answer fits is_proper drafts
    is_shape is_request is_list told refused played same =
    let ended =
    ends shape asked old new used count result (rw is_shape fits) (rw is_request is_proper)
    answer drafts refused played same in (
      answer,
      told,
      subst (λ (list : List ListedStep). EndsCall size request answer old new list result.listed)
          is_list
          (subst (λ (r : Request ℕ). EndsCall size r answer old new used result.listed) is_request
          (subst (λ (s : Size). EndsCall s asked answer old new used result.listed) is_shape
          ended)),
    )
