-- How often pages are erased in a run without clean steps, and by any schedule beside it.
use Rattle.std.proofs.Common.{◌≡◌, ◌⊎◌, ◌∙◌, inl, inr, ℕ, ◌+◌, ◌/◌, ◌<◌, ◌≤◌, Bool, true, false, cond, Some, List, [], ◌∷◌, get_or, refl, sym, subst, ap, arith, rules}
use Rattle.std.specs.List.{All}
use Rattle.std.proofs.lemmas.Bool.{cases_Bool}
use Rattle.std.proofs.lemmas.List.Elements.{All-tail}
use Rattle.std.proofs.lemmas.List.Sums.{sum_by-cons}
use Rattle.ee_flash.specs.Device.{Device, page_at, wear_at}
use Rattle.ee_flash.specs.Endurance.{erases_of}
use Rattle.ee_flash.specs.Size.{Size, page_count}
use Rattle.ee_flash.specs.Step.{Step}
use Rattle.ee_pages.specs.Laws.{IsPageOf}
use Rattle.ee_pages.specs.Page.{is_blank}
use Rattle.ee_pages.specs.Sets.{first_page, live_of, other}
use Rattle.ee_pages.specs.declared.side.Side.{Side}
use Rattle.ee_pages.proofs.Public.{other_twice}
use Rattle.ee_core.proofs.Public.{Ages, ages, by_effect, each_page_wears_every_second_transfer_lem, length-pending_pages, times_in_set, waits, times, times_few, in_either, same_side, few_wait}
use Rattle.ee_core.specs.Runs.{Call, Follows, IsRun, is_cut, is_transfer, transfers}
use Rattle.ee_core.specs.State.{pending_pages, pending_pages_in, state_of, next_live}
use Rattle.ee_check.specs.declared.change.Change.{Change}
use Rattle.ee_check.specs.Schedule.{Situation, cost}
use Rattle.ee_plan.proofs.Wearing.{fewest_transfers_wear_lem, first_in_device}
use Rattle.ee_plan.specs.Lasting.{FirstWaits, LastsAsLong, MakesFewest, is_cleaning}
use Rattle.ee_plan.specs.Wearing.{Transfer}

-- ---- pages

named_in : (device : Device) (side : Side) (generation page : ℕ)
    → live_of device ≡ Some (side, generation) → IsPageOf device.size (other side) page
    → times page (pending_pages device) ≡ waits device page
named_in device side generation page live at =
    ap (λ found. times page (pending_pages_in device found)) live
    ∙ times_in_set (other side) device page at

-- ---- one call

-- the same sets, the same pages wait, and none was erased
record IsStill (old new : Device) : Type 0 where
  same_size : new.size ≡ old.size
  live_is : live_of new ≡ live_of old
  same_pending : pending_pages new ≡ pending_pages old
  no_wear : new.wear ≡ old.wear

same_device : (old new : Device) → new ≡ old → IsStill old new
same_device old new same =
    rw same (record { same_size = refl; live_is = refl; same_pending = refl; no_wear = refl })

-- a call that is neither a transfer nor a clean step that erased
still : (call : Call) (old new : Device) → is_cut call ≡ false → is_transfer call ≡ false
    → is_cleaning call ≡ false → Follows call old new → IsStill old new
still call old new whole stays spares done = search (rules, by_effect, same_device, spares)

-- ---- a run

-- what so many transfers do to a page of the live set, and to one of the other set
record Spares (count : ℕ) (old new : Device) : Type 0 where
  live_page : (side : Side) (generation page : ℕ) → live_of old ≡ Some (side, generation)
      → IsPageOf old.size side page → wear_at new page ≤ wear_at old page + count / 2
  other_page : (side : Side) (generation page : ℕ) → live_of old ≡ Some (side, generation)
      → IsPageOf old.size (other side) page
      → wear_at new page ≤ wear_at old page + (count + waits old page) / 2

none_more : (device : Device) → Spares 0 device device
none_more device = record {
  live_page = λ side generation page live at. omega arith;
  other_page = λ side generation page live at. omega arith;
}

-- a transfer before so many
moved_before : (rest : ℕ) (old mid new : Device) → Ages true old mid → Spares rest mid new
    → Spares (rest + 1) old new
moved_before rest old mid new first later = record {
  live_page = λ side generation page live at.
      let now : live_of mid ≡ Some (other side, generation + 1) =
      first.live_is ∙ ap next_live live in
      let twice : IsPageOf old.size (other (other side)) page =
      subst (λ set. IsPageOf old.size set page) (sym (other_twice side)) at in
      let there : IsPageOf mid.size (other (other side)) page =
      subst (λ (size : Size). IsPageOf size (other (other side)) page) (sym first.same_size)
      twice in
      omega (
        arith,
        first.live_page side generation page live at,
        later.other_page (other side) (generation + 1) page now there,
        few_wait (is_blank (page_at mid page)),
      );
  other_page = λ side generation page live at.
      let now : live_of mid ≡ Some (other side, generation + 1) =
      first.live_is ∙ ap next_live live in
      let there : IsPageOf mid.size (other side) page =
      subst (λ (size : Size). IsPageOf size (other side) page) (sym first.same_size) at in
      omega (
        arith,
        first.other_page side generation page live at,
        later.live_page (other side) (generation + 1) page now there,
        few_wait (is_blank (page_at old page)),
      );
}

-- a call before them that erases nothing
still_before : (rest : ℕ) (old mid new : Device) → IsStill old mid → Spares rest mid new
    → Spares rest old new
still_before rest old mid new first later =
    let wear : (page : ℕ) → wear_at mid page ≡ wear_at old page =
    λ page. ap (λ (list : List ℕ). get_or list page 0) first.no_wear in
    record {
      live_page = λ side generation page live at.
          let there : IsPageOf mid.size side page =
          subst (λ (size : Size). IsPageOf size side page) (sym first.same_size) at in
          omega
          (arith, wear page, later.live_page side generation page (first.live_is ∙ live) there);
      other_page = λ side generation page live at.
          let there : IsPageOf mid.size (other side) page =
          subst (λ (size : Size). IsPageOf size (other side) page) (sym first.same_size) at in
          let now = named_in mid side generation page (first.live_is ∙ live) there in
          let was = named_in old side generation page live at in
          let same : waits mid page ≡ waits old page =
          sym now ∙ ap (times page) first.same_pending ∙ was in
          omega (
            arith,
            wear page,
            same,
            later.other_page side generation page (first.live_is ∙ live) there,
          );
    }

one_more : (transfer : Bool) (rest : ℕ) (old mid new : Device) → Ages transfer old mid
    → (transfer ≡ false → IsStill old mid) → Spares rest mid new
    → Spares (cond transfer 1 0 + rest) old new
one_more true rest old mid new first same later =
    let next : rest + 1 ≡ 1 + rest = omega arith in
    subst (λ (count : ℕ). Spares count old new) next (moved_before rest old mid new first later)
one_more false rest old mid new first same later = search (rules, still_before)

spares : (calls : List Call) (old new : Device) → IsRun calls old new
    → All (λ call. is_cut call ≡ false) calls → All (λ call. is_cleaning call ≡ false) calls
    → Spares (transfers calls) old new
spares [] old new run whole none = rw run (none_more old)
spares (call ∷ calls) old new run whole none =
    let later =
    spares calls run.0 new run.2
    (All-tail (λ (one : Call). is_cut one ≡ false) call calls whole)
    (All-tail (λ (one : Call). is_cleaning one ≡ false) call calls none) in
    let uncut = whole 0 call (omega arith) in
    let unclean = none 0 call (omega arith) in
    subst (λ (count : ℕ). Spares count old new)
    (sym (sum_by-cons (λ (one : Call). cond (is_transfer one) 1 0) call calls))
    (one_more (is_transfer call) (transfers calls) old run.0 new (ages call old run.0 uncut run.1)
    (λ stays. still call old run.0 uncut stays unclean run.1) later)

-- ---- beside a schedule

-- the first page of each set is one of the device's
first_there : (side : Side) (steps : List Step) (device : Device) (transfers : ℕ)
    → Transfer transfers side steps device → (set : Side)
    → first_page device.size set < page_count device.size
first_there side steps device transfers transfer set =
    first_in_device device.size set transfer.taken.formed.within_limits.some_pages

-- what is known of the erases of one page of the device
some_page : (old new : Device) (steps : List Step) (page worn fewer : ℕ)
    → worn < page_count old.size
    → wear_at new page ≤ wear_at old page + erases_of worn steps + fewer
    → (some : ℕ) × (some < page_count old.size)
    × (wear_at new page ≤ wear_at old page + erases_of some steps + fewer)
some_page old new steps page worn fewer there few = (worn, there, few)

pub fewest_moves_last_lem : (start : Situation) (trace : List Change) (calls : List Call)
    (old new : Device)
    → MakesFewest start trace calls old new → LastsAsLong 1 start trace old new
fewest_moves_last_lem start trace calls old new made =
    λ schedule side generation steps page is live transfer here.
    let least =
    fewest_transfers_wear_lem start trace (transfers calls) made.fewest schedule side generation
    steps old is live transfer in
    let most = each_page_wears_every_second_transfer_lem calls old new page made.run in
    let worn = first_page old.size side in
    let there = first_there side steps old (cost schedule) transfer side in
    elim (in_either old.size side page here) [
      | inl at ↦
          let few =
          most.live
          (record { side = side; generation = generation; live = live; in_live = at }) in
          some_page old new steps page worn 1 there (omega (arith, few, least.live))
      | inr at ↦ elim (cases_Bool (is_blank (page_at old page))) [
        | inl blank ↦
            let few =
            most.spare
            (record {
              side = side;
              generation = generation;
              live = live;
              in_other = at;
              blank = blank;
            }) in
            some_page old new steps page worn 1 there (omega (arith, few, least.live))
        | inr not_blank ↦
            let few =
            most.pending
            (record {
              side = side;
              generation = generation;
              live = live;
              in_other = at;
              not_blank = not_blank;
            }) in
            some_page old new steps page worn 1 there (omega (arith, few, least.live))
      ]
    ]

pub fewest_moves_last_as_long_lem : (start : Situation) (trace : List Change) (calls : List Call)
    (old new : Device)
    → MakesFewest start trace calls old new → All (λ call. is_cleaning call ≡ false) calls
    → ((state_of old).pending ≡ 0) ⊎ FirstWaits old → LastsAsLong 0 start trace old new
fewest_moves_last_as_long_lem start trace calls old new made none (inl blank) =
    λ schedule side generation steps page is live transfer here.
    let least =
    fewest_transfers_wear_lem start trace (transfers calls) made.fewest schedule side generation
    steps old is live transfer in
    let most = spares calls old new made.run.run made.run.without_cuts none in
    let there = first_there side steps old (cost schedule) transfer side in
    elim (in_either old.size side page here) [
      | inl at ↦ some_page old new steps page (first_page old.size side) 0 there
          (omega (arith, most.live_page side generation page live at, least.live))
      | inr at ↦
          let named = named_in old side generation page live at in
          let few = times_few (pending_pages old) page in
          let waits_not : waits old page ≡ 0 =
          omega (arith, named, few, length-pending_pages old, blank) in
          some_page old new steps page (first_page old.size side) 0 there
          (omega (arith, most.other_page side generation page live at, waits_not, least.live))
    ]
fewest_moves_last_as_long_lem start trace calls old new made none (inr first) =
    λ schedule side generation steps page is live transfer here.
    let least =
    fewest_transfers_wear_lem start trace (transfers calls) made.fewest schedule side generation
    steps old is live transfer in
    let most = spares calls old new made.run.run made.run.without_cuts none in
    let there = first_there side steps old (cost schedule) transfer (other side) in
    let known =
    same_side (live_of old) side first.side generation first.generation live first.live in
    let waits_first : is_blank (page_at old (first_page old.size (other side))) ≡ false =
    subst (λ (set : Side). is_blank (page_at old (first_page old.size (other set))) ≡ false) known
    first.not_blank in
    let often = least.pending waits_first in
    elim (in_either old.size side page here) [
      | inl at ↦ some_page old new steps page (first_page old.size (other side)) 0 there
          (omega (arith, most.live_page side generation page live at, often))
      | inr at ↦
          some_page old new steps page (first_page old.size (other side)) 0 there
          (omega (
            arith,
            most.other_page side generation page live at,
            few_wait (is_blank (page_at old page)),
            often,
          ))
    ]
