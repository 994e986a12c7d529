-- How often a page is erased in a run, by where it stands.
use Rattle.ee_core.proofs.Words.{rules, ◌≡◌, ◌≢◌, ◌⊎◌, inl, inr, ℕ, ◌+◌, ◌/◌, ◌<◌, ◌≤◌, Bool, true, false, cond, Option, Some, None, List, [], ◌∷◌, get_or, refl, sym, subst, ap, ◌∙◌, arith, All, cases_eq, cases_lt, ne_eqb, All-tail, sum_by-cons}
use Rattle.ee_core.proofs.Sets.{IsLegal, Device, page_at, wear_at, Size, page_count, Word, IsPageOf, Change, is_blank, live_of, other, Side, First, Second, other_twice}
use Rattle.ee_core.proofs.Calls.{ErasesOne, Appends, Moves, pending_pages, state_of, next_live}
use Rattle.ee_core.proofs.Effects.{by_effect}
use Rattle.ee_core.proofs.PendingPages.{length-pending_pages, times_in_other, times_in_set, waits}
use Rattle.ee_core.proofs.Wears.{times, times_few, worn_at_most}
use Rattle.ee_core.specs.Runs.{Call, Follows, IsRun, IsWholeRun, WearsAtMost, is_cut, is_transfer, transfers}

abbrev Live : Device → Side → ℕ → Type 0
Live device side generation = live_of device ≡ Some (side, generation)

-- ---- pages and sets

apart : (size : Size) (side : Side) (page : ℕ) → IsPageOf size side page
    → IsPageOf size (other side) page → ⊥
apart _ First _ here there = absurd (omega arith)
apart size Second page here there = absurd (omega arith)

pub in_either : (size : Size) (side : Side) (page : ℕ) → page < page_count size
    → IsPageOf size side page ⊎ IsPageOf size (other side) page
in_either size First page h = elim (cases_lt page size.pages) [
  | inl low ↦ search rules
  | inr high ↦ search rules
]
in_either size Second page h = elim (cases_lt page size.pages) [
  | inl low ↦ search rules
  | inr high ↦ search rules
]

pub side_in : Side → Option (Side × ℕ) → Side
side_in usual None = usual
side_in _ (Some live) = live.0

pub same_side : (found : Option (Side × ℕ)) (side known : Side) (generation number : ℕ)
    → found ≡ Some (side, generation) → found ≡ Some (known, number) → known ≡ side
unfolding side_in
same_side _ side _ _ _ live again = ap (side_in side) (sym again ∙ live)

pub few_wait : (blank : Bool) → cond blank 0 1 ≤ 1
few_wait true = omega arith
few_wait false = omega arith

named_in : (device : Device) (side : Side) (generation page : ℕ) → Live device side generation
    → IsPageOf device.size (other side) page → times page (pending_pages device) ≡ waits device page
named_in device _ _ page live at = search (rules, times_in_set)

not_named : (device : Device) (side : Side) (generation page : ℕ) → Live device side generation
    → IsPageOf device.size side page → times page (pending_pages device) ≡ 0
not_named device _ _ page live at = search (rules, times_in_other)

-- ---- one call

-- What a call does to a page of the live set, and to one of the other set: that one waits, is
-- erased, or neither.
pub record Ages (transfer : Bool) (old new : Device) : Type 0 where
  pub same_size : new.size ≡ old.size
  pub live_is : live_of new ≡ cond transfer (next_live (live_of old)) (live_of old)
  pub live_page : (side : Side) (generation page : ℕ) → Live old side generation
      → IsPageOf old.size side page → wear_at new page ≤ wear_at old page
  pub other_page : (side : Side) (generation page : ℕ) → Live old side generation
      → IsPageOf old.size (other side) page
      → wear_at new page + cond transfer 0 (waits new page) ≤ wear_at old page + waits old page

unchanged : (old new : Device) → new ≡ old → Ages false old new
unchanged _ _ same =
    rw same
    (record {
      same_size = refl;
      live_is = refl;
      live_page = search rules;
      other_page = search rules;
    })

-- the same pages are live, the same wait, and none was erased
pub stays : (old new : Device) → new.size ≡ old.size → live_of new ≡ live_of old
    → pending_pages new ≡ pending_pages old → new.wear ≡ old.wear → Ages false old new
stays old new sizes live_is same_pending no_wear =
    let wear : (page : ℕ) → wear_at new page ≡ wear_at old page = search rules in
    record {
      same_size = sizes;
      live_is = live_is;
      live_page = λ side generation page live at. omega (arith, wear page);
      other_page = λ side generation page live at.
          let same =
          sym
          (named_in new side generation page (live_is ∙ live)
          (subst (λ size. IsPageOf size (other side) page) (sym sizes) at))
          ∙ ap (times page) same_pending ∙ (named_in old side generation page live at) in
          omega (arith, wear page);
    }

appends : (old new : Device) (change : Change) → Appends old change new → Ages false old new
appends old new _ done = search stays

moves : (old new : Device) (changes : List Change) → Moves old changes new → Ages true old new
moves old new _ done =
    let wear : (page : ℕ) → wear_at new page ≤ wear_at old page + times page (pending_pages old) =
    search (rules, worn_at_most) in
    record {
      same_size = done.goes_on.same_size;
      live_is = done.live_is;
      live_page =
          λ side generation page live at.
          omega (arith, wear page, not_named old side generation page live at);
      other_page =
          λ side generation page live at.
          omega (arith, wear page, named_in old side generation page live at);
    }

erases : (old new : Device) → ErasesOne old new → Ages false old new
erases old new done =
    let erased = done.lowest.page in
    let waited = done.lowest.lowest.waits in
    let wear : (page : ℕ) → wear_at new page ≤ wear_at old page + times page (erased ∷ []) = λ page.
    subst (λ list. get_or list page 0 ≤ wear_at old page + times page (erased ∷ []))
    (sym done.lowest.wear.wear_is) (worn_at_most (erased ∷ []) old.wear page) in
    let spared : (page : ℕ) → page ≢ erased → wear_at new page ≤ wear_at old page = λ page other.
    let zero : times page (erased ∷ []) ≡ 0 =
    rw (ne_eqb erased page (λ same. other (sym same))) refl in
    omega (arith, wear page, zero) in
    record {
      same_size = done.goes_on.same_size;
      live_is = done.live_is;
      live_page = λ side generation page live at. spared page (λ same.
          let there =
          subst (λ n. IsPageOf old.size (other side) n) (sym same)
          (subst (λ set. IsPageOf old.size (other set) erased)
          (same_side (live_of old) side waited.side generation waited.generation live
          waited.live) waited.in_other) in
          apart old.size side page at there);
      other_page = λ side generation page live at. elim (cases_eq _ _) [
        | inl same ↦
            let written : waits old page ≡ 1 =
            ap (λ n. waits old n) same ∙ ap (λ b. cond b 0 1) waited.not_blank in
            omega (
              arith,
              wear page,
              (times_few (erased ∷ []) page),
              (ap (λ n. waits new n) same ∙ ap (λ b. cond b 0 1) done.lowest.blank),
              written,
            )
        | inr other ↦
            let same : waits new page ≡ waits old page =
            ap (λ (words : List Word). cond (is_blank words) 0 1)
            (done.lowest.others page other) in
            omega (arith, spared page other, same)
      ];
    }

pub ages : (call : Call) (old new : Device) → is_cut call ≡ false → Follows call old new
    → Ages (is_transfer call) old new
ages _ old new whole done =
    by_effect (λ transfer changes. Ages transfer old new) _ _ _ whole done (unchanged old new)
    (appends old new) (moves old new) (λ is. erases old new)

-- ---- a run

-- what a run with so many transfers does to a page of the live set, and to one of the other set
pub record Aged (count : ℕ) (old new : Device) : Type 0 where
  pub live_page : (side : Side) (generation page : ℕ) → Live old side generation
      → IsPageOf old.size side page → wear_at new page ≤ wear_at old page + (count + 1) / 2
  pub other_page : (side : Side) (generation page : ℕ) → Live old side generation
      → IsPageOf old.size (other side) page
      → wear_at new page ≤ wear_at old page + waits old page + count / 2

pub one_more : (transfer : Bool) (rest : ℕ) (old mid new : Device) → Ages transfer old mid
    → Aged rest mid new → Aged (cond transfer 1 0 + rest) old new
one_more true _ old mid _ first later = record {
  live_page = λ side generation page live at.
      let now = first.live_is ∙ ap next_live live in
      let there =
      subst (λ size. IsPageOf size (other (other side)) page) (sym first.same_size)
      (subst (λ set. IsPageOf old.size set page) (sym (other_twice _)) at) in
      omega (
        arith,
        first.live_page side generation page live at,
        later.other_page (other side) (generation + 1) page now there,
        few_wait (is_blank (page_at mid page)),
      );
  other_page = λ side generation page live at.
      omega (
        arith,
        first.other_page side generation page live at,
        later.live_page (other side) (generation + 1) page (first.live_is ∙ ap next_live live)
            (subst (λ size. IsPageOf size (other side) page) (sym first.same_size) at),
      );
}
one_more false rest _ mid _ first later = record {
  live_page = λ side generation page live at.
      let there = subst (λ size. IsPageOf size side page) (sym first.same_size) at in
      let none : 0 + rest ≡ rest = omega arith in
      rw none
      (omega (
        arith,
        first.live_page side generation page live at,
        later.live_page side generation page (first.live_is ∙ live) there,
      ));
  other_page = λ side generation page live at.
      let none : 0 + rest ≡ rest = omega arith in
      rw none
      (omega (
        arith,
        first.other_page side generation page live at,
        later.other_page side generation page (first.live_is ∙ live)
            (subst (λ (size : Size). IsPageOf size (other side) page)
            (sym first.same_size) at),
      ));
}

pub none_more : (device : Device) → Aged 0 device device
none_more _ = record { live_page = search rules; other_page = search rules }

aged : (calls : List Call) (old new : Device) → IsRun calls old new
    → All (λ call. is_cut call ≡ false) calls → Aged (transfers calls) old new
aged [] old _ run _ = rw run (none_more old)
aged (call ∷ calls) old new run whole =
    subst (λ count. Aged count old new)
    (sym (sum_by-cons (λ one. cond (is_transfer one) 1 0) _ calls))
    (one_more (is_transfer call) (transfers calls) old run.0 new
    (ages call old run.0 (whole 0 call (omega arith)) run.1)
    (aged calls run.0 new run.2 (All-tail (λ one. is_cut one ≡ false) _ _ whole)))

-- so often at the most, by where a page stood at the start
pub wears_at_most : (count page : ℕ) (old new : Device) → Aged count old new
    → WearsAtMost count page old new
wears_at_most _ _ _ new all = search (rules, waits, few_wait)

pub each_page_wears_every_second_transfer_lem : (calls : List Call) (old new : Device) (page : ℕ)
    → IsWholeRun calls old new → WearsAtMost (transfers calls) page old new
each_page_wears_every_second_transfer_lem calls old new page whole =
    search (wears_at_most, aged)

pub no_page_wears_more_lem : (calls : List Call) (old new : Device) (page : ℕ)
    → IsWholeRun calls old new → IsLegal old → (state_of old).pending ≡ 0
    → page < page_count old.size → wear_at new page ≤ wear_at old page + (transfers calls + 1) / 2
no_page_wears_more_lem calls old new page whole legal none h =
    let all = aged calls old new whole.run whole.without_cuts in
    elim (in_either old.size legal.0 page h) [
      | inl here ↦ omega (arith, all.live_page legal.0 legal.1 page legal.2.live here)
      | inr there ↦
          let named = named_in old legal.0 legal.1 page legal.2.live there in
          let few = times_few (pending_pages old) page in
          omega (
            arith,
            all.other_page legal.0 legal.1 page legal.2.live there,
            length-pending_pages old,
            none,
          )
    ]

pub no_page_wears_much_more_lem : (calls : List Call) (old new : Device) (page : ℕ)
    → IsWholeRun calls old new → IsLegal old → page < page_count old.size
    → wear_at new page ≤ wear_at old page + (transfers calls / 2 + 1)
no_page_wears_much_more_lem calls old new page whole legal h =
    search (rules, aged, in_either, few_wait)
