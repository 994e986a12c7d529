-- The marks that an opening sets in the live set and in the other one, page after page.
use Rattle.ee_core.proofs.Words.{rules, ◌≡◌, ◌⊎◌, inl, inr, ℕ, ◌+◌, ◌-◌, ◌<◌, ◌≤◌, true, false, refl, sym, subst, ap, ◌∙◌, arith, cases_lt}
use Rattle.ee_core.proofs.Sets.{Device, page_at, IsLayout, IsLive, is_blank, is_marked, IsMarkBehind, fill_of, first_page, page_of_slot, set_of, slots_of, Layout, Side, Mark, Active, Valid, Erasing, page_in_range, slot_below}
use Rattle.ee_core.proofs.Calls.{IsSameBut, KeepsMarks, SetsMark, Stays, IsLiveMarked, last_used}
use Rattle.ee_core.proofs.SetPages.{first_below}
use Rattle.ee_core.proofs.Marks.{same_stays}
use Rattle.ee_core.proofs.KeptMarks.{fill_fits}
use Rattle.ee_core.specs.StepLists.{steps_to_mark}
use Rattle.ee_flash.specs.Taking.{Completes}
use Rattle.ee_core.proofs.Taken.{completes_none, retire_words}

-- after what keeps the live set, the layout is still right
pub layout_stays : (layout : Layout) (old new : Device) → IsLayout old layout
    → Stays old new layout.side layout.generation → IsLayout new layout
layout_stays _ _ _ is stays = search rules

pub stays_both : (old mid new : Device) (side : Side) (generation : ℕ)
    → Stays old mid side generation → Stays mid new side generation → Stays old new side generation
stays_both _ _ _ _ _ first second = search rules

-- the page of the last used slot, counted from the set's first
pub last_is : (layout : Layout) (device : Device) → IsLayout device layout
    → layout.current ≡ first_page device.size layout.side + last_used device layout.side
last_is layout device is = search rules

pub last_in_range : (layout : Layout) (device : Device) → IsLayout device layout
    → last_used device layout.side < device.size.pages
last_in_range layout device is = search (page_in_range, slot_below, fill_fits)

pub current_below : (layout : Layout) (device : Device) → IsLayout device layout
    → layout.current < 128
current_below layout device is =
    omega (
      arith,
      last_is layout device is,
      last_in_range layout device is,
      first_below device.size layout.side,
    )

-- a page up to that one stands behind written slots
mark_behind : (layout : Layout) (device : Device) (page : ℕ) (mark : Mark) → IsLayout device layout
    → page ≤ last_used device layout.side → (mark ≡ Active) ⊎ (mark ≡ Valid)
    → IsMarkBehind device layout.side page mark
mark_behind layout device _ _ is h kind = search (rules, last_in_range)

pub valid_behind : (layout : Layout) (device : Device) (page : ℕ) → IsLayout device layout
    → first_page device.size layout.side ≤ page → page < layout.current
    → IsMarkBehind device layout.side (page - first_page device.size layout.side) Valid
valid_behind layout device page is _ below =
    mark_behind layout device (page - first_page device.size layout.side) Valid is
    (omega (arith, last_is layout device is)) (inr refl)

pub last_behind : (layout : Layout) (device : Device) (mark : Mark) → IsLayout device layout
    → (mark ≡ Active) ⊎ (mark ≡ Valid)
    → IsMarkBehind device layout.side (layout.current - first_page device.size layout.side) mark
last_behind layout device mark is kind =
    mark_behind layout device (layout.current - first_page device.size layout.side) mark is
    (omega (arith, last_is layout device is)) kind

-- one page more is marked
pub valid_more : (first page : ℕ) (mid new : Device) → first ≤ page
    → ((k : ℕ) → k < page - first → is_marked mid (first + k) Valid ≡ true) → KeepsMarks mid new
    → is_marked new page Valid ≡ true → (k : ℕ) → k < page + 1 - first
    → is_marked new (first + k) Valid ≡ true
valid_more first page _ new _ before keeps here k h = elim (cases_lt k _) [
  | inl earlier ↦ keeps (first + k) Valid (before k earlier)
  | inr last ↦ search rules
]

-- the marks of the live set, said of the device as it was
pub live_marked : (layout : Layout) (old mid new : Device) → IsLayout old layout
    → Stays old new layout.side layout.generation
    → ((k : ℕ) → k < layout.current - first_page old.size layout.side
    → is_marked mid (first_page old.size layout.side + k) Valid ≡ true)
    → KeepsMarks mid new → is_marked new layout.current Active ≡ true → IsLiveMarked new layout.side
live_marked layout old _ new is stays valid keeps active =
    let first = ap (λ size. first_page size layout.side) stays.keeps.same_size in
    let place = sym (last_is layout new (layout_stays layout old new is stays)) in
    record {
      valid = λ page below.
          ap (λ n. is_marked new (n + page) Valid) first
          ∙ keeps (first_page old.size layout.side + page) Valid (valid page (omega arith));
      active = search rules;
    }

-- marks that a further call keeps
pub live_marks_kept : (side : Side) (old new : Device) (generation : ℕ)
    → Stays old new side generation → KeepsMarks old new → IsLiveMarked old side
    → IsLiveMarked new side
live_marks_kept side old new _ stays keeps marked =
    let first = ap (λ size. first_page size side) stays.keeps.same_size in
    let last =
    ap (λ size. page_of_slot size (fill_of (slots_of (set_of side new)) - 1)) stays.keeps.same_size
    ∙ ap (λ fill. page_of_slot old.size (fill - 1)) stays.keeps.same_fill in
    record {
      valid =
          λ page below. ap (λ n. is_marked new (n + page) Valid) first
          ∙ keeps (first_page old.size side + page) Valid
          (marked.valid page (subst (λ n. page < n) last below));
      active =
          ap (λ n. is_marked new (n + last_used new side) Active) first
          ∙ ap (λ n. is_marked new (first_page old.size side + n) Active) last
          ∙ keeps (first_page old.size side + last_used old side) Active marked.active;
    }

-- a page of the other set is done
abbrev pub IsPageDone : Device → ℕ → Type 0
IsPageDone device page =
    (is_blank (page_at device page) ≡ true) ⊎ (is_marked device page Erasing ≡ true)

-- one page more is done, and the others are as before
pub done_more : (first page : ℕ) (mid new : Device) → first ≤ page
    → ((k : ℕ) → k < page - first → IsPageDone mid (first + k)) → IsSameBut page mid new
    → IsPageDone new page → (k : ℕ) → k < page + 1 - first → IsPageDone new (first + k)
done_more first page _ new _ before same here k h = search rules

-- what marking a page of the other set leaves, if it was not done
pub record MarksPage (mid new : Device) (side : Side) (generation page : ℕ) : Type 0 where
  pub stays : Stays mid new side generation
  pub marks : KeepsMarks mid new
  pub others : IsSameBut page mid new
  pub done : IsPageDone new page
  pub waiting : is_blank (page_at mid page) ≡ false → SetsMark page Erasing mid new
  pub passed : is_blank (page_at mid page) ≡ true → new ≡ mid
  pub steps : Completes (retire_words (page_at mid page) page) mid new

pub marks_none : (device : Device) (side : Side) (generation page : ℕ)
    → IsLive device side generation → is_blank (page_at device page) ≡ true
    → MarksPage device device side generation page
marks_none device _ _ page live blank = record {
  stays = same_stays _ _ _ _ live refl;
  marks = λ p mark was. was;
  others = λ p apart. refl;
  done = inl blank;
  waiting = search rules;
  passed = λ is. refl;
  steps = rw blank (completes_none device);
}

pub marks_one : (mid new : Device) (side : Side) (generation page : ℕ)
    → is_blank (page_at mid page) ≡ false → Stays mid new side generation → KeepsMarks mid new
    → IsSameBut page mid new → is_marked new page Erasing ≡ true → SetsMark page Erasing mid new
    → Completes (steps_to_mark mid Erasing page) mid new
    → MarksPage mid new side generation page
marks_one mid _ _ _ page written stays marks others marked sets steps =
    record {
      stays = stays;
      marks = marks;
      others = others;
      done = inr marked;
      waiting = λ is. sets;
      passed = search rules;
      steps = rw written steps;
    }
