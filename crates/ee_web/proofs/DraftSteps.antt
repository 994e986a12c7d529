-- What listing one more step does to a draft.
use Rattle.std.proofs.Common.{subst, Option, zero, suc, min, drop, ◌*◌, Bool, true, ◌≡◌, inl, inr, ℕ, ◌+◌, ◌<◌, ◌≤◌, List, [], ◌∷◌, ◌++◌, length, get_or, set, map, take, replicate, refl, sym, ap, ◌∙◌, arith, rules}
use Rattle.std.proofs.lemmas.Grind.{common_steps}
use mathlib.Core.List.{List-discrete}
use mathlib.Core.HLevel.{⊥_prop}
use mathlib.Core.Logic.{∥∥₁_elim}
use Rattle.std.proofs.Math.Decide.{ℕ_discrete}
use Rattle.std.proofs.lemmas.Bool.{cases_eq, cases_lt}
use Rattle.std.proofs.Math.Seq.{take-suc}
use Rattle.std.proofs.lemmas.List.{get_or-set_same, get_or-set_other, get_or-replicate, get_or-map, map-append, take_at, take_more_set, take-append-drop, take-take, length-set}
use Rattle.std.specs.List.{All, refill, zip}
use Rattle.std.proofs.lemmas.Slice.Zip.{get_or-zip, length-zip}
use Rattle.std.proofs.lemmas.Nat.{mul-add-lt}
use Rattle.std.proofs.lemmas.Bool.Decides.{nat_tests}
use Rattle.std.proofs.lemmas.List.Elements.{All-append, All-cons, All-nil}
use Rattle.ee_flash.specs.Device.{Device, IsBelowAllOnes, IsFormed, all_ones, word_at}
use Rattle.ee_flash.specs.declared.fuse.Fuse.{Fuse}
use Rattle.ee_flash.specs.Laws.{CanTake, all_completed}
use Rattle.ee_flash.specs.Size.{Size, page_count}
use Rattle.ee_flash.specs.Step.{Step, Program, Erase, device_after, with_page_erased, one_more, with_word_programmed, with_page_worn}
use Rattle.ee_flash.specs.Pages.{pages_of}
use Rattle.ee_flash.proofs.Public.{all_completed_on, get_or-pages_of}
use Rattle.ee_flash.specs.Endurance.{CanTakeAll}
use Rattle.ee_web.specs.Calls.{WearsOnceMore}
use Rattle.ee_web.specs.Draft.{IsFresh, drafted_device}
use Rattle.ee_web.specs.DraftLaws.{all_formed, one_more_step, one_more_taken, same_cuts, same_cuts_left, same_fuse, same_size}
use Rattle.ee_web.specs.Mirror.{cells_of, word_of_number}
use Rattle.ee_flash.specs.declared.word.Word.{Word}
use Rattle.ee_flash.specs.declared.word.Word.TheVariants.{Erased}
use Rattle.ee_web.specs.Listing.{IsZeroIfErase, left_by, step_listed_so, steps_of}
use Rattle.ee_web.specs.declared.listing.ListedStep.{ListedStep}

-- a word of a formed device is erased, torn or held below all ones
pub word_below : (device : Device) (page at : ℕ) → IsFormed device → page < page_count device.size
    → at < device.size.words → IsBelowAllOnes (word_at device page at)
word_below device page at formed page_in place_in = search rules

-- what a whole step leaves of a word
pub word_after : (step : Step) (device : Device) (page at : ℕ) → IsFormed device
    → CanTake step device → page < page_count device.size → at < device.size.words
    → word_at (device_after step device) page at ≡ left_by step page at (word_at device page at)
word_after (Program changed place value) device page at formed may page_in place_in =
    search (rules, cases_eq, get_or-set_other, get_or-set_same, nat_tests)
word_after (Erase changed) device page at formed may page_in place_in =
    search (rules, cases_eq, get_or-replicate, get_or-set_other, get_or-set_same, nat_tests)

-- a list of steps of which a front is taken
pub front_taken : (steps more : List Step) (device : Device) → CanTakeAll (steps ++ more) device
    → CanTakeAll steps device
front_taken [] more device taken = tt
front_taken (step ∷ steps) more device taken =
    (taken.0, front_taken steps more (device_after step device) taken.1)

-- a front of the listed steps is taken
pub part_taken : (listed : List ListedStep) (count part : ℕ) (start : Device)
    → count ≤ length listed → part ≤ count → CanTakeAll (steps_of count listed) start
    → CanTakeAll (steps_of part listed) start
unfolding steps_of
part_taken listed count part start within fewer taken =
    let split : take count listed ≡ take part listed ++ drop part (take count listed) =
    sym (take-append-drop part (take count listed))
    ∙ ap (λ (front : List ListedStep). front ++ drop part (take count listed))
    (take-take part count listed fewer) in
    front_taken (map step_listed_so (take part listed))
    (map step_listed_so (drop part (take count listed))) start
    (subst (λ (steps : List Step). CanTakeAll steps start)
    (ap (map step_listed_so) split
    ∙ map-append step_listed_so (take part listed) (drop part (take count listed)))
    taken)

-- one more step is listed
pub more_listed : (listed : List ListedStep) (count : ℕ) (step : ListedStep) → count < length listed
    → steps_of (count + 1) (set listed count step)
    ≡ steps_of count listed ++ step_listed_so step ∷ []
unfolding steps_of
more_listed listed count step room =
    ap (map step_listed_so) (take_more_set listed count step room)
    ∙ map-append step_listed_so (take count listed) (step ∷ [])

-- the steps up to the one of this number, and that one
pub next_listed : (listed : List ListedStep) (count : ℕ) (none : ListedStep) → count < length listed
    → steps_of (count + 1) listed
    ≡ steps_of count listed ++ step_listed_so (get_or listed count none) ∷ []
unfolding steps_of
next_listed listed count none room = grind (arith, common_steps, map-append, take-suc)

pub next_taken : (steps : List Step) (step : Step) (device : Device)
    → CanTakeAll (steps ++ step ∷ []) device → CanTake step (all_completed steps device)
next_taken [] step device taken = taken.0
next_taken (first ∷ steps) step device taken =
    next_taken steps step (device_after first device) taken.1

pub none_listed : (listed : List ListedStep) → steps_of 0 listed ≡ []
unfolding steps_of
none_listed listed = refl

module _ (start : Device) (listed : List ListedStep) (count : ℕ) (room : count < length listed)
    (fresh : IsFresh start) where
  abbrev steps : List Step
  steps = steps_of count listed

  -- with a program listed
  abbrev program_listed : ℕ → ℕ → ℕ → List Step
  program_listed page at value =
      steps_of (count + 1) (set listed count (record { page = page; place = at; value = value }))

  program_is : (page at value : ℕ) → at < start.size.words
      → program_listed page at value ≡ steps ++ Program page at value ∷ []
  program_is page at value within = search (rules, more_listed, nat_tests)

  pub program_done : (page at value : ℕ) → at < start.size.words
      → (wear : List ℕ) (cuts : ℕ) (on : Bool)
      → drafted_device start (program_listed page at value) wear cuts on
      ≡ with_word_programmed page at value (drafted_device start steps wear cuts on)
  program_done page at value within wear cuts on =
      let with_image : Device → Device =
      λ device. record (drafted_device start steps wear cuts on) { image = device.image } in
      ap (λ (listed_steps : List Step). drafted_device start listed_steps wear cuts on)
      (program_is page at value within)
      ∙ ap with_image (one_more_step steps (Program page at value) start)

  pub program_taken : (page at value : ℕ) (wear : List ℕ) (cuts : ℕ) (on : Bool)
      → page < page_count start.size → at < start.size.words
      → word_at (drafted_device start steps wear cuts on) page at ≡ Erased → value < all_ones
      → CanTakeAll steps start → CanTakeAll (program_listed page at value) start
  program_taken page at value wear cuts on page_in place_in erased_there below taken =
      let size = same_size steps start in
      let may : CanTake (Program page at value) (all_completed steps start) =
      (rw size page_in, rw size place_in, erased_there, below) in
      subst (λ (listed_steps : List Step). CanTakeAll listed_steps start)
      (sym (program_is page at value place_in))
      (one_more_taken steps (Program page at value) start taken may)

  pub program_wear : (page at value : ℕ) → at < start.size.words
      → (all_completed steps start).wear ≡ (all_completed (program_listed page at value) start).wear
  program_wear page at value within =
      sym (ap (λ (listed_steps : List Step). (all_completed listed_steps start).wear)
      (program_is page at value within)
      ∙ ap (λ (device : Device). device.wear) (one_more_step steps (Program page at value) start))

  -- with an erase listed
  abbrev erase_listed : ListedStep → List Step
  erase_listed step = steps_of (count + 1) (set listed count step)

  erase_is : (page : ℕ) (step : ListedStep) → step_listed_so step ≡ Erase page
      → erase_listed step ≡ steps ++ Erase page ∷ []
  erase_is page step is = more_listed listed count step room ∙ ap (λ (s : Step). steps ++ s ∷ []) is

  pub erase_done : (page : ℕ) (step : ListedStep) → step_listed_so step ≡ Erase page
      → (wear : List ℕ) (cuts : ℕ) (on : Bool)
      → drafted_device start (erase_listed step) (set wear page (one_more (get_or wear page 0)))
      cuts on
      ≡ with_page_erased page (drafted_device start steps wear cuts on)
  erase_done page step is wear cuts on =
      let worn_wear = set wear page (one_more (get_or wear page 0)) in
      let with_image : Device → Device =
      λ device.
      record (drafted_device start steps worn_wear cuts on) { image = device.image } in
      let with_size : Size → Device =
      λ size. record (drafted_device start steps worn_wear cuts on) {
        image =
            set (all_completed steps start).image page (replicate size.words Erased);
      } in
      ap (λ (listed_steps : List Step). drafted_device start listed_steps worn_wear cuts on)
      (erase_is page step is)
      ∙ ap with_image (one_more_step steps (Erase page) start)
      ∙ ap with_size (same_size steps start)

  pub erase_taken : (page : ℕ) (step : ListedStep) → step_listed_so step ≡ Erase page
      → page < page_count start.size → CanTakeAll steps start → CanTakeAll (erase_listed step) start
  erase_taken page step is page_in taken =
      let size = same_size steps start in
      let may : CanTake (Erase page) (all_completed steps start) = rw size page_in in
      subst (λ (listed_steps : List Step). CanTakeAll listed_steps start)
      (sym (erase_is page step is)) (one_more_taken steps (Erase page) start taken may)

  pub erase_wear : (page : ℕ) (step : ListedStep) → step_listed_so step ≡ Erase page
      → (wear : List ℕ) → wear ≡ (all_completed steps start).wear
      → set wear page (one_more (get_or wear page 0))
      ≡ (all_completed (erase_listed step) start).wear
  erase_wear page step is wear same =
      ap (λ (counts : List ℕ). set counts page (one_more (get_or counts page 0))) same
      ∙ sym (ap (λ (listed_steps : List Step). (all_completed listed_steps start).wear)
      (erase_is page step is)
      ∙ ap (λ (device : Device). device.wear) (one_more_step steps (Erase page) start))

-- the items of a wear after one was counted
pub worn_items : (items seen read : List ℕ) (page worn : ℕ) → seen ≡ items → read ≡ items
    → worn ≡ min (get_or read page 0 + 1) all_ones
    → refill (length items) items (set seen page worn)
    ≡ set items page (one_more (get_or items page 0))
worn_items items seen read page worn is_seen is_read is_worn = search (rules, length-set, take_at)

-- the word that a number with its flag means
pub decoded_at : (words flags : List ℕ) (place : ℕ) → place < length words → place < length flags
    → get_or (cells_of words flags) place Erased
    ≡ word_of_number (get_or words place 0) (get_or flags place 0)
unfolding cells_of
decoded_at words flags place in_words in_flags =
    get_or-map (λ (cell : ℕ × ℕ). word_of_number cell.0 cell.1) (zip words flags) place (0, 0)
    Erased (omega (arith, length-zip words flags))
    ∙ ap (λ (cell : ℕ × ℕ). word_of_number cell.0 cell.1)
    (get_or-zip words flags place (0, 0) in_words in_flags)

pub word_start : (start : Device) (size : Size) (words flags : List ℕ) (page at : ℕ)
    → start.size ≡ size → start.image ≡ pages_of size (cells_of words flags)
    → length words ≡ page_count size * size.words → length flags ≡ page_count size * size.words
    → page < page_count start.size → at < start.size.words
    → word_at start page at
    ≡ word_of_number (get_or words (page * size.words + at) 0)
    (get_or flags (page * size.words + at) 0)
word_start start size words flags page at same_size_ image as_many flagged page_in place_in =
    let page_below : page < page_count size = rw (sym same_size_) page_in in
    let place_below : at < size.words = rw (sym same_size_) place_in in
    let within = mul-add-lt page size.words at (page_count size) page_below place_below in
    ap (λ (pages : List (List Word)). get_or (get_or pages page []) at Erased) image
    ∙ get_or-pages_of size (cells_of words flags) page at page_below place_below
    ∙ decoded_at words flags (page * size.words + at) (omega arith) (omega arith)

-- a word after one more of the steps
pub word_next : (start : Device) (listed : List ListedStep) (count taken page at : ℕ)
    (word next : Word) (none : ListedStep)
    → IsFresh start → count ≤ length listed → taken < count
    → CanTakeAll (steps_of count listed) start → page < page_count start.size
    → at < start.size.words → word ≡ word_at (all_completed (steps_of taken listed) start) page at
    → next ≡ left_by (step_listed_so (get_or listed taken none)) page at word
    → next ≡ word_at (all_completed (steps_of (taken + 1) listed) start) page at
word_next start listed count taken page at word next none fresh within below all_taken page_in
    place_in is_word is_next =
    let steps = steps_of taken listed in
    let step = step_listed_so (get_or listed taken none) in
    let more : steps_of (taken + 1) listed ≡ steps ++ step ∷ [] =
    next_listed listed taken none (omega arith) in
    let so_far : CanTakeAll (steps ++ step ∷ []) start =
    subst (λ (listed_steps : List Step). CanTakeAll listed_steps start) more
    (part_taken listed count (taken + 1) start within (omega arith) all_taken) in
    let formed =
    all_formed steps start fresh.formed fresh.on (front_taken steps (step ∷ []) start so_far) in
    let size = same_size steps start in
    is_next ∙ ap (left_by step page at) is_word
    ∙ sym
    (word_after step (all_completed steps start) page at formed (next_taken steps step start so_far)
    (rw size page_in) (rw size place_in))
    ∙ sym (ap (λ (device : Device). word_at device page at) (one_more_step steps step start))
    ∙ sym
    (ap (λ (listed_steps : List Step). word_at (all_completed listed_steps start) page at) more)

-- one more is listed, which has the value 0 if it is an erase
pub zeros_listed : (listed : List ListedStep) (count : ℕ) (step : ListedStep)
    → count < length listed → IsZeroIfErase step → All IsZeroIfErase (take count listed)
    → All IsZeroIfErase (take (count + 1) (set listed count step))
zeros_listed listed count step room own zeros =
    subst (All IsZeroIfErase) (sym (take_more_set listed count step room))
    (All-append IsZeroIfErase (take count listed) (step ∷ []) zeros
    (All-cons IsZeroIfErase step [] own (All-nil IsZeroIfErase)))

-- a program is no erase
pub zero_of_program : (page at value words : ℕ) → at < words → words ≤ 512
    → IsZeroIfErase (record { page = page; place = at; value = value })
zero_of_program page at value words within few is =
    absurd (let ones : at ≡ all_ones = is in omega arith)

-- ---- wears when a step was cut

-- whether they are so: each page is tried
one_page_more : (pages : ℕ) (device : Device) (wear : List ℕ)
    → Dec ((page : ℕ) × (page < pages) × (wear ≡ (with_page_worn page device).wear))
one_page_more zero device wear = no (λ found. omega (arith, found.1))
one_page_more (suc pages) device wear =
    elim (List-discrete ℕ_discrete wear (with_page_worn pages device).wear) [
      | yes same ↦ yes (pages, omega arith, same)
      | no other ↦ elim (one_page_more pages device wear) [
        | yes found ↦ yes (found.0, omega (arith, found.1), found.2)
        | no none ↦ no (λ found. elim (cases_lt found.0 pages) [
          | inl lower ↦ none (found.0, lower, found.2)
          | inr last ↦
              let is_last : found.0 ≡ pages = omega (arith, found.1) in
              other (subst (λ (page : ℕ). wear ≡ (with_page_worn page device).wear) is_last found.2)
        ])
      ]
    ]

pub wears_once_more : (device : Device) (wear : List ℕ) → ∥ WearsOnceMore device wear ∥₁
    → WearsOnceMore device wear
wears_once_more device wear some = elim (List-discrete ℕ_discrete wear device.wear) [
  | yes same ↦ inl same
  | no other ↦ elim (one_page_more (page_count device.size) device wear) [
    | yes found ↦ inr found
    | no none ↦ absurd (∥∥₁_elim some ⊥_prop (λ once. elim once [
      | inl same ↦ other same
      | inr found ↦ none found
    ]))
  ]
]

-- the erase of a page was cut
pub cut_erase_wears : (start : Device) (taken : List Step) (page : ℕ) (wear new : List ℕ)
    → page < page_count start.size → wear ≡ (all_completed taken start).wear
    → new ≡ set wear page (one_more (get_or wear page 0))
    → WearsOnceMore (all_completed taken start) new
cut_erase_wears start taken page wear new page_in same is_new =
    let size = same_size taken start in
    inr (
      page,
      rw size page_in,
      is_new
          ∙ ap (λ (counts : List ℕ). set counts page (one_more (get_or counts page 0))) same,
    )

-- where the list has room, no step was cut
pub none_cut : (cuts count : ℕ) (listed : List ListedStep) → count < length listed
    → ((cuts ≡ 0 → ⊥) → count ≡ length listed) → cuts ≡ 0
none_cut cuts count listed room full = search (rules, cases_eq)

-- a draft that was never cut is the device after its steps
pub drafted_whole : (start : Device) (steps : List Step) (wear : List ℕ) (cuts : ℕ) (on : Bool)
    → IsFresh start → (cuts ≡ 0 → (wear ≡ (all_completed steps start).wear) × (on ≡ true))
    → cuts ≡ 0 → drafted_device start steps wear cuts on ≡ all_completed steps start
drafted_whole start steps wear cuts on fresh whole none =
    let last = all_completed steps start in
    let same = whole none in
    ap (λ (size : Size). record (drafted_device start steps wear cuts on) { size = size })
    (sym (same_size steps start))
    ∙ ap
    (λ (counts : List ℕ).
    record (drafted_device start steps wear cuts on) { size = last.size; wear = counts })
    same.0
    ∙ ap
    (λ (n : ℕ).
    record (drafted_device start steps last.wear cuts on) { size = last.size; cuts = n })
    (none ∙ sym (same_cuts steps start ∙ fresh.never_cut))
    ∙ ap
    (λ (left : Option ℕ). record (drafted_device start steps last.wear last.cuts on)
    { size = last.size; cuts_left = left })
    (sym (same_cuts_left steps start ∙ fresh.any_cuts))
    ∙ ap
    (λ (known : Option (Option Fuse)). record (drafted_device start steps last.wear last.cuts on)
    { size = last.size; cuts_left = last.cuts_left; fuse = known })
    (sym (same_fuse steps start fresh.no_fuse_known))
    ∙ ap
    (λ (power : Bool). record (drafted_device start steps last.wear last.cuts power)
    { size = last.size; cuts_left = last.cuts_left; fuse = last.fuse })
    (same.1 ∙ sym (all_completed_on steps start ∙ fresh.on))
