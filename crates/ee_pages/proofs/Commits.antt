-- The commit of a set that a transfer filled.
use Rattle.std.proofs.Common.{rules, ◌≡◌, ◌⊎◌, inl, inr, ℕ, ◌+◌, ◌<◌, true, false, cond, Option, Some, None, List, [], length, get_or, nat_lt, set, refl, sym, ap, ◌∙◌, arith}
use Rattle.std.proofs.lemmas.Bool.{cases_eq}
use Rattle.std.proofs.lemmas.Grind.{common_steps}
use Rattle.std.proofs.lemmas.List.{get_or-set_other, get_or-set_same}
use Rattle.ee_flash.specs.Device.{Device, IsFormed, page_at}
use Rattle.ee_flash.specs.Laws.{DiffersInPage, IsStep}
use Rattle.ee_flash.specs.Size.{Size}
use Rattle.ee_flash.specs.Step.{device_after, with_word}
use Rattle.ee_flash.specs.declared.word.Word.{Word}
use Rattle.ee_flash.specs.declared.word.Word.TheVariants.{Erased, Held, Torn}
use Rattle.ee_flash.proofs.Public.{length-page_at, step_changes_one_page, step_keeps_formed, step_leaves_pages}
use Rattle.ee_codec.proofs.Public.{receive_of-receive}
use Rattle.ee_codec.specs.Reading.{mark_of, receive_of}
use Rattle.ee_codec.specs.Words.{mark_number, IsGeneration}
use Rattle.ee_pages.specs.Filling.{IsCommitted, IsFilling}
use Rattle.ee_pages.specs.Laws.{IsPageOf, KeepsLiveSet, KeepsSide}
use Rattle.ee_pages.specs.Legal.{IsLive, is_allowed, is_allowed_at}
use Rattle.ee_pages.specs.Page.{marking, word_in}
use Rattle.ee_pages.specs.Sets.{committed_generation, first_page, front, greater_set, is_mark, live_of, other, set_of, slots_of, word_of}
use Rattle.ee_pages.specs.declared.side.Side.{Side}
use Rattle.ee_pages.specs.declared.side.Side.TheVariants.{First, Second}
use Rattle.ee_pages.specs.declared.state.Mark.TheVariants.{Active}
use Rattle.ee_pages.proofs.OtherSet.{greater_first, greater_second, kept_side_is_live, same_set}
use Rattle.ee_pages.proofs.OwnSet.{header_word, own_set, page_of_set}
use Rattle.ee_pages.proofs.Slots.{length-set_of}
use Rattle.ee_pages.proofs.SetPrograms.{as_it_was}

-- the set of a side and its generation, of two that are committed
abbrev generation_in : Option (Side × ℕ) → ℕ
generation_in None = 0
generation_in (Some live) = live.1

only_first : (first : Option ℕ) (generation : ℕ) → greater_set first None ≡ Some (First, generation)
    → first ≡ Some generation
only_first None generation e = cc
only_first (Some first) generation e =
    let same : first ≡ generation = ap generation_in e in ap Some same

only_second : (second : Option ℕ) (generation : ℕ)
    → greater_set None second ≡ Some (Second, generation) → second ≡ Some generation
only_second None generation e = cc
only_second (Some second) generation e =
    let same : second ≡ generation = ap generation_in e in ap Some same

-- the live set is committed with its generation
pub live_commits : (side : Side) (device : Device) (generation : ℕ)
    → live_of device ≡ Some (side, generation)
    → committed_generation (set_of side device) ≡ Some generation
live_commits First device generation live =
    only_first _ generation (greater_first _ _ generation live)
live_commits Second device generation live =
    only_second _ generation (greater_second _ _ generation live)

more_less : (g n : ℕ) → g < n → (nat_lt n g ≡ false) × (nat_lt g n ≡ true)
more_less g n h = (grind (arith, common_steps), grind (arith, common_steps))

-- a set that is committed with a greater generation than the other, or alone, is live
later_is_live : (side : Side) (device : Device) (generation : ℕ) (mine : Option ℕ)
    → committed_generation (set_of side device) ≡ mine → ((g : ℕ) → mine ≡ Some g → g < generation)
    → committed_generation (set_of (other side) device) ≡ Some generation
    → live_of device ≡ Some (other side, generation)
later_is_live First device generation None before older after = rw (before, after) refl
later_is_live First device generation (Some g) before older after =
    rw (
      before,
      after,
      (more_less g generation (older g refl)).0,
      (more_less g generation (older g refl)).1,
    ) refl
later_is_live Second device generation None before older after = rw (before, after) refl
later_is_live Second device generation (Some g) before older after =
    rw (before, after, (more_less g generation (older g refl)).1) refl

pub first_in_range : (side : Side) (device : Device) → IsFormed device
    → first_page device.size side < length device.image
first_in_range First device formed =
    omega (arith, formed.image_length, formed.within_limits.some_pages)
first_in_range Second device formed =
    omega (arith, formed.image_length, formed.within_limits.some_pages)

-- the pages of a set, with this word in the place of its first page's active mark
abbrev pub marked : List (List Word) → Word → List (List Word)
marked pages word = set pages 0 (set (get_or pages 0 []) 1 word)

marked_word : (pages : List (List Word)) (word : Word) → 0 < length pages
    → 1 < length (get_or pages 0 []) → word_of (marked pages word) 0 1 ≡ word
marked_word pages word some long =
    ap (λ words. word_in words 1) (get_or-set_same pages 0 (set (get_or pages 0 []) 1 word) [] some)
    ∙ get_or-set_same (get_or pages 0 []) 1 word Erased long

first_words : (pages : List (List Word)) (word : Word) (at : ℕ) → 0 < length pages → (at ≡ 1 → ⊥)
    → word_of (marked pages word) 0 at ≡ word_of pages 0 at
first_words pages word at some other =
    ap (λ words. word_in words at)
    (get_or-set_same pages 0 (set (get_or pages 0 []) 1 word) [] some)
    ∙ get_or-set_other (get_or pages 0 []) 1 at word Erased other

further_words : (pages : List (List Word)) (word : Word) (page at : ℕ) → (page ≡ 0 → ⊥)
    → word_of (marked pages word) page at ≡ word_of pages page at
further_words pages word page at further =
    ap (λ words. word_in words at)
    (get_or-set_other pages 0 page (set (get_or pages 0 []) 1 word) [] further)

-- the place of the mark that commits takes any word
any_commits : (size : Size) (generation written : ℕ)
    → is_allowed size generation written 0 1 (Held mark_number) ≡ true
any_commits size generation written = grind (arith, common_steps)

pub marked_commits : (pages : List (List Word)) (word : Word) → 0 < length pages
    → 1 < length (get_or pages 0 [])
    → committed_generation (marked pages word)
    ≡ cond (is_mark (mark_of word)) (receive_of (word_of pages 0 0)) None
marked_commits pages word some long =
    rw (marked_word pages word some long, first_words pages word 0 some (λ e. cc)) refl

pub mark_allowed : (size : Size) (generation : ℕ) (pages : List (List Word)) (page at : ℕ)
    → 0 < length pages → 1 < length (get_or pages 0 [])
    → is_allowed_at size generation pages page at ≡ true
    → is_allowed_at size generation (marked pages (Held mark_number)) page at ≡ true
mark_allowed size generation pages page at some long before =
    let slots : slots_of (marked pages (Held mark_number)) ≡ slots_of pages =
    header_word pages 0 1 (Held mark_number) (omega arith) in
    let same : word_of (marked pages (Held mark_number)) page at ≡ word_of pages page at
    → is_allowed_at size generation (marked pages (Held mark_number)) page at ≡ true =
    λ e. rw (slots, e) before in
    elim (cases_eq page 0) [
      | inr further ↦ same (further_words pages (Held mark_number) page at further)
      | inl zero ↦ elim (cases_eq at 1) [
        | inr other ↦ same
            (ap (λ n. word_of (marked pages (Held mark_number)) n at) zero
            ∙ first_words pages (Held mark_number) at some other
            ∙ ap (λ n. word_of pages n at) (sym zero))
        | inl one ↦ rw (zero, one, marked_word pages (Held mark_number) some long)
            (any_commits size generation (front (slots_of (marked pages (Held mark_number)))))
      ]
    ]

module _ (old new : Device) (side : Side) (formed : IsFormed old)
    (differs : DiffersInPage (first_page old.size side) old new) where
  -- the set's pages, where the first one has a word in that place
  pub set_marked : (word : Word)
      → new.image
      ≡ set old.image (first_page old.size side)
      (set (page_at old (first_page old.size side)) 1 word)
      → set_of side new ≡ marked (set_of side old) word
  set_marked word is = search (rules, page_of_set, get_or-set_same, first_in_range, own_set)

pub first_in_set : (side : Side) (device : Device) → IsFormed device
    → IsPageOf device.size side (first_page device.size side)
first_in_set side device formed =
    record { from = omega arith; below = omega (arith, formed.within_limits.some_pages) }

module _ (old new : Device) (side : Side) (generation count : ℕ)
    (older : (g : ℕ) → committed_generation (set_of side old) ≡ Some g → g < generation + 1)
    (filling : IsFilling old (other side) (generation + 1) count)
    (proper : generation + 1 < 4294967295)
    (taken : IsStep (marking (first_page old.size (other side)) Active) old new) where
  differs : DiffersInPage (first_page old.size (other side)) old new
  differs = step_changes_one_page (marking (first_page old.size (other side)) Active) old new taken

  formed_after : IsFormed new
  formed_after = step_keeps_formed (marking (first_page old.size (other side)) Active) old new taken

  same_live : set_of side new ≡ set_of side old
  same_live =
      same_set side old new (first_page old.size (other side)) differs
      (first_in_set (other side) old taken.formed)

  some : 0 < length (set_of (other side) old)
  some = omega
      (arith, length-set_of (other side) old taken.formed, taken.formed.within_limits.some_pages)

  long : 1 < length (get_or (set_of (other side) old) 0 [])
  long = search (rules, page_of_set, length-page_at)

  -- the whole mark
  commits_whole : new.image
      ≡ (device_after (marking (first_page old.size (other side)) Active) old).image
      → IsCommitted old new (other side) (generation + 1)
  commits_whole is =
      let pages = set_marked old new (other side) taken.formed differs (Held mark_number) is in
      let after : committed_generation (set_of (other side) new) ≡ Some (generation + 1) =
      ap committed_generation pages
      ∙ marked_commits (set_of (other side) old) (Held mark_number) some long
      ∙ ap receive_of filling.receives
      ∙ receive_of-receive (generation + 1) (omega arith, proper) in
      record {
        live = record {
          formed = formed_after;
          live = later_is_live side new (generation + 1) _ (ap committed_generation same_live) older
              after;
          allowed = λ page at in_range within.
              let old_page : page < old.size.pages =
              omega (arith, ap (λ size. size.pages) differs.same_size) in
              let old_at : at < old.size.words =
              omega (arith, ap (λ size. size.words) differs.same_size) in
              let fact =
              mark_allowed old.size (generation + 1) (set_of (other side) old) page at some long
              (filling.allowed page at old_page old_at) in
              ap (λ (all : List (List Word)). is_allowed_at new.size (generation + 1) all page at)
              pages
              ∙ ap
              (λ size. is_allowed_at size (generation + 1)
              (marked (set_of (other side) old) (Held mark_number)) page at)
              differs.same_size
              ∙ fact;
        };
        same_size = differs.same_size;
        same_slots =
            ap slots_of pages
            ∙ header_word (set_of (other side) old) 0 1 (Held mark_number) (omega arith);
      }

  keeps_by
      :
      (committed_generation (set_of (other side) new)
      ≡ committed_generation (set_of (other side) old))
      ⊎ (committed_generation (set_of (other side) new) ≡ None)
      → KeepsSide old new side
  keeps_by after = record {
    formed = formed_after;
    same_size = differs.same_size;
    same_set = same_live;
    same_slots = ap slots_of same_live;
    commits = after;
  }

  -- a torn mark does not commit
  torn_keeps : new.image ≡ (with_word (first_page old.size (other side)) 1 Torn old).image
      → KeepsSide old new side
  torn_keeps is =
      let pages = set_marked old new (other side) taken.formed differs Torn is in
      keeps_by
      (inr
      (ap committed_generation pages
      ∙ marked_commits (set_of (other side) old) Torn some long))

  outcomes : KeepsSide old new side ⊎ IsCommitted old new (other side) (generation + 1)
  outcomes =
      elim (step_leaves_pages (marking (first_page old.size (other side)) Active) old new taken) [
        | inl same ↦ inl
            (keeps_by
            (inl (ap committed_generation (as_it_was (other side) old new differs.same_size same))))
        | inr (inl held) ↦ inr (commits_whole held)
        | inr (inr torn) ↦ inl (torn_keeps torn)
      ]

-- so it is whatever stands in the set that is left, if it is committed with no greater generation
pub commits_over : (old new : Device) (side : Side) (generation count : ℕ)
    → ((g : ℕ) → committed_generation (set_of side old) ≡ Some g → g < generation + 1)
    → IsFilling old (other side) (generation + 1) count → IsGeneration (generation + 1)
    → IsStep (marking (first_page old.size (other side)) Active) old new
    → (set_of side new ≡ set_of side old)
    × (KeepsSide old new side ⊎ IsCommitted old new (other side) (generation + 1))
commits_over old new side generation count older filling proper taken =
    let below : generation + 1 < 4294967295 = omega (arith, proper.1) in (
      same_live old new side generation count older filling below taken,
      outcomes old new side generation count older filling below taken,
    )

pub whole_commits_over : (old new : Device) (side : Side) (generation count : ℕ)
    → ((g : ℕ) → committed_generation (set_of side old) ≡ Some g → g < generation + 1)
    → IsFilling old (other side) (generation + 1) count → IsGeneration (generation + 1)
    → let step =
    marking (first_page old.size (other side)) Active in IsStep step old new
    → new ≡ device_after step old → IsCommitted old new (other side) (generation + 1)
whole_commits_over old new side generation count older filling proper taken whole =
    let below : generation + 1 < 4294967295 = omega (arith, proper.1) in
    commits_whole old new side generation count older filling below taken
    (ap (λ (device : Device). device.image) whole)

abbrev number_in : Option ℕ → ℕ
number_in None = 0
number_in (Some n) = n

same_some : (mine : Option ℕ) (generation g : ℕ) → mine ≡ Some generation → mine ≡ Some g
    → g < generation + 1
same_some mine generation g is e =
    let same : generation ≡ g = ap number_in (sym is ∙ e) in omega (arith, same)

pub older_live : (side : Side) (old : Device) (generation : ℕ)
    → live_of old ≡ Some (side, generation) → (g : ℕ)
    → committed_generation (set_of side old) ≡ Some g → g < generation + 1
older_live side old generation live g e =
    same_some _ generation g (live_commits side old generation live) e

pub commit_commits : (old new : Device) (side : Side) (generation count : ℕ)
    → IsLive old side generation → IsFilling old (other side) (generation + 1) count
    → IsGeneration (generation + 1)
    → IsStep (marking (first_page old.size (other side)) Active) old new
    → (set_of side new ≡ set_of side old)
    × (KeepsLiveSet old new side generation ⊎ IsCommitted old new (other side) (generation + 1))
commit_commits old new side generation count live filling proper taken =
    let below : generation + 1 < 4294967295 = omega (arith, proper.1) in
    let older = older_live side old generation live.live in (
      same_live old new side generation count older filling below taken,
      elim (outcomes old new side generation count older filling below taken) [
        | inl keeps ↦ inl (kept_side_is_live old new side generation live keeps)
        | inr committed ↦ inr committed
      ],
    )

pub whole_commit_commits : (old new : Device) (side : Side) (generation count : ℕ)
    → IsLive old side generation → IsFilling old (other side) (generation + 1) count
    → IsGeneration (generation + 1) → let step =
    marking (first_page old.size (other side)) Active in IsStep step old new
    → new ≡ device_after step old → IsCommitted old new (other side) (generation + 1)
whole_commit_commits old new side generation count live filling proper taken whole =
    let below : generation + 1 < 4294967295 = omega (arith, proper.1) in
    commits_whole old new side generation count (older_live side old generation live.live) filling
    below taken (ap (λ (device : Device). device.image) whole)
