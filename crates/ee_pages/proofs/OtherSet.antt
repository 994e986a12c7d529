-- What a step in the set that is not live leaves of the live one.
use Rattle.std.proofs.Common.{◌≡◌, ◌≢◌, ◌⊎◌, inl, inr, ℕ, ◌+◌, ◌<◌, Bool, true, false, cond, Option, Some, None, List, [], length, take, drop, get_or, nat_lt, set, refl, sym, ap, ◌∙◌, arith}
use Rattle.std.proofs.lemmas.Bool.{cases_eq}
use Rattle.std.proofs.lemmas.List.{drop-set-lt, get_or-drop, get_or-set_other, get_or-set_same, get_or-take, take-set-le}
use Rattle.ee_flash.specs.Device.{Device, IsFormed, page_at, word_at}
use Rattle.ee_flash.specs.Laws.{DiffersInPage, IsStep, page_of}
use Rattle.ee_flash.specs.Step.{Step, Program, Erase, MayLeave}
use Rattle.ee_flash.specs.declared.word.Word.{Word}
use Rattle.ee_flash.specs.declared.word.Word.TheVariants.{Erased, Held, Torn}
use Rattle.ee_flash.proofs.Public.{step_changes_one_page, step_keeps_formed, step_leaves_pages}
use Rattle.ee_codec.specs.Reading.{mark_of, receive_of}
use Rattle.ee_pages.specs.Laws.{CannotCommit, IsPageOf, KeepsLiveSet, KeepsSide}
use Rattle.ee_pages.specs.Legal.{IsLive, is_allowed_at}
use Rattle.ee_pages.specs.Meaning.{meaning}
use Rattle.ee_pages.specs.Page.{word_in}
use Rattle.ee_pages.specs.Sets.{committed_generation, fill_of, first_page, greater_set, is_mark, live_of, other, set_of, slots_of, word_of}
use Rattle.ee_pages.specs.declared.side.Side.{Side}
use Rattle.ee_pages.specs.declared.side.Side.TheVariants.{First, Second}

pub same_set : (side : Side) (old new : Device) (page : ℕ) → DiffersInPage page old new
    → IsPageOf old.size (other side) page → set_of side new ≡ set_of side old
same_set First old new page differs at =
    ap (λ size. take size.pages new.image) differs.same_size
    ∙ ap (take old.size.pages) differs.image
    ∙ take-set-le old.size.pages old.image page (page_at new page) at.from
same_set Second old new page differs at =
    ap (λ size. drop size.pages new.image) differs.same_size
    ∙ ap (drop old.size.pages) differs.image
    ∙ drop-set-lt old.size.pages old.image page (page_at new page) (omega (arith, at.below))

-- the words of a set's first page
pub first_word : (side : Side) (device : Device) (k : ℕ) → IsFormed device
    → word_of (set_of side device) 0 k ≡ word_at device (first_page device.size side) k
first_word First device k formed =
    ap (λ words. word_in words k)
    (get_or-take device.size.pages device.image 0 []
    (omega (arith, formed.within_limits.some_pages)))
first_word Second device k formed =
    let e : device.size.pages + 0 ≡ device.size.pages = omega arith in
    ap (λ words. word_in words k) (get_or-drop device.size.pages device.image 0 [])
    ∙ ap (λ n. word_at device n k) e

-- a word that lost what it said, or is as before
abbrev Weaker : Word → Word → Type 0
Weaker new old = (new ≡ old) ⊎ (new ≡ Erased) ⊎ (new ≡ Torn)

abbrev pub commits : Word → Word → Option ℕ
commits receive mark = cond (is_mark (mark_of mark)) (receive_of receive) None

either_way : (b : Bool) (same : Option ℕ) → cond b same same ≡ same
either_way true same = refl
either_way false same = refl

weaker : (w0 w1 v0 v1 : Word) → Weaker v0 w0 → Weaker v1 w1
    → (commits v0 v1 ≡ commits w0 w1) ⊎ (commits v0 v1 ≡ None)
weaker w0 w1 v0 v1 h (inr (inl e)) = inr (rw e refl)
weaker w0 w1 v0 v1 h (inr (inr e)) = inr (rw e refl)
weaker w0 w1 v0 v1 (inl d) (inl e) = inl (rw (d, e) refl)
weaker w0 w1 v0 v1 (inr (inl d)) (inl e) = inr (rw (d, e) (either_way (is_mark (mark_of w1)) None))
weaker w0 w1 v0 v1 (inr (inr d)) (inl e) = inr (rw (d, e) (either_way (is_mark (mark_of w1)) None))

other_word : (image : List (List Word)) (page at k : ℕ) (word : Word) → page < length image → k ≢ at
    → word_in (get_or (set image page (set (get_or image page []) at word)) page []) k
    ≡ word_in (get_or image page []) k
other_word image page at k word h other =
    ap (λ words. word_in words k)
    (get_or-set_same image page (set (get_or image page []) at word) [] h)
    ∙ get_or-set_other (get_or image page []) at k word Erased other

pub programmed_word : (old new : Device) (page at value k : ℕ) → page < length old.image → k ≢ at
    → MayLeave (Program page at value) old new → word_at new page k ≡ word_at old page k
programmed_word old new page at value k h other (inl same) =
    ap (λ image. word_in (get_or image page []) k) same
programmed_word old new page at value k h other (inr (inl held)) =
    ap (λ image. word_in (get_or image page []) k) held
    ∙ other_word old.image page at k (Held value) h other
programmed_word old new page at value k h other (inr (inr torn)) =
    ap (λ image. word_in (get_or image page []) k) torn
    ∙ other_word old.image page at k Torn h other

pub elsewhere : (old new : Device) (page first k : ℕ) → DiffersInPage page old new → first ≢ page
    → word_at new first k ≡ word_at old first k
elsewhere old new page first k differs other =
    ap (λ image. word_in (get_or image first []) k) differs.image
    ∙ ap (λ words. word_in words k)
    (get_or-set_other old.image page first (page_at new page) [] other)

-- what is left of the two words that commit a set
pub commit_after : (step : Step) (old new : Device) (first : ℕ) → IsStep step old new
    → CannotCommit first step old → let after : Option ℕ =
    commits (word_at new first 0) (word_at new first 1)
    in (after ≡ commits (word_at old first 0) (word_at old first 1))
    ⊎ (after ≡ None)
commit_after (Erase page) old new first taken may = elim (cases_eq first page) [
  | inr apart ↦
      let differs = step_changes_one_page (Erase page) old new taken in
      weaker _ _ _ _ (inl (elsewhere old new page first 0 differs apart))
      (inl (elsewhere old new page first 1 differs apart))
  | inl same ↦
      let left = (step_leaves_pages (Erase page) old new taken).0 in
      let receive : Weaker (word_at new first 0) (word_at old first 0) = rw same (left.each 0) in
      let mark : Weaker (word_at new first 1) (word_at old first 1) = rw same (left.each 1) in
      weaker _ _ _ _ receive mark
]
commit_after (Program page at value) old new first taken may =
    let differs = step_changes_one_page (Program page at value) old new taken in
    let left = step_leaves_pages (Program page at value) old new taken in
    let h : page < length old.image = omega (arith, taken.formed.image_length, taken.may.0) in
    elim (cases_eq first page) [
      | inr apart ↦ weaker _ _ _ _ (inl (elsewhere old new page first 0 differs apart))
          (inl (elsewhere old new page first 1 differs apart))
      | inl same ↦
          let not_one : 1 ≢ at = λ e. may.0 (sym same) (sym e) in
          let mark : word_at new first 1 ≡ word_at old first 1 =
          rw same (programmed_word old new page at value 1 h not_one left) in
          elim (cases_eq 0 at) [
            | inr not_zero ↦
                let receive : word_at new first 0 ≡ word_at old first 0 =
                rw same (programmed_word old new page at value 0 h not_zero left) in
                weaker _ _ _ _ (inl receive) (inl mark)
            | inl zero ↦ let gone : word_at new first 1 ≡ Erased =
                mark ∙ may.1 (sym same) (sym zero) in inr (rw gone refl)
          ]
    ]

abbrev pub side_in : Option (Side × ℕ) → Side
side_in None = First
side_in (Some live) = live.0

-- which of two is greater, by two tests
abbrev pub by_tests : Bool → Bool → ℕ → ℕ → Option (Side × ℕ)
by_tests below above first second =
    cond below (Some (First, first)) (cond above (Some (Second, second)) None)

first_by : (below above : Bool) (first second generation : ℕ)
    → by_tests below above first second ≡ Some (First, generation)
    → greater_set (Some first) None ≡ Some (First, generation)
first_by true above first second generation e = e
first_by false true first second generation e =
    let sides : Second ≡ First = ap side_in e in cc sides
first_by false false first second generation e = cc

second_by : (below above : Bool) (first second generation : ℕ)
    → by_tests below above first second ≡ Some (Second, generation)
    → greater_set None (Some second) ≡ Some (Second, generation)
second_by true above first second generation e =
    let sides : First ≡ Second = ap side_in e in cc sides
second_by false true first second generation e = e
second_by false false first second generation e = cc

pub greater_first : (first second : Option ℕ) (generation : ℕ)
    → greater_set first second ≡ Some (First, generation)
    → greater_set first None ≡ Some (First, generation)
greater_first None None generation e = e
greater_first None (Some second) generation e =
    let sides : Second ≡ First = ap side_in e in cc sides
greater_first (Some first) None generation e = e
greater_first (Some first) (Some second) generation e =
    first_by (nat_lt second first) (nat_lt first second) first second generation e

pub greater_second : (first second : Option ℕ) (generation : ℕ)
    → greater_set first second ≡ Some (Second, generation)
    → greater_set None second ≡ Some (Second, generation)
greater_second None None generation e = e
greater_second None (Some second) generation e = e
greater_second (Some first) None generation e =
    let sides : First ≡ Second = ap side_in e in cc sides
greater_second (Some first) (Some second) generation e =
    second_by (nat_lt second first) (nat_lt first second) first second generation e

pub live_stays : (side : Side) (old new : Device) (generation : ℕ)
    → set_of side new ≡ set_of side old
    → (committed_generation (set_of (other side) new)
    ≡ committed_generation (set_of (other side) old))
    ⊎ (committed_generation (set_of (other side) new) ≡ None)
    → live_of old ≡ Some (side, generation) → live_of new ≡ Some (side, generation)
live_stays First old new generation same (inl as_before) e = rw (same, as_before) e
live_stays First old new generation same (inr gone) e =
    rw (same, gone) (greater_first _ _ generation e)
live_stays Second old new generation same (inl as_before) e = rw (same, as_before) e
live_stays Second old new generation same (inr gone) e =
    rw (same, gone) (greater_second _ _ generation e)

pub commits_by : (side : Side) (device : Device) → IsFormed device
    → committed_generation (set_of side device)
    ≡ commits (word_at device (first_page device.size side) 0)
    (word_at device (first_page device.size side) 1)
commits_by side device formed =
    rw (first_word side device 0 formed, first_word side device 1 formed) refl

-- so the live set is live still, where the other one commits as it did, or not at all
pub keeps_live : (side : Side) (old new : Device) (generation : ℕ) → IsLive old side generation
    → IsFormed new → new.size ≡ old.size → set_of side new ≡ set_of side old
    → (committed_generation (set_of (other side) new)
    ≡ committed_generation (set_of (other side) old))
    ⊎ (committed_generation (set_of (other side) new) ≡ None)
    → KeepsLiveSet old new side generation
keeps_live side old new generation live formed sizes same after = record {
  live = record {
    formed = formed;
    live = live_stays side old new generation same after live.live;
    allowed =
        λ page place in_range within. ap
        (λ (pages : List (List Word)). is_allowed_at new.size generation pages page place) same
        ∙ ap (λ size. is_allowed_at size generation (set_of side old) page place) sizes
        ∙ live.allowed page place (omega (arith, ap (λ size. size.pages) sizes))
        (omega (arith, ap (λ size. size.words) sizes));
  };
  same_size = sizes;
  same_slots = ap slots_of same;
  same_fill = ap (λ (pages : List (List Word)). fill_of (slots_of pages)) same;
  same_map = λ address. ap (λ (pages : List (List Word)). meaning (slots_of pages) address) same;
}

pub other_set_keeps_side : (step : Step) (old new : Device) (side : Side) → IsStep step old new
    → IsPageOf old.size (other side) (page_of step)
    → CannotCommit (first_page old.size (other side)) step old → KeepsSide old new side
other_set_keeps_side step old new side taken at may =
    let differs = step_changes_one_page step old new taken in
    let formed = step_keeps_formed step old new taken in
    let same = same_set side old new (page_of step) differs at in
    let first : first_page new.size (other side) ≡ first_page old.size (other side) =
    ap (λ size. first_page size (other side)) differs.same_size in
    let new_commit : committed_generation (set_of (other side) new)
    ≡ commits (word_at new (first_page old.size (other side)) 0)
    (word_at new (first_page old.size (other side)) 1) =
    commits_by (other side) new formed
    ∙ ap (λ page. commits (word_at new page 0) (word_at new page 1)) first in
    let old_commit = commits_by (other side) old taken.formed in
    record {
      formed = formed;
      same_size = differs.same_size;
      same_set = same;
      same_slots = ap slots_of same;
      commits = elim (commit_after step old new (first_page old.size (other side)) taken may) [
        | inl as_before ↦ inl (new_commit ∙ as_before ∙ sym old_commit)
        | inr gone ↦ inr (new_commit ∙ gone)
      ];
    }

pub kept_side_is_live : (old new : Device) (side : Side) (generation : ℕ)
    → IsLive old side generation → KeepsSide old new side → KeepsLiveSet old new side generation
kept_side_is_live old new side generation live keeps =
    keeps_live side old new generation live keeps.formed keeps.same_size keeps.same_set
    keeps.commits

pub other_set_keeps_live : (step : Step) (old new : Device) (side : Side) (generation : ℕ)
    → IsLive old side generation → IsStep step old new
    → IsPageOf old.size (other side) (page_of step)
    → CannotCommit (first_page old.size (other side)) step old
    → KeepsLiveSet old new side generation × (set_of side new ≡ set_of side old)
other_set_keeps_live step old new side generation live taken at may =
    let keeps = other_set_keeps_side step old new side taken at may in
    (kept_side_is_live old new side generation live keeps, keeps.same_set)

either_twice : (x y z : Option ℕ) → (y ≡ x) ⊎ (y ≡ None) → (z ≡ y) ⊎ (z ≡ None)
    → (z ≡ x) ⊎ (z ≡ None)
either_twice x y z first (inr none) = inr none
either_twice x y z (inl same) (inl again) = inl (again ∙ same)
either_twice x y z (inr none) (inl again) = inr (again ∙ none)

pub keeps_side_both : (old mid new : Device) (side : Side) → KeepsSide old mid side
    → KeepsSide mid new side → KeepsSide old new side
keeps_side_both old mid new side first second = record {
  formed = second.formed;
  same_size = second.same_size ∙ first.same_size;
  same_set = second.same_set ∙ first.same_set;
  same_slots = second.same_slots ∙ first.same_slots;
  commits = either_twice _ _ _ first.commits second.commits;
}

pub keeps_side_same : (old : Device) (side : Side) → IsFormed old → KeepsSide old old side
keeps_side_same old side formed = record {
  formed = formed;
  same_size = refl;
  same_set = refl;
  same_slots = refl;
  commits = inl refl;
}
