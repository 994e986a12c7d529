-- Which set is rescued: the live one of a legal image, and one that is held.
use Rattle.std.proofs.Common.{◌≡◌, ℕ, ◌<◌, Bool, true, false, not, ◌&&◌, ◌||◌, cond, nat_lt, is_some, Option, Some, None, List, [], ◌∷◌, refl, sym, ap, ◌∙◌, arith}
use Rattle.std.specs.Prelude.{◌==◌}
use Rattle.std.proofs.lemmas.Bool.{eqb-true}
use Rattle.std.proofs.lemmas.Grind.{common_steps}
use Rattle.std.proofs.lemmas.List.Elements.{All-from_get_or}
use Rattle.std.proofs.lemmas.List.Folds.{list_any_none}
use Rattle.ee_flash.specs.Device.{Device}
use Rattle.ee_flash.specs.declared.word.Word.{Word}
use Rattle.ee_flash.specs.declared.word.Word.TheVariants.{Erased, Held, Torn}
use Rattle.ee_codec.specs.Reading.{mark_of, receive_of}
use Rattle.ee_pages.specs.Legal.{IsLive, is_allowed_at}
use Rattle.ee_pages.specs.Meaning.{meaning}
use Rattle.ee_pages.specs.Page.{is_torn, is_written, word_in}
use Rattle.ee_pages.specs.Laws.{KeepsSide}
use Rattle.ee_pages.specs.Rescue.{fails_to_commit, is_bad, has_begun, is_left_behind, map_of_side, named_generation, only, or_else, or_later, rescued_map, rescued_of, rescued_side}
use Rattle.ee_pages.specs.RescueLaws.{IsHeld}
use Rattle.ee_pages.specs.Sets.{committed_generation, greater_set, is_mark, live_of, set_of, slots_of, word_of}
use Rattle.ee_pages.specs.declared.side.Side.{Side}
use Rattle.ee_pages.specs.declared.side.Side.TheVariants.{First, Second}
use Rattle.ee_pages.proofs.Commits.{live_commits}
use Rattle.ee_pages.proofs.OtherSet.{by_tests, live_stays, side_in}
use Rattle.ee_pages.proofs.Slots.{length-set_of}

-- ---- a set that is committed

under : (b : Bool) (said : Option ℕ) (generation : ℕ) → cond b said None ≡ Some generation
    → (b ≡ true) × (said ≡ Some generation)
under true said generation e = (refl, e)
under false said generation e = absurd (cc e)

mark_is_written : (word : Word) → is_mark (mark_of word) ≡ true → is_written word ≡ true
mark_is_written Erased e = absurd (cc e)
mark_is_written Torn e = refl
mark_is_written (Held number) e = refl

pub unwritten_is_no_mark : (word : Word) → is_written word ≡ false → is_mark (mark_of word) ≡ false
unwritten_is_no_mark Erased e = refl
unwritten_is_no_mark Torn e = absurd (cc e)
unwritten_is_no_mark (Held number) e = absurd (cc e)

module _ (pages : List (List Word)) (generation : ℕ)
    (commits : committed_generation pages ≡ Some generation) where
  parts : (is_mark (mark_of (word_of pages 0 1)) ≡ true)
      × (receive_of (word_of pages 0 0) ≡ Some generation)
  parts =
      under (is_mark (mark_of (word_of pages 0 1))) (receive_of (word_of pages 0 0)) generation
      commits

  pub begun : has_begun pages ≡ true
  begun = mark_is_written (word_of pages 0 1) parts.0

first_names : (pages : List (List Word)) (generation : ℕ)
    → receive_of (word_of pages 0 0) ≡ Some generation → named_generation pages ≡ generation
first_names [] generation e = absurd (cc e)
first_names (words ∷ pages) generation e = ap (λ said. or_later said (named_generation pages)) e

pub names : (pages : List (List Word)) (generation : ℕ)
    → committed_generation pages ≡ Some generation → named_generation pages ≡ generation
names pages generation commits = first_names pages generation (parts pages generation commits).1

-- ---- the live set of a legal image

fits_both : (fit rest : Bool) → (fit && rest) ≡ true → fit ≡ true
fits_both true rest e = refl
fits_both false rest e = absurd (cc e)

not_true : (b : Bool) → not b ≡ true → b ≡ false
not_true true e = absurd (cc e)
not_true false e = refl

pub not_left : (device : Device) (side : Side) (generation : ℕ) → IsLive device side generation
    → is_left_behind (set_of side device) ≡ false
not_left device side generation live =
    list_any_none (λ words. is_mark (mark_of (word_in words 3))) (set_of side device)
    (All-from_get_or (λ words. is_mark (mark_of (word_in words 3)) ≡ false) (set_of side device) []
    (λ k h.
    let within : k < device.size.pages = omega (arith, length-set_of side device live.formed) in
    let allowed = live.allowed k 3 within (omega (arith, live.formed.within_limits.some_words)) in
    unwritten_is_no_mark (word_of (set_of side device) k 3)
    (not_true _ (fits_both (not (is_written (word_of (set_of side device) k 3))) _ allowed))))

-- where the first of two is left by no rule
tells_first : (b l : Bool) (c : Option ℕ) (n m : ℕ) → ((g : ℕ) → c ≡ Some g → nat_lt n m ≡ false)
    → or_else (only true b)
    (or_else (only (not false) (not l))
    (or_else (only true (is_some c)) (cond (nat_lt n m) Second First)))
    ≡ First
tells_first false l c n m h = refl
tells_first true true c n m h = refl
tells_first true false None n m h = refl
tells_first true false (Some g) n m h = rw (h g refl) refl

tells_second : (b l : Bool) (c : Option ℕ) (n m : ℕ) → ((g : ℕ) → c ≡ Some g → nat_lt n m ≡ true)
    → or_else (only b true)
    (or_else (only (not l) (not false))
    (or_else (only (is_some c) true) (cond (nat_lt n m) Second First)))
    ≡ Second
tells_second false l c n m h = refl
tells_second true true c n m h = refl
tells_second true false None n m h = refl
tells_second true false (Some g) n m h = rw (h g refl) refl

-- by the rules, as tests
abbrev pub by_rules : Bool → Bool → Bool → Bool → Bool → Bool → ℕ → ℕ → Option Side
by_rules b1 b2 l1 l2 c1 c2 n m =
    cond (not (b1 || b2)) None
    (Some
    (or_else (only b1 b2)
    (or_else (only (not l1) (not l2))
    (or_else (only c1 c2) (cond (nat_lt n m) Second First)))))

or_true : (b : Bool) → (b || true) ≡ true
or_true true = refl
or_true false = refl

first_rescued : (first second : List (List Word)) → has_begun first ≡ true
    → is_left_behind first ≡ false → is_some (committed_generation first) ≡ true
    → ((g : ℕ) → committed_generation second ≡ Some g
    → nat_lt (named_generation first) (named_generation second) ≡ false)
    → rescued_of first second ≡ Some First
first_rescued first second begun left committed less =
    let b2 = has_begun second in
    let l2 = is_left_behind second in
    let c2 = is_some (committed_generation second) in
    let n = named_generation first in
    let m = named_generation second in
    ap
    (λ (b : Bool).
    by_rules b b2 (is_left_behind first) l2 (is_some (committed_generation first)) c2 n m) begun
    ∙ ap (λ (l : Bool). by_rules true b2 l l2 (is_some (committed_generation first)) c2 n m) left
    ∙ ap (λ (c : Bool). by_rules true b2 false l2 c c2 n m) committed
    ∙ ap Some (tells_first b2 l2 (committed_generation second) n m less)

second_rescued : (first second : List (List Word)) → has_begun second ≡ true
    → is_left_behind second ≡ false → is_some (committed_generation second) ≡ true
    → ((g : ℕ) → committed_generation first ≡ Some g
    → nat_lt (named_generation first) (named_generation second) ≡ true)
    → rescued_of first second ≡ Some Second
second_rescued first second begun left committed less =
    let b1 = has_begun first in
    let l1 = is_left_behind first in
    let c1 = is_some (committed_generation first) in
    let n = named_generation first in
    let m = named_generation second in
    ap
    (λ (b : Bool).
    by_rules b1 b l1 (is_left_behind second) c1 (is_some (committed_generation second)) n m)
    begun
    ∙ ap (λ (l : Bool). by_rules b1 true l1 l c1 (is_some (committed_generation second)) n m) left
    ∙ ap (λ (c : Bool). by_rules b1 true l1 false c1 c n m) committed
    ∙ ap
    (λ (any : Bool). cond (not any) None
    (Some
    (or_else (only b1 true)
    (or_else (only (not l1) (not false))
    (or_else (only c1 true) (cond (nat_lt n m) Second First)))))) (or_true b1)
    ∙ ap Some (tells_second b1 l1 (committed_generation first) n m less)

-- of two that are committed the live one has the greater generation
first_less : (below above : Bool) (first second generation : ℕ)
    → by_tests below above first second ≡ Some (First, generation) → below ≡ true
first_less true above first second generation e = refl
first_less false true first second generation e =
    let sides : Second ≡ First = ap side_in e in absurd (cc sides)
first_less false false first second generation e = absurd (cc e)

second_less : (below above : Bool) (first second generation : ℕ)
    → by_tests below above first second ≡ Some (Second, generation) → above ≡ true
second_less true above first second generation e =
    let sides : First ≡ Second = ap side_in e in absurd (cc sides)
second_less false true first second generation e = refl
second_less false false first second generation e = absurd (cc e)

turned : (n m : ℕ) → nat_lt m n ≡ true → nat_lt n m ≡ false
turned n m e = grind (arith, common_steps)

some_is : (said : Option ℕ) (generation : ℕ) → said ≡ Some generation → is_some said ≡ true
some_is None generation e = absurd (cc e)
some_is (Some n) generation e = refl

pub held_is_rescued_side : (device : Device) (side : Side) (generation : ℕ)
    → live_of device ≡ Some (side, generation) → is_left_behind (set_of side device) ≡ false
    → rescued_side device ≡ Some side
held_is_rescued_side device First generation live left =
    let mine = live_commits First device generation live in
    let first = set_of First device in
    let second = set_of Second device in
    first_rescued first second (begun first generation mine) left (some_is _ generation mine) (λ g
    theirs.
    let tests : by_tests (nat_lt g generation) (nat_lt generation g) generation g
    ≡ Some (First, generation) =
    ap (λ said. greater_set said (Some g)) (sym mine)
    ∙ ap (greater_set (committed_generation first)) (sym theirs) ∙ live in
    ap (λ n. nat_lt n (named_generation second)) (names first generation mine)
    ∙ ap (nat_lt generation) (names second g theirs)
    ∙ turned generation g (first_less _ _ generation g generation tests))
held_is_rescued_side device Second generation live left =
    let mine = live_commits Second device generation live in
    let first = set_of First device in
    let second = set_of Second device in
    second_rescued first second (begun second generation mine) left (some_is _ generation mine) (λ g
    theirs.
    let tests : by_tests (nat_lt generation g) (nat_lt g generation) g generation
    ≡ Some (Second, generation) =
    ap (λ said. greater_set said (Some generation)) (sym theirs)
    ∙ ap (greater_set (committed_generation first)) (sym mine) ∙ live in
    ap (λ n. nat_lt n (named_generation second)) (names first g theirs)
    ∙ ap (nat_lt g) (names second generation mine)
    ∙ second_less _ _ g generation generation tests)

pub live_is_rescued_side : (device : Device) (side : Side) (generation : ℕ)
    → IsLive device side generation → rescued_side device ≡ Some side
live_is_rescued_side device side generation live =
    held_is_rescued_side device side generation live.live (not_left device side generation live)

pub live_is_held : (device : Device) (side : Side) (generation : ℕ) → IsLive device side generation
    → IsHeld device side generation
live_is_held device side generation live =
    record { live = live.live; not_left = not_left device side generation live }

-- where a set is rescued, its map is
pub map_rescued : (device : Device) (side : Side) → rescued_side device ≡ Some side → (address : ℕ)
    → rescued_map device address ≡ meaning (slots_of (set_of side device)) address
map_rescued device side is address =
    ap (λ (found : Option Side). map_of_side device found address) is

pub live_is_rescued : (device : Device) (side : Side) (generation : ℕ)
    → IsLive device side generation
    → (rescued_side device ≡ Some side) × (named_generation (set_of side device) ≡ generation)
    × ((address : ℕ) → rescued_map device address ≡ meaning (slots_of (set_of side device)) address)
live_is_rescued device side generation live =
    let is = live_is_rescued_side device side generation live in (
      is,
      names (set_of side device) generation (live_commits side device generation live.live),
      map_rescued device side is,
    )

-- ---- its bad words

none_fails : (first zeroth one receives marks : Bool)
    → (first ≡ true → zeroth ≡ true → receives ≡ true) → (first ≡ true → one ≡ true → marks ≡ true)
    → (first && ((zeroth && not receives) || (one && not marks))) ≡ false
none_fails false zeroth one receives marks e f = refl
none_fails true false false receives marks e f = refl
none_fails true false true receives marks e f = rw (f refl refl) refl
none_fails true true false receives marks e f = rw (e refl refl) refl
none_fails true true true receives marks e f = rw (e refl refl, f refl refl) refl

commits_in_place : (pages : List (List Word)) (generation page at : ℕ)
    → committed_generation pages ≡ Some generation
    → fails_to_commit page at (word_of pages page at) ≡ false
commits_in_place pages generation page at commits =
    let two = parts pages generation commits in
    none_fails (page == 0) (at == 0) (at == 1) (is_some (receive_of (word_of pages page at)))
    (is_mark (mark_of (word_of pages page at)))
    (λ first zeroth. ap (λ n. is_some (receive_of (word_of pages n at))) (eqb-true page 0 first)
    ∙ ap (λ n. is_some (receive_of (word_of pages 0 n))) (eqb-true at 0 zeroth)
    ∙ some_is _ generation two.1)
    (λ first one. ap (λ n. is_mark (mark_of (word_of pages n at))) (eqb-true page 0 first)
    ∙ ap (λ n. is_mark (mark_of (word_of pages 0 n))) (eqb-true at 1 one) ∙ two.0)

no_more : (torn allowed fails : Bool) → allowed ≡ true → fails ≡ false
    → (torn || not allowed || fails) ≡ torn
no_more true true false e f = refl
no_more false true false e f = refl
no_more torn false fails e f = absurd (cc e)
no_more torn true true e f = absurd (cc f)

pub legal_is_bad_where_torn : (device : Device) (side : Side) (generation page at : ℕ)
    → IsLive device side generation → page < device.size.pages → at < device.size.words
    → is_bad device.size (set_of side device) page at
    ≡ is_torn (word_of (set_of side device) page at)
legal_is_bad_where_torn device side generation page at live in_range within =
    let pages = set_of side device in
    let commits = live_commits side device generation live.live in
    no_more (is_torn (word_of pages page at))
    (is_allowed_at device.size (named_generation pages) pages page at)
    (fails_to_commit page at (word_of pages page at))
    (ap (λ n. is_allowed_at device.size n pages page at) (names pages generation commits)
    ∙ live.allowed page at in_range within)
    (commits_in_place pages generation page at commits)

-- ---- what keeps it

pub held_is_rescued : (old new : Device) (side : Side) (generation : ℕ) → IsHeld old side generation
    → KeepsSide old new side
    → (rescued_side old ≡ Some side) × IsHeld new side generation
    × ((address : ℕ) → rescued_map new address ≡ rescued_map old address)
held_is_rescued old new side generation held keeps =
    let is = held_is_rescued_side old side generation held.live held.not_left in
    let live = live_stays side old new generation keeps.same_set keeps.commits held.live in
    let left : is_left_behind (set_of side new) ≡ false =
    ap is_left_behind keeps.same_set ∙ held.not_left in
    let now = held_is_rescued_side new side generation live left in (
      is,
      record { live = live; not_left = left },
      λ address. map_rescued new side now address
          ∙ ap (λ (slots : List Word). meaning slots address) keeps.same_slots
          ∙ sym (map_rescued old side is address),
    )
