-- What is told of an image, a number, a slot or an address further.
use Rattle.std.proofs.Common.{nat_lt, inl, inr, ◌≡◌, ◌∙◌, ◌+◌, ◌<◌, ◌≤◌, ℕ, zero, suc, Bool, true, false, not, cond, None, List, [], ◌∷◌, ◌++◌, length, get_or, take, drop, refl, sym, ap, arith, rules}
use Rattle.std.proofs.lemmas.Bool.{cases_Bool, le-ltb}
use Rattle.std.proofs.Math.Bool.{or-false, or-true}
use Rattle.std.proofs.lemmas.Grind.{common_steps}
use Rattle.std.specs.Prelude.{◌||◌}
use Rattle.std.specs.List.{filter, list_any}
use Rattle.std.proofs.lemmas.List.{append-nil, get_or-drop, length-take-le, take-append-drop, take_more}
use Rattle.std.proofs.lemmas.List.Folds.{list_any-append}
use Rattle.ee_flash.specs.Device.{Device}
use Rattle.ee_flash.specs.Size.{slot_count}
use Rattle.ee_flash.specs.declared.word.Word.{Word}
use Rattle.ee_flash.specs.declared.word.Word.TheVariants.{Erased, Held, Torn}
use Rattle.ee_pages.specs.Layout.{IsLayout}
use Rattle.ee_pages.specs.Meaning.{Map, later_of, latest_in, live_in, live_to, meaning, value_said}
use Rattle.ee_pages.specs.Page.{is_torn, is_written}
use Rattle.ee_pages.specs.Sets.{fill_of, front, torn_of}
use Rattle.ee_pages.specs.declared.find.Layout.{Layout}
use Rattle.ee_pages.proofs.Public.{fill-front, later-none, length-slots, live_to-suc, live_to-zero, live_within_fill, slots_behind}
use Rattle.ee_image_store.specs.Told.{each_below}
use Rattle.ee_shell.specs.declared.part.inspecting.Telling.{Telling}
use Rattle.ee_shell.specs.Part.Inspecting.{AreSpoken, all_doubts, doubt_told, is_before, live_slots, speaks_of, up_to_last}

-- four parts of a text, one behind another
pub four_parts : (old a b given c d first second third fourth : List ℕ) → first ≡ old ++ a
    → second ≡ first ++ given → given ≡ b → third ≡ second ++ c → fourth ≡ third ++ d
    → fourth ≡ old ++ (((a ++ b) ++ c) ++ d)
four_parts old a b given c d first second third fourth one two same three four =
    grind (arith, common_steps)

-- ---- what is told of each number

pub told_alike : (n : ℕ) (text other : ℕ → List ℕ) → ((k : ℕ) → k < n → text k ≡ other k)
    → each_below n text ≡ each_below n other
unfolding each_below
told_alike zero text other same = refl
told_alike (suc n) text other same =
    search (rules, (told_alike n text other (λ k h. same k (omega arith))))

-- nothing is told where no number has a text
nothing_told : (n : ℕ) (text : ℕ → List ℕ) → ((k : ℕ) → text k ≡ []) → each_below n text ≡ []
unfolding each_below
nothing_told zero text none = refl
nothing_told (suc n) text none = rw (nothing_told n text none) (none n)

not_doubted : (telling : Telling) (spoken address : ℕ)
    → doubt_told telling (is_before spoken 0) address ≡ []
not_doubted telling spoken address =
    let none : nat_lt spoken 0 ≡ false = le-ltb spoken 0 (omega arith) in
    elim (cases_Bool (nat_lt 0 spoken)) [
      | inl some ↦ rw (some, none) refl
      | inr before ↦ rw before refl
    ]

-- no address is in doubt where no slot is torn
pub none_doubted : (telling : Telling) (spoken : List ℕ) (torn : ℕ) (old : List ℕ) → torn ≡ 0
    → old
    ≡ old
    ++ each_below (length spoken)
    (λ address. doubt_told telling (is_before (get_or spoken address 0) torn) address)
none_doubted telling spoken torn old is =
    rw is
    (rw (nothing_told (length spoken)
    (λ address. doubt_told telling (is_before (get_or spoken address 0) 0) address)
    (λ address. not_doubted telling (get_or spoken address 0) address)) (sym (append-nil old)))

-- ---- the last slot of a kind

pub no_last : (such : Word → Bool) (slots : List Word) → list_any such slots ≡ false
    → up_to_last such slots ≡ 0
no_last such [] none = refl
no_last such (first ∷ slots) none = rw none refl

pub some_last : (such : Word → Bool) (slots : List Word) → list_any such slots ≡ true
    → 0 < up_to_last such slots
some_last such [] some = absurd (cc some)
some_last such (first ∷ slots) some = rw some (omega arith)

-- slots behind others, of which one is of the kind, or none
pub last_behind : (such : Word → Bool) (slots more : List Word) → list_any such more ≡ true
    → up_to_last such (slots ++ more) ≡ length slots + up_to_last such more
last_behind such [] more some = omega arith
last_behind such (first ∷ slots) more some =
    search (rules, list_any-append, or-true, (last_behind such slots more some))

pub last_before : (such : Word → Bool) (slots more : List Word) → list_any such more ≡ false
    → up_to_last such (slots ++ more) ≡ up_to_last such slots
last_before such [] more none = no_last such more none
last_before such (first ∷ slots) more none =
    search (rules, list_any-append, or-false, (last_before such slots more none))

push_there : (such : Word → Bool) (slots : List Word) (slot : Word) → such slot ≡ true
    → up_to_last such (slots ++ slot ∷ []) ≡ length slots + 1
push_there such slots slot is = search (rules, last_behind)

push_same : (such : Word → Bool) (slots : List Word) (slot : Word) → such slot ≡ false
    → up_to_last such (slots ++ slot ∷ []) ≡ up_to_last such slots
push_same such slots slot is = last_before such slots (slot ∷ []) (ap (λ b. b || false) is)

-- one slot more, of the kind or not
module _ (such : Word → Bool) (slots : List Word) (n : ℕ) (slot : Word) (within : n < length slots)
    (here : slot ≡ get_or slots n Erased) where
  grown : take (n + 1) slots ≡ take n slots ++ slot ∷ []
  grown = take_more slots n Erased within ∙ ap (λ w. take n slots ++ w ∷ []) (sym here)

  pub last_there : such slot ≡ true → n + 1 ≡ up_to_last such (take (n + 1) slots)
  last_there is = search (rules, grown, length-take-le, push_there)

  pub last_same : (last : ℕ) → such slot ≡ false → last ≡ up_to_last such (take n slots)
      → last ≡ up_to_last such (take (n + 1) slots)
  last_same last is so_far =
      so_far ∙ sym (ap (up_to_last such) grown ∙ push_same such (take n slots) slot is)

-- one slot more, of the kind or not
last_more : (such : Word → Bool) (slots : List Word) (n : ℕ) (slot : Word) (is : Bool) (last : ℕ)
    → n < length slots → slot ≡ get_or slots n Erased → such slot ≡ is
    → last ≡ up_to_last such (take n slots)
    → cond is (n + 1) last ≡ up_to_last such (take (n + 1) slots)
last_more such slots n slot true last within here of_kind so_far =
    last_there such slots n slot within here of_kind
last_more such slots n slot false last within here of_kind so_far =
    last_same such slots n slot within here last of_kind so_far

pub fill_within : (slots : List Word) → fill_of slots ≤ length slots
fill_within [] = omega arith
fill_within (Erased ∷ slots) = let rest = fill_within slots in omega (arith, rest)
fill_within (Held number ∷ slots) = let rest = fill_within slots in omega (arith, rest)
fill_within (Torn ∷ slots) = let rest = fill_within slots in omega (arith, rest)

-- no slot is of a kind that erased ones are not of, where all are erased
none_behind : (such : Word → Bool) (slots : List Word) → such Erased ≡ false
    → ((k : ℕ) → is_written (get_or slots k Erased) ≡ false) → list_any such slots ≡ false
none_behind such [] not_erased each = refl
none_behind such (Erased ∷ slots) not_erased each =
    rw not_erased (none_behind such slots not_erased (λ k. each (suc k)))
none_behind such (Held number ∷ slots) not_erased each = absurd (cc (each 0))
none_behind such (Torn ∷ slots) not_erased each = absurd (cc (each 0))

module _ (device : Device) (layout : Layout) (found : IsLayout device layout) where
  fill_is_front : layout.fill ≡ front (live_slots device layout)
  fill_is_front =
      found.fill
      ∙ sym (fill-front layout.side device layout.generation found.live.formed found.live.allowed)

  pub slot_in_range : (slot : ℕ) → slot < layout.fill → slot < slot_count device.size
  slot_in_range slot below =
      let few = fill_within (live_slots device layout) in
      omega (arith, found.fill, few, length-slots layout.side device found.live.formed)

  -- the last slot of such a kind, where all that are used were seen
  pub last_in_fill : (such : Word → Bool) (seen : ℕ) → such Erased ≡ false → seen ≡ layout.fill
      → up_to_last such (take seen (live_slots device layout))
      ≡ up_to_last such (live_slots device layout)
  last_in_fill such seen not_erased all =
      let slots = live_slots device layout in
      let none = none_behind such (drop seen slots) not_erased (λ k.
      ap is_written (get_or-drop seen slots k Erased)
      ∙ slots_behind layout.side device layout.generation found.live.formed found.live.allowed
      (seen + k)
      (omega (arith, all, fill_is_front))) in
      sym (last_before such (take seen slots) (drop seen slots) none)
      ∙ ap (up_to_last such) (take-append-drop seen slots)

-- ---- the last slot that speaks of each address

-- one slot more
pub spoken_more : (slots : List Word) (n : ℕ) (slot : Word) (old new : List ℕ) → n < length slots
    → slot ≡ get_or slots n Erased → length new ≡ 65535
    → ((address : ℕ) → address < 65535
    → get_or new address 0 ≡ cond (speaks_of address slot) (n + 1) (get_or old address 0))
    → AreSpoken (take n slots) old → AreSpoken (take (n + 1) slots) new
spoken_more slots n slot old new within here long noted so_far = record {
  long = long;
  each = λ address below.
      noted address below
      ∙ last_more (speaks_of address) slots n slot (speaks_of address slot) (get_or old address 0)
      within here refl
      (so_far.each address below);
}

-- the addresses in doubt are told by the table
pub told_doubts : (telling : Telling) (slots : List Word) (spoken : List ℕ) (torn : ℕ)
    → torn ≡ up_to_last is_torn slots → AreSpoken slots spoken
    → each_below (length spoken)
    (λ address. doubt_told telling (is_before (get_or spoken address 0) torn) address)
    ≡ all_doubts telling slots
told_doubts telling slots spoken torn last table = search (rules, told_alike)

-- ---- the used slots are those that give an address its value, those that are torn, and others

abbrev whole : List Word → List Word
whole slots = filter (λ word. not (is_torn word)) slots

whole_says : (slots : List Word) (address : ℕ)
    → latest_in (whole slots) address ≡ latest_in slots address
whole_says [] address = refl
whole_says (Erased ∷ slots) address = ap (λ said. later_of None said) (whole_says slots address)
whole_says (Held number ∷ slots) address = rw (whole_says slots address) refl
whole_says (Torn ∷ slots) address =
    whole_says slots address ∙ sym (later-none (latest_in slots address))

whole_count : (slots : List Word) → fill_of (whole slots) + torn_of slots ≡ fill_of slots
whole_count [] = refl
whole_count (Erased ∷ slots) = whole_count slots
whole_count (Held number ∷ slots) = let rest = whole_count slots in omega (arith, rest)
whole_count (Torn ∷ slots) = let rest = whole_count slots in omega (arith, rest)

pub live_alike : (map other : Map) (n : ℕ) → ((address : ℕ) → map address ≡ other address)
    → live_to map n ≡ live_to other n
live_alike map other zero same = live_to-zero map ∙ sym (live_to-zero other)
live_alike map other (suc n) same = search (rules, live_to-suc, (live_alike map other n same))

pub live_and_torn : (slots : List Word) → live_in (meaning slots) + torn_of slots ≤ fill_of slots
live_and_torn slots =
    let alike =
    live_alike (meaning (whole slots)) (meaning slots) 65534
    (λ address. ap value_said (whole_says slots address)) in
    let few = live_within_fill (whole slots) in
    let count = whole_count slots in
    omega (arith, alike, few, count)

-- in numbers that a scan and the readers of slots give
pub parts_fit : (slots : List Word) (fill live torn : ℕ) → fill ≡ fill_of slots
    → live ≡ live_in (meaning slots) → torn ≡ torn_of slots → live + torn ≤ fill
parts_fit slots fill live torn used valued spoiled =
    rw (used, valued, spoiled) (live_and_torn slots)

pub room_fits : (slots : List Word) (fill count : ℕ) → fill ≡ fill_of slots → length slots ≡ count
    → fill ≤ count
room_fits slots fill count used long = let few = fill_within slots in omega (arith, used, long, few)
