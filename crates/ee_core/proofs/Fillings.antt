-- What the parts of a transfer leave in the set that it fills, one after another.
use Rattle.ee_core.proofs.Words.{rules, ◌≡◌, inl, inr, ℕ, ◌+◌, ◌<◌, ◌≤◌, Bool, true, false, cond, Some, None, List, [], ◌∷◌, ◌++◌, length, get_or, take, drop, refl, sym, subst, ap, ◌∙◌, arith, suc, length-append, ◌==◌, ◌||◌, fun_ext, cases_Bool, length-take-le, take-append-drop, take_all, take_more}
use Rattle.ee_core.proofs.Sets.{element, Device, slot_count, Word, Held, Change, Forget, Map, Put, changed_by, map_after, live_in, IsNextLive, other, Layout, keeps_side_both, keeps_side_same}
use Rattle.ee_core.proofs.Calls.{map_in, replaced_map, elements_of, elements_to, map_without, moved_words, put_words, AreApart, changes_of_puts, forgets_of, names, puts_of, Place}
use Rattle.ee_core.specs.Transfers.{Filled, FilledPartly, IsNewlyOpened, IsOpenAt}
use Rattle.ee_core.specs.declared.change.Put as listed
use Rattle.ee_core.proofs.CopiedMaps.{at_first, at_last, changed_by-append, changed_by-other, copied_to, nothing, passed, so_far, then_all}
use Rattle.ee_core.proofs.CopiedWords.{all_words, copied_word, no_words, others, passed_word}
use Rattle.ee_core.proofs.CutMoves.{adds_then, elements_front, partly_longer}
use Rattle.ee_core.proofs.FilledSets.{adds_both, adds_none}
use Rattle.ee_core.proofs.FilledSteps.{adds_steps_both, adds_steps_none, adds_steps_then, stops_longer}
use Rattle.ee_core.proofs.MovingFacts.{side_map}
use Rattle.ee_core.proofs.Outside.{meaning-zero}
use Rattle.ee_core.proofs.ShownStates.{moved_words_are_live_lem}

-- some words, and then more
pub both_filled : (old mid new : Device) (layout : Layout) (count slot written : ℕ)
    (words more : List Word) (held map : Map)
    → Filled old mid layout count words held slot → Filled mid new layout slot more map written
    → Filled old new layout count (words ++ more) map written
both_filled old mid new layout count slot _ words more _ _ first second = record {
  keeps = keeps_side_both _ _ _ _ first.keeps second.keeps;
  filling = second.filling;
  map_is = second.map_is;
  adds = search (rules, adds_both);
  as_many = omega (arith, length-append words more);
  wear = second.wear ∙ first.wear;
  steps =
      adds_steps_both old mid new layout.side (layout.generation + 1) count slot words more
      first.keeps.same_size first.as_many first.adds first.steps second.steps;
}

-- or more in part
pub then_partly : (old mid new : Device) (layout : Layout) (count slot : ℕ) (words more : List Word)
    (held : Map)
    → Filled old mid layout count words held slot → FilledPartly mid new layout slot more
    → FilledPartly old new layout count (words ++ more)
then_partly _ mid new layout _ _ _ more _ first second =
    search (rules, keeps_side_both, adds_then, adds_steps_then)

-- some words in part are more words in part
partly_filled : (old new : Device) (layout : Layout) (count : ℕ) (words rest : List Word)
    → FilledPartly old new layout count words → FilledPartly old new layout count (words ++ rest)
partly_filled _ _ _ _ _ rest partly = search (partly_longer, stops_longer)

-- the live addresses are copied behind what stands there, but for those that changes name
module _ (old : Device) (layout : Layout) (place : Place) (changes : List Change) where
  abbrev start : Map
  start = map_in (other layout.side) old

  abbrev map : Map
  map = map_in layout.side old

  -- up to this address
  abbrev pub FilledTo : ℕ → Device → ℕ → Type 0
  FilledTo above now slot =
      Filled old now layout place.slot (elements_to (others map changes) above)
      (so_far start map (names changes) above) slot

  pub none_filled : IsOpenAt old layout place
      → ((address : ℕ) → names changes address ≡ false → start address ≡ None)
      → FilledTo 0 old place.slot
  none_filled at only = record {
    keeps = keeps_side_same _ _ at.filling.formed;
    filling = at.filling;
    map_is = search (at_first, meaning-zero);
    adds = search (no_words, adds_none);
    as_many = omega (arith, ap length (no_words map changes));
    wear = refl;
    steps = search (no_words, adds_steps_none);
  }

  pub all_filled : (above : ℕ) (now : Device) (slot : ℕ) → FilledTo above now slot → above < 65535
      → IsNextLive map above None
      → Filled old now layout place.slot (elements_of (others map changes))
      (replaced_map start (names changes) map) slot
  all_filled above now slot filled below none = search (rules, all_words, at_last)

  module _ (above next value : ℕ) (mid new : Device) (slot : ℕ)
      (is : IsNextLive map above (Some (next, value))) (filled : FilledTo above mid slot) where
    abbrev word : List Word
    word = Held (element next value) ∷ []

    -- the next one, unless it is one that is not copied
    pub next_filled : (more : ℕ) → (names changes next ≡ true → (more ≡ slot) × (new ≡ mid))
        → (names changes next ≡ false
        → Filled mid new layout slot word
        (map_after (Put next value) (map_in (other layout.side) mid)) more)
        → FilledTo next new more
    next_filled more passing copying = elim (cases_Bool _) [
      | inl here ↦
          let words =
          subst
          (λ words. Filled old mid layout place.slot words
          (so_far start map (names changes) above) slot)
          (sym (passed_word _ _ _ _ _ is here)) filled in
          subst (λ n. FilledTo next new n) (sym (passing here).0)
          (subst (λ device. FilledTo next device slot) (sym (passing here).1)
          (subst
          (λ said. Filled old mid layout place.slot
          (elements_to (others map changes) next) said slot)
          (fun_ext (passed start _ _ _ _ _ is here)) words))
      | inr apart ↦
          let further =
          both_filled old mid new layout place.slot slot more
          (elements_to (others map changes) above) word
          (so_far start map (names changes) above)
          (map_after (Put next value) (map_in (other layout.side) mid)) filled
          (copying apart) in
          let words =
          subst
          (λ words. Filled old new layout place.slot words
          (map_after (Put next value) (map_in (other layout.side) mid)) more)
          (sym (copied_word _ _ _ _ _ is apart)) further in
          subst
          (λ said. Filled old new layout place.slot (elements_to (others map changes) next) said
          more) (fun_ext (copied_to start _ _ _ _ _ _ filled.map_is is apart)) words
    ]

    module _ (apart : names changes next ≡ false) (proper : next < 65535) where
      -- it is one of all words
      front : (rest : List Word)
          × (elements_of (others map changes)
          ≡ elements_to (others map changes) above ++ word ++ rest)
      front =
          let found = elements_front _ _ _ (omega arith) in
          (found.0, found.1 ∙ ap (λ words. words ++ found.0) (copied_word _ _ _ _ _ is apart))

      pub next_partly : FilledPartly mid new layout slot word
          → FilledPartly old new layout place.slot (elements_of (others map changes))
      next_partly copying =
          subst (λ words. FilledPartly old new layout place.slot words) (sym front.1)
          (partly_filled old new layout place.slot (elements_to (others map changes) above ++ word)
          front.0
          (then_partly old mid new layout place.slot slot (elements_to (others map changes) above)
          word (so_far start map (names changes) above) filled copying))

      -- so there is room for it
      pub room : (capacity : ℕ) → place.slot + length (elements_of (others map changes)) ≤ capacity
          → slot < capacity
      room _ fits =
          omega (
            arith,
            ap length front.1,
            length-append (elements_to (others map changes) above ++ word) front.0,
            length-append (elements_to (others map changes) above) word,
          )

-- ---- the values that are put come first

puts-append : (puts more : List listed.Put) → puts_of (puts ++ more) ≡ puts_of puts ++ puts_of more
puts-append [] _ = refl
puts-append (put ∷ puts) more =
    ap (λ changes. Put put.address put.value ∷ changes) (puts-append puts more)

words-append : (changes more : List Change)
    → put_words (changes ++ more) ≡ put_words changes ++ put_words more
words-append [] _ = refl
words-append (Put address value ∷ changes) more =
    ap (λ words. Held (element address value) ∷ words) (words-append changes more)
words-append (Forget _ ∷ changes) more = words-append changes more

pub length-put_words : (puts : List listed.Put) → length (put_words (puts_of puts)) ≡ length puts
length-put_words [] = refl
length-put_words (put ∷ puts) = ap suc (length-put_words puts)

-- after the first values
abbrev pub words_to : List listed.Put → ℕ → List Word
words_to puts count = put_words (puts_of (take count puts))

abbrev pub map_of_first : List listed.Put → ℕ → Map
map_of_first puts count = changed_by (puts_of (take count puts)) nothing

module _ (puts : List listed.Put) (count : ℕ) (put : listed.Put) (within : count < length puts)
    (is : put ≡ get_or puts count put) where
  one_put_more : take (count + 1) puts ≡ take count puts ++ (put ∷ [])
  one_put_more = search (rules, take_more)

  pub words_more : words_to puts (count + 1)
      ≡ words_to puts count ++ (Held (element put.address put.value) ∷ [])
  words_more = search (one_put_more, puts-append, words-append)

  map_more_on : (map : Map)
      → changed_by (puts_of (take (count + 1) puts)) map
      ≡ map_after (Put put.address put.value) (changed_by (puts_of (take count puts)) map)
  map_more_on _ = search (one_put_more, puts-append, changed_by-append)

  pub map_more : map_of_first puts (count + 1)
      ≡ map_after (Put put.address put.value) (map_of_first puts count)
  map_more = map_more_on nothing

pub map_with_more : (map : Map) (puts : List listed.Put) (count : ℕ) (put : listed.Put)
    (within : count < length puts) (is : put ≡ get_or puts count put)
    → changed_by (puts_of (take (count + 1) puts)) map
    ≡ map_after (Put put.address put.value) (changed_by (puts_of (take count puts)) map)
map_with_more map puts count put within is = map_more_on puts count put within is map

words_rest : (puts : List listed.Put) (count : ℕ)
    → put_words (puts_of puts) ≡ words_to puts count ++ put_words (puts_of (drop count puts))
words_rest puts count =
    ap (λ all. put_words (puts_of all)) (sym (take-append-drop count puts))
    ∙ ap put_words (puts-append (take count puts) (drop count puts))
    ∙ words-append (puts_of (take count puts)) (puts_of (drop count puts))

module _ (old : Device) (layout : Layout) (puts : List listed.Put) where
  -- so many of them stand in the set
  abbrev pub FilledBy : ℕ → Device → ℕ → Type 0
  FilledBy count now slot =
      Filled old now layout 0 (words_to puts count) (map_of_first puts count) slot

  pub none_put : IsNewlyOpened old layout → FilledBy 0 old 0
  none_put opened = search (keeps_side_same, adds_none, adds_steps_none)

  module _ (count : ℕ) (put : listed.Put) (mid new : Device) (slot : ℕ)
      (within : count < length puts) (is : put ≡ get_or puts count put)
      (filled : FilledBy count mid slot) where
    abbrev put_word : List Word
    put_word = Held (element put.address put.value) ∷ []

    pub one_put : (more : ℕ)
        → Filled mid new layout slot put_word
        (map_after (Put put.address put.value) (map_in (other layout.side) mid)) more
        → FilledBy (count + 1) new more
    one_put more staged =
        let here =
        subst
        (λ said. Filled mid new layout slot put_word
        (map_after (Put put.address put.value) said) more) (fun_ext filled.map_is)
        staged in
        subst (λ words. Filled old new layout 0 words (map_of_first puts (count + 1)) more)
        (sym (words_more puts count put within is))
        (subst (λ said. Filled old new layout 0 (words_to puts count ++ put_word) said more)
        (sym (map_more puts count put within is))
        (both_filled old mid new layout 0 slot more (words_to puts count) put_word
        (map_of_first puts count)
        (map_after (Put put.address put.value) (map_of_first puts count)) filled here))

    pub one_put_partly : FilledPartly mid new layout slot put_word
        → FilledPartly old new layout 0 (put_words (puts_of puts))
    one_put_partly partly =
        subst (λ words. FilledPartly old new layout 0 words) (sym (words_rest puts (count + 1)))
        (partly_filled old new layout 0 (words_to puts (count + 1))
        (put_words (puts_of (drop (count + 1) puts)))
        (subst (λ words. FilledPartly old new layout 0 words)
        (sym (words_more puts count put within is))
        (then_partly old mid new layout 0 slot (words_to puts count) put_word
        (map_of_first puts count) filled partly)))

    -- so there is room for it
    pub put_room : (capacity : ℕ) → length puts ≤ capacity → slot < capacity
    put_room _ fits =
        omega (arith, length-put_words (take count puts), length-take-le count puts (omega arith))

  pub all_put : (count : ℕ) (now : Device) (slot : ℕ) → length puts ≤ count
      → FilledBy count now slot
      → Filled old now layout 0 (put_words (puts_of puts)) (changed_by (puts_of puts) nothing) slot
  all_put count now slot past filled =
      subst
      (λ first. Filled old now layout 0 (put_words (puts_of first))
      (changed_by (puts_of first) nothing) slot) (take_all count puts past) filled

-- ---- what a transfer carries: values, or the forgettings of their addresses, which have no words

forgets_words : (puts : List listed.Put) → put_words (forgets_of puts) ≡ []
forgets_words [] = refl
forgets_words (put ∷ puts) = forgets_words puts

forgets_nothing : (named : ℕ) → map_after (Forget named) nothing ≡ nothing
forgets_nothing named = search rules

forgets_map : (puts : List listed.Put) → changed_by (forgets_of puts) nothing ≡ nothing
forgets_map [] = refl
forgets_map (put ∷ puts) =
    ap (changed_by (forgets_of puts)) (forgets_nothing put.address) ∙ forgets_map puts

forgets_without : (puts : List listed.Put) (map : Map)
    → map_without (forgets_of puts) map ≡ map_without (puts_of puts) map
forgets_without [] _ = refl
forgets_without (put ∷ puts) said = forgets_without puts (map_after (Forget put.address) said)

forgets_names : (puts : List listed.Put) (address : ℕ)
    → names (forgets_of puts) address ≡ names (puts_of puts) address
forgets_names [] _ = refl
forgets_names (put ∷ puts) address =
    ap (λ later. (put.address == address) || later) (forgets_names puts address)

-- either way the same addresses are not copied
pub carried_without : (puts : List listed.Put) (forgets : Bool) (map : Map)
    → map_without (changes_of_puts puts forgets) map ≡ map_without (puts_of puts) map
carried_without puts true said = forgets_without puts said
carried_without _ false _ = refl

pub carried_names : (puts : List listed.Put) (forgets : Bool) (address : ℕ)
    → names (changes_of_puts puts forgets) address ≡ names (puts_of puts) address
carried_names puts true address = forgets_names puts address
carried_names _ false _ = refl

module _ (old new : Device) (layout : Layout) (puts : List listed.Put) where
  pub carried_first : (forgets : Bool) (values : List listed.Put) (slot : ℕ)
      → values ≡ cond forgets [] puts
      → Filled old new layout 0 (put_words (puts_of values)) (changed_by (puts_of values) nothing)
      slot
      → Filled old new layout 0 (put_words (changes_of_puts puts forgets))
      (changed_by (changes_of_puts puts forgets) nothing) slot
  carried_first true _ slot is filled =
      subst (λ words. Filled old new layout 0 words (changed_by (forgets_of puts) nothing) slot)
      (sym (forgets_words puts))
      (subst (λ said. Filled old new layout 0 [] said slot) (sym (forgets_map puts))
      (subst
      (λ found. Filled old new layout 0 (put_words (puts_of found))
      (changed_by (puts_of found) nothing) slot) is filled))
  carried_first false _ slot is filled =
      subst
      (λ found. Filled old new layout 0 (put_words (puts_of found))
      (changed_by (puts_of found) nothing) slot) is filled

  pub carried_partly : (forgets : Bool) (values : List listed.Put) → values ≡ cond forgets [] puts
      → FilledPartly old new layout 0 (put_words (puts_of values))
      → FilledPartly old new layout 0 (put_words (changes_of_puts puts forgets))
  carried_partly true _ is partly =
      subst (λ words. FilledPartly old new layout 0 words) (sym (forgets_words puts))
      (subst (λ found. FilledPartly old new layout 0 (put_words (puts_of found))) is partly)
  carried_partly false _ is partly =
      subst (λ found. FilledPartly old new layout 0 (put_words (puts_of found))) is partly

  -- and so the others are those that the list leaves
  pub others_carried : (forgets : Bool) (slot written : ℕ) (start map : Map)
      → Filled old new layout slot (elements_of (map_without (puts_of puts) map))
      (replaced_map start (names (puts_of puts)) map) written
      → Filled old new layout slot (elements_of (map_without (changes_of_puts puts forgets) map))
      (replaced_map start (names (changes_of_puts puts forgets)) map) written
  others_carried _ _ _ _ map filled = search (rules, fun_ext, carried_names, carried_without)

  pub others_carried_partly : (forgets : Bool) (slot : ℕ) (map : Map)
      → FilledPartly old new layout slot (elements_of (map_without (puts_of puts) map))
      → FilledPartly old new layout slot
      (elements_of (map_without (changes_of_puts puts forgets) map))
  others_carried_partly forgets slot map partly = search carried_without

-- the changes come first, and then the other addresses
module _ (changes : List Change) (old mid new : Device) (layout : Layout) (slot : ℕ)
    (first : Filled old mid layout 0 (put_words changes) (changed_by changes nothing) slot) where
  abbrev before : Map
  before = map_in layout.side old

  abbrev now : Map
  now = map_in layout.side mid

  abbrev started : Map
  started = map_in (other layout.side) mid

  words_are : put_words changes ++ elements_of (others now changes) ≡ moved_words changes before
  words_are = ap (moved_words changes) (fun_ext (side_map _ _ _ first.keeps))

  map_is : (address : ℕ)
      → replaced_map started (names changes) now address ≡ changed_by changes before address
  map_is address =
      then_all _ now changes first.map_is address
      ∙ ap (λ map. changed_by changes map address) (fun_ext (side_map _ _ _ first.keeps))

  -- the set has nothing else yet
  pub only_these : (address : ℕ) → names changes address ≡ false → started address ≡ None
  only_these address other = first.map_is address ∙ changed_by-other changes nothing address other

  pub others_fit : AreApart changes → live_in (changed_by changes before) ≤ slot_count old.size
      → slot + length (elements_of (others now changes)) ≤ slot_count mid.size
  others_fit apart fits =
      omega (
        arith,
        ap length words_are,
        length-append (put_words changes) (elements_of (others now changes)),
        moved_words_are_live_lem changes before apart,
        ap slot_count first.keeps.same_size,
      )

  pub others_filled : (written : ℕ)
      → Filled mid new layout slot (elements_of (others now changes))
      (replaced_map started (names changes) now) written
      → Filled old new layout 0 (moved_words changes before) (changed_by changes before) written
  others_filled written second =
      subst (λ words. Filled old new layout 0 words (changed_by changes before) written) words_are
      (subst
      (λ map. Filled old new layout 0 (put_words changes ++ elements_of (others now changes)) map
      written) (fun_ext map_is)
      (both_filled old mid new layout 0 slot written (put_words changes)
      (elements_of (others now changes)) (changed_by changes nothing)
      (replaced_map started (names changes) now) first second))

  pub others_partly : FilledPartly mid new layout slot (elements_of (others now changes))
      → FilledPartly old new layout 0 (moved_words changes before)
  others_partly second =
      subst (λ words. FilledPartly old new layout 0 words) words_are
      (then_partly old mid new layout 0 slot (put_words changes) (elements_of (others now changes))
      (changed_by changes nothing) first second)

pub first_partly : (changes : List Change) (old new : Device) (layout : Layout) (map : Map)
    → FilledPartly old new layout 0 (put_words changes)
    → FilledPartly old new layout 0 (moved_words changes map)
first_partly changes old new layout map partly = search partly_filled

-- the values that are put find room
pub puts_fit : (puts : List listed.Put) (forgets : Bool) (values : List listed.Put) (map : Map)
    (capacity : ℕ)
    → values ≡ cond forgets [] puts → AreApart (changes_of_puts puts forgets)
    → live_in (changed_by (changes_of_puts puts forgets) map) ≤ capacity → length values ≤ capacity
puts_fit _ true _ _ _ is _ _ = omega (arith, ap length is)
puts_fit puts false values map capacity is apart fits =
    omega (
      arith,
      ap length is,
      moved_words_are_live_lem (puts_of puts) map apart,
      length-append (put_words (puts_of puts)) (elements_of (map_without (puts_of puts) map)),
      length-put_words puts,
    )
