-- A step of words is one or two steps of numbers.
use Rattle.std.proofs.Common.{rules, Bool, ◌≡◌, ◌≢◌, ◌⊎◌, inl, inr, ℕ, ◌+◌, ◌*◌, ◌<◌, ◌≤◌, List, [], Option, length, get_or, set, replicate, map, true, false, Result, Ok, Err, OnOk, OnErr, refl, sym, subst, ap, ◌∙◌, arith}
use Rattle.std.proofs.lemmas.Bool.{eq-eqb, ne_eqb}
use Rattle.std.proofs.lemmas.List.{get_or-map, get_or-set_other, get_or-set_same, length-set, map-set, set-get_or, set-set}
use Rattle.ee_flash.specs.Device.{Device, all_ones, page_at, word_at}
use Rattle.ee_flash.specs.Size.{Size, page_count}
use Rattle.ee_flash.specs.Step.{Erase, IsCutIn, IsPartlyErased, IsUntouched, MayLeave, Program, with_word, with_word_programmed}
use Rattle.ee_flash.specs.declared.word.Word.{Word}
use Rattle.ee_flash.specs.declared.word.Word.TheVariants.{Erased, Held, Torn}
use Rattle.ee_flash.proofs.Public.{some_more}
use Rattle.ee_nor.specs.Nor.{EraseNumbers, NorStep, IsNorCutIn, IsNorFormed, IsNorNumber, IsNorUntouched, KeepsBits, MayEraseLeave, NorDevice, ProgramNumber, number_at, number_in, numbers_at, with_number, with_numbers, with_numbers_erased}
use Rattle.ee_nor.specs.Pairs.{IsHigh, IsSafe, MayBeCut, NoLowPair, complement, paired_device, pair_in, pair_word, pair_words}
use Rattle.ee_nor.specs.Formed.{get_or-pair_words, number_fits, word_cases}
use Rattle.ee_nor.proofs.Bits.{no_less}
use Rattle.ee_nor.proofs.High.{high_blank, high_first, high_kept, high_second, no_low_with}
use Rattle.ee_nor.proofs.Words.{paired_device-with, first_cut, other_pairs, partly_erased, partly_unmade, second_cut}

-- the word at a place
pub word_there : (nor : NorDevice) (page at : ℕ) → IsNorFormed nor → page < page_count nor.size
    → at < nor.size.words → word_at (paired_device nor) page at ≡ pair_in (numbers_at nor page) at
word_there nor page at formed in_range within =
    let words = pair_words nor.size.words in
    ap (λ (those : List Word). get_or those at Erased)
    (get_or-map words nor.image page [] [] (omega (arith, formed.image_length)))
    ∙ get_or-pair_words nor.size.words (numbers_at nor page) at Erased within

both_erased : (number check : ℕ) → pair_word number check ≡ Erased
    → (number ≡ all_ones) × (check ≡ all_ones)
both_erased number check is = elim (word_cases number check) [
  | inl erased ↦ (erased.0, erased.1)
  | inr (inl held) ↦ let word = held.2 in cc
  | inr (inr torn) ↦ cc
]

held_word : (value : ℕ) → value < all_ones → pair_word value (complement value) ≡ Held value
held_word value below =
    rw (
      ne_eqb value all_ones (λ same. omega arith),
      eq-eqb (complement value) (complement value) refl,
    ) refl

module _ (nor : NorDevice) (page at : ℕ) (formed : IsNorFormed nor)
    (in_range : page < page_count nor.size) (within : at < nor.size.words)
    (erased : word_at (paired_device nor) page at ≡ Erased) where
  abbrev numbers : List ℕ
  numbers = numbers_at nor page

  page_within : page < length nor.image
  page_within = omega (arith, formed.image_length)

  long : length numbers ≡ 2 * nor.size.words
  long = formed.page_lengths page [] page_within

  pub erased_first : number_at nor page (2 * at) ≡ all_ones
  erased_first = (both_erased _ _ (sym (word_there nor page at formed in_range within) ∙ erased)).0

  pub erased_second : number_at nor page (2 * at + 1) ≡ all_ones
  erased_second = (both_erased _ _ (sym (word_there nor page at formed in_range within) ∙ erased)).1

  -- the numbers of a page with this word
  abbrev with_first : ℕ → List ℕ
  with_first number = set numbers (2 * at) number

  same_second : (number : ℕ) → number_in (with_first number) (2 * at + 1) ≡ all_ones
  same_second number =
      get_or-set_other numbers (2 * at) (2 * at + 1) number all_ones (λ same. omega arith)
      ∙ erased_second

  pub still_erased : (number : ℕ)
      → number_at (with_number page (2 * at) number nor) page (2 * at + 1) ≡ all_ones
  still_erased number =
      rw (get_or-set_same nor.image page (with_first number) [] page_within) (same_second number)

  first_there : (number : ℕ) → number_in (with_first number) (2 * at) ≡ number
  first_there number = get_or-set_same numbers (2 * at) number all_ones (omega (arith, long))

  first_others : (number other : ℕ) → other ≢ at
      → pair_in (with_first number) other ≡ pair_in numbers other
  first_others number other apart =
      let pair = other_pairs numbers at (2 * at) number (inl refl) other apart in
      rw (pair.0, pair.1) refl

  -- the first number programmed
  pub first_put : (number : ℕ)
      → paired_device (with_number page (2 * at) number nor)
      ≡ with_word page at (pair_word number all_ones) (paired_device nor)
  first_put number =
      paired_device-with nor page at (with_first number) page_within (first_others number)
      ∙ ap (λ (word : Word). with_word page at word (paired_device nor))
      (rw (first_there number, same_second number) refl)

  -- and then the second
  abbrev with_second : ℕ → ℕ → List ℕ
  with_second value number = set (with_first value) (2 * at + 1) number

  second_others : (value number other : ℕ) → other ≢ at
      → pair_in (with_second value number) other ≡ pair_in numbers other
  second_others value number other apart =
      let pair = other_pairs (with_first value) at (2 * at + 1) number (inr refl) other apart in
      rw (pair.0, pair.1) (first_others value other apart)

  one_page : (value number : ℕ)
      → with_number page (2 * at + 1) number (with_number page (2 * at) value nor)
      ≡ with_numbers page (with_second value number) nor
  one_page value number = ap (λ (image : List (List ℕ)). record nor { image = image })
      (rw (get_or-set_same nor.image page (with_first value) [] page_within)
      (set-set nor.image page (with_first value) (with_second value number)))

  pub second_put : (value number : ℕ)
      → paired_device (with_number page (2 * at + 1) number (with_number page (2 * at) value nor))
      ≡ with_word page at (pair_word value number) (paired_device nor)
  second_put value number =
      let kept =
      get_or-set_other (with_first value) (2 * at + 1) (2 * at) number all_ones
      (λ same. omega arith) in
      let there =
      get_or-set_same (with_first value) (2 * at + 1) number all_ones
      (omega (arith, long, length-set numbers (2 * at) value)) in
      ap paired_device (one_page value number)
      ∙ paired_device-with nor page at (with_second value number) page_within
      (second_others value number)
      ∙ ap (λ (word : Word). with_word page at word (paired_device nor))
      (rw (kept, first_there value, there) refl)

  -- a word that is put where it stood
  same_word : (with_word page at Erased (paired_device nor)).image ≡ (paired_device nor).image
  same_word = search (rules, set-get_or)

  left_so : (value : ℕ) (word : Word) (new : Device)
      → new.image ≡ (with_word page at word (paired_device nor)).image
      → (word ≡ Erased) ⊎ ((word ≡ Held value) ⊎ (word ≡ Torn))
      → MayLeave (Program page at value) (paired_device nor) new
  left_so value word new is (inl none) =
      inl
      (is ∙ ap (λ (word : Word). (with_word page at word (paired_device nor)).image) none
      ∙ same_word)
  left_so value word new is (inr (inl held)) =
      inr (inl (is ∙ ap (λ (word : Word). (with_word page at word (paired_device nor)).image) held))
  left_so value word new is (inr (inr torn)) =
      inr (inr (is ∙ ap (λ (word : Word). (with_word page at word (paired_device nor)).image) torn))

  -- power was cut in the first number
  pub cut_first : (value : ℕ) (new : NorDevice) → value < all_ones
      → IsNorCutIn (ProgramNumber page (2 * at) value) nor new
      → IsCutIn (Program page at value) (paired_device nor) (paired_device new)
  cut_first value new below cut =
      let left = number_at new page (2 * at) in
      let image : (paired_device new).image
      ≡ (paired_device (with_number page (2 * at) left nor)).image =
      ap (λ (size : Size). map (pair_words size.words) new.image) cut.same_size
      ∙ ap (map (pair_words nor.size.words)) cut.image.1 in
      record {
        was_on = cut.was_on;
        is_off = cut.is_off;
        same_size = cut.same_size;
        image =
            left_so value _ (paired_device new)
            (image ∙ ap (λ (device : Device). device.image) (first_put left))
            (first_cut value left below cut.image.0);
        wear = cut.wear;
        cuts = cut.cuts;
        cuts_left = cut.cuts_left;
        by_fuse = tt;
      }

  -- it was cut in the second
  pub cut_second : (value : ℕ) (new : NorDevice) → value < all_ones
      → IsNorCutIn (ProgramNumber page (2 * at + 1) (complement value))
      (with_number page (2 * at) value nor) new
      → IsCutIn (Program page at value) (paired_device nor) (paired_device new)
  cut_second value new below cut = search (rules, left_so, second_put, second_cut)

  -- ---- sums

  module _ (high : NoLowPair nor) where
    pub high_after_first : (value : ℕ) → NoLowPair (with_number page (2 * at) value nor)
    high_after_first value =
        no_low_with nor (with_number page (2 * at) value nor) page (with_first value) high
        (high_first numbers at value (high page) erased_second) refl

    pub high_cut_first : (value : ℕ) (new : NorDevice)
        → IsNorCutIn (ProgramNumber page (2 * at) value) nor new → NoLowPair new
    high_cut_first value new cut =
        let left = number_at new page (2 * at) in
        no_low_with nor new page (with_first left) high
        (high_first numbers at left (high page) erased_second) cut.image.1

    high_of_second : (value number : ℕ) → value ≤ all_ones → complement value ≤ number
        → IsHigh (with_second value number)
    high_of_second value number fits least =
        high_second (with_first value) at value number
        (high_first numbers at value (high page) erased_second)
        (omega (arith, long, length-set numbers (2 * at) value)) (first_there value) fits least

    pub high_after_second : (value number : ℕ) → value ≤ all_ones → complement value ≤ number
        → NoLowPair (with_number page (2 * at + 1) number (with_number page (2 * at) value nor))
    high_after_second value number fits least =
        no_low_with nor (with_number page (2 * at + 1) number (with_number page (2 * at) value nor))
        page (with_second value number) high (high_of_second value number fits least)
        (ap (λ (nor : NorDevice). nor.image) (one_page value number))

    pub high_cut_second : (value : ℕ) (new : NorDevice) → value ≤ all_ones
        → IsNorCutIn (ProgramNumber page (2 * at + 1) (complement value))
        (with_number page (2 * at) value nor) new
        → NoLowPair new
    high_cut_second value new fits cut =
        search (rules, no_low_with, high_of_second, no_less, one_page)

  pub safe_after_first : IsSafe nor → (value : ℕ) → IsSafe (with_number page (2 * at) value nor)
  safe_after_first safe value keeps may = high_after_first (safe keeps may) value

-- where a step was cut, it might be
might_be_cut : (nor new : NorDevice) (step : NorStep) → IsNorCutIn step nor new → MayBeCut nor
might_be_cut nor new step cut none = some_more new.cuts_left (sym none ∙ cut.cuts_left)

-- and might be before a step that left the cuts as they were
might_before : (nor new : NorDevice) → new.cuts_left ≡ nor.cuts_left → MayBeCut new → MayBeCut nor
might_before nor new same may none = may (same ∙ none)

-- power was off, and nothing changed
safe_untouched : (nor new : NorDevice) → IsSafe nor → IsNorUntouched nor new → IsSafe new
safe_untouched nor new safe untouched = rw untouched.same safe

-- where a flash doesn't clear first, a cut erase keeps bits
kept_bits : (first : Bool) (old new : List ℕ) → MayEraseLeave first old new → first ≡ false
    → KeepsBits old new
kept_bits first old new left is = subst (λ first. MayEraseLeave first old new) is left

-- what a cut erase leaves of the words of its page
left_words : (first : Bool) (count : ℕ) (old new : List ℕ) → MayEraseLeave first old new
    → ((at : ℕ) → IsNorNumber (number_in new at)) → (first ≡ false → IsHigh old)
    → IsPartlyErased (pair_words count old) (pair_words count new)
left_words true count old new left fits high = partly_unmade count old new left fits
left_words false count old new left fits high = partly_erased count old new left fits (high refl)

-- power was cut in an erase
pub cut_erase : (nor new : NorDevice) (page : ℕ) → IsNorFormed nor → IsNorFormed new
    → page < page_count nor.size → IsSafe nor → IsNorCutIn (EraseNumbers page) nor new
    → IsCutIn (Erase page) (paired_device nor) (paired_device new)
cut_erase nor new page formed new_formed in_range safe cut =
    let words = pair_words nor.size.words in
    let within : page < length nor.image = omega (arith, formed.image_length) in
    let size = ap page_count cut.same_size in
    let new_within : page < length new.image = omega (arith, new_formed.image_length, size) in
    let image : (paired_device new).image ≡ map words new.image =
    ap (λ (size : Size). map (pair_words size.words) new.image) cut.same_size in
    let there : page_at (paired_device nor) page ≡ words (numbers_at nor page) =
    get_or-map words nor.image page [] [] within in
    let new_there : page_at (paired_device new) page ≡ words (numbers_at new page) =
    ap (λ (pages : List (List Word)). get_or pages page []) image
    ∙ get_or-map words new.image page [] [] new_within in
    record {
      was_on = cut.was_on;
      is_off = cut.is_off;
      same_size = cut.same_size;
      image = (
        rw (there, new_there) (left_words nor.clears_first nor.size.words (numbers_at nor page)
            (numbers_at new page) cut.image.0
            (λ at. number_fits (numbers_at new page) at (new_formed.numbers_fit page [] new_within))
            (λ keeps. safe keeps (might_be_cut nor new _ cut) page)),
        image ∙ ap (map words) cut.image.1
            ∙ rw new_there (map-set words nor.image page (numbers_at new page)),
      );
      wear = cut.wear;
      cuts = cut.cuts;
      cuts_left = cut.cuts_left;
      by_fuse = tt;
    }

safe_cut_erase : (nor new : NorDevice) (page : ℕ) → IsSafe nor
    → IsNorCutIn (EraseNumbers page) nor new → IsSafe new
safe_cut_erase nor new page safe cut keeps may =
    let kept = sym cut.same_kind ∙ keeps in
    let high = safe kept (might_be_cut nor new _ cut) in
    let left =
    kept_bits nor.clears_first (numbers_at nor page) (numbers_at new page) cut.image.0 kept in
    no_low_with nor new page (numbers_at new page) high (high_kept _ _ left (high page)) cut.image.1

-- ---- what a call of the flash leaves

-- an erase, whole or not
module _ (nor new : NorDevice) (page : ℕ) (formed : IsNorFormed nor) (new_formed : IsNorFormed new)
    (in_range : page < page_count nor.size) (safe : IsSafe nor) where
  pub safe_erased : {T E : Type 0} (result : Result T E)
      → OnOk result (new ≡ with_numbers_erased page nor)
      → OnErr result (IsNorCutIn (EraseNumbers page) nor new ⊎ IsNorUntouched nor new) → IsSafe new
  safe_erased (Ok x) done cut keeps may =
      let before = might_before nor new (ap (λ (nor : NorDevice). nor.cuts_left) done) may in
      let high = safe (sym (ap (λ (nor : NorDevice). nor.clears_first) done) ∙ keeps) before in
      no_low_with nor new page (replicate (2 * nor.size.words) all_ones) high
      (high_blank (2 * nor.size.words)) (ap (λ (nor : NorDevice). nor.image) done)
  safe_erased (Err e) done (inl cut) keeps may = safe_cut_erase nor new page safe cut keeps may
  safe_erased (Err e) done (inr untouched) keeps may =
      safe_untouched nor new safe untouched keeps may

  pub erase_left : IsNorCutIn (EraseNumbers page) nor new ⊎ IsNorUntouched nor new
      → IsCutIn (Erase page) (paired_device nor) (paired_device new)
      ⊎ IsUntouched (paired_device nor) (paired_device new)
  erase_left (inl cut) = inl (cut_erase nor new page formed new_formed in_range safe cut)
  erase_left (inr untouched) =
      inr (record { was_off = untouched.was_off; same = ap paired_device untouched.same })

-- a program of the first number that was cut or off
module _ (nor new : NorDevice) (page at value : ℕ) (formed : IsNorFormed nor)
    (in_range : page < page_count nor.size) (within : at < nor.size.words)
    (erased : word_at (paired_device nor) page at ≡ Erased) where
  pub safe_first_left : IsSafe nor
      → IsNorCutIn (ProgramNumber page (2 * at) value) nor new ⊎ IsNorUntouched nor new → IsSafe new
  safe_first_left safe (inl cut) keeps may =
      let high = safe (sym cut.same_kind ∙ keeps) (might_be_cut nor new _ cut) in
      high_cut_first nor page at formed in_range within erased high value new cut
  safe_first_left safe (inr untouched) keeps may = safe_untouched nor new safe untouched keeps may

  pub first_left : value < all_ones
      → IsNorCutIn (ProgramNumber page (2 * at) value) nor new ⊎ IsNorUntouched nor new
      → IsCutIn (Program page at value) (paired_device nor) (paired_device new)
      ⊎ IsUntouched (paired_device nor) (paired_device new)
  first_left below (inl cut) =
      inl (cut_first nor page at formed in_range within erased value new below cut)
  first_left below (inr untouched) =
      inr (record { was_off = untouched.was_off; same = ap paired_device untouched.same })

  -- the second number, whole or not, after the first
  module _ (mid : NorDevice) (on : nor.on ≡ true) (put : mid ≡ with_number page (2 * at) value nor)
      (below : value < all_ones) where
    abbrev kind_of : NorDevice → Bool
    kind_of nor = nor.clears_first

    abbrev left_of : NorDevice → Option ℕ
    left_of nor = nor.cuts_left

    pub safe_second_left : {T E : Type 0} (result : Result T E) → IsSafe nor
        → OnOk result (new ≡ with_number page (2 * at + 1) (complement value) mid)
        → OnErr result
        (IsNorCutIn (ProgramNumber page (2 * at + 1) (complement value)) mid new
        ⊎ IsNorUntouched mid new)
        → IsSafe new
    safe_second_left (Ok x) safe done cut keeps may =
        let high =
        safe (sym (ap kind_of done ∙ ap kind_of put) ∙ keeps)
        (might_before nor new (ap left_of done ∙ ap left_of put) may) in
        rw (done, put)
        (high_after_second nor page at formed in_range within erased high value
        (complement value) (omega arith) (omega arith))
    safe_second_left (Err e) safe done (inl cut) keeps may =
        let before = might_before nor mid (ap left_of put) (might_be_cut mid new _ cut) in
        let high = safe (sym (cut.same_kind ∙ ap kind_of put) ∙ keeps) before in
        high_cut_second nor page at formed in_range within erased high value new (omega arith)
        (subst (λ mid. IsNorCutIn (ProgramNumber page (2 * at + 1) (complement value)) mid new)
        put cut)
    safe_second_left (Err e) safe done (inr untouched) keeps may =
        let before = might_before nor new (ap left_of untouched.same ∙ ap left_of put) may in
        let high = safe (sym (ap kind_of untouched.same ∙ ap kind_of put) ∙ keeps) before in
        rw (untouched.same, put)
        (high_after_first nor page at formed in_range within erased high value)

    pub second_done : new ≡ with_number page (2 * at + 1) (complement value) mid
        → paired_device new ≡ with_word_programmed page at value (paired_device nor)
    second_done done = search (rules, second_put, held_word)

    pub second_left : IsNorCutIn (ProgramNumber page (2 * at + 1) (complement value)) mid new
        ⊎ IsNorUntouched mid new
        → IsCutIn (Program page at value) (paired_device nor) (paired_device new)
    second_left (inl cut) =
        cut_second nor page at formed in_range within erased value new below
        (subst (λ mid. IsNorCutIn (ProgramNumber page (2 * at + 1) (complement value)) mid new)
        put cut)
    second_left (inr untouched) =
        let no : true ≡ false =
        sym on ∙ sym (ap (λ (nor : NorDevice). nor.on) put) ∙ untouched.was_off in
        cc

  -- where the complement is all ones, it stands there already
  pub zero_done : value < all_ones → complement value ≡ all_ones
      → new ≡ with_number page (2 * at) value nor
      → paired_device new ≡ with_word_programmed page at value (paired_device nor)
  zero_done below zero done =
      ap paired_device done ∙ first_put nor page at formed in_range within erased value
      ∙ ap (λ (word : Word). with_word page at word (paired_device nor))
      (ap (pair_word value) (sym zero) ∙ held_word value below)
