-- Programs need erased words, and only erases give back such words.
use Rattle.std.proofs.Common.{◌≡◌, ◌⊎◌, inl, inr, ℕ, zero, suc, ◌+◌, ◌*◌, ◌-◌, ◌<◌, ◌≤◌, cond, eqb, List, [], ◌∷◌, length, get_or, set, replicate, refl, subst, ap, arith, rules}
use Rattle.std.specs.List.{count_by}
use Rattle.std.proofs.lemmas.Bool.{cases_eq, cases_lt, eq-eqb}
use Rattle.std.proofs.lemmas.List.{length-replicate}
use Rattle.std.proofs.lemmas.List.Sums.{count_by-le-length, sum_by-cons, sum_by-le, sum_by-set}
use Rattle.std.proofs.Math.Nat.{div-mul-le_self, mul-le-mul_left, zero-div}
use Rattle.ee_flash.specs.Size.{page_count}
use Rattle.ee_flash.specs.Device.{Device, IsFormed, IsOn, word_at}
use Rattle.ee_flash.specs.Step.{Step, Program, Erase, device_after}
use Rattle.ee_flash.specs.Laws.{CanTake}
use Rattle.ee_flash.specs.Endurance.{AreTaken, erased_words, erases, erases_of, is_erase, is_erase_of, is_erased, is_program, least_wear, programs, word_count}
use Rattle.ee_flash.specs.declared.word.Word.{Word}
use Rattle.ee_flash.specs.declared.word.Word.TheVariants.{Erased, Held}
use Rattle.ee_flash.proofs.Outcomes.{step_keeps_formed}

-- ---- one step

-- a step that is taken whole leaves the device formed and on
pub still_formed : (step : Step) (device : Device) → IsFormed device → IsOn device
    → CanTake step device → IsFormed (device_after step device)
still_formed step device formed on can =
    step_keeps_formed step device (device_after step device)
    (record { formed = formed; may = can; follows = inl (record { was_on = on; done = refl }) })

still_on : (step : Step) (device : Device) → IsOn device → IsOn (device_after step device)
still_on (Program page at value) device on = on
still_on (Erase page) device on = on

pub behind : (step : Step) (steps : List Step) (device : Device) → AreTaken (step ∷ steps) device
    → AreTaken steps (device_after step device)
behind step steps device taken = search (rules, still_formed, still_on)

-- an erased word is one less
word_less : (page : List Word) (at value : ℕ) → at < length page → get_or page at Erased ≡ Erased
    → count_by is_erased (set page at (Held value)) + 1 ≡ count_by is_erased page
word_less page at value h erased =
    let was : cond {A = ℕ} (is_erased (get_or page at Erased)) 1 0 ≡ 1 =
    ap (λ word. cond {A = ℕ} (is_erased word) 1 0) erased in
    omega (
      arith,
      sum_by-set (λ word. cond {A = ℕ} (is_erased word) 1 0) page at (Held value) Erased h,
      was,
    )

after_program : (page at value : ℕ) (device : Device) → IsFormed device
    → page < page_count device.size → at < device.size.words → word_at device page at ≡ Erased
    → erased_words (device_after (Program page at value) device) + 1 ≡ erased_words device
after_program page at value device formed in_device in_page erased =
    search (rules, arith, sum_by-set, word_less)

after_erase : (page : ℕ) (device : Device) → IsFormed device → page < page_count device.size
    → erased_words (device_after (Erase page) device) ≤ erased_words device + device.size.words
after_erase page device formed in_device =
    let here : page < length device.image = omega (arith, in_device, formed.image_length) in
    let blank = replicate device.size.words Erased in
    omega (
      arith,
      count_by-le-length is_erased blank,
      length-replicate device.size.words Erased,
      sum_by-set (λ (words : List Word). count_by is_erased words) device.image page blank [] here,
    )

-- ---- all steps

more_programs : (step : Step) (steps : List Step)
    → programs (step ∷ steps) ≡ cond (is_program step) 1 0 + programs steps
more_programs step steps = sum_by-cons (λ one. cond (is_program one) 1 0) step steps

more_erases : (step : Step) (steps : List Step)
    → erases (step ∷ steps) ≡ cond (is_erase step) 1 0 + erases steps
more_erases step steps = sum_by-cons (λ one. cond (is_erase one) 1 0) step steps

pub more_erases_of : (page : ℕ) (step : Step) (steps : List Step)
    → erases_of page (step ∷ steps) ≡ cond (is_erase_of page step) 1 0 + erases_of page steps
more_erases_of page step steps = sum_by-cons (λ one. cond (is_erase_of page one) 1 0) step steps

words_of_more : (words count : ℕ) → words * (1 + count) ≡ words + words * count
words_of_more words count = omega arith

pub programs_need_erases_lem : (steps : List Step) (device : Device) → AreTaken steps device
    → programs steps ≤ erased_words device + device.size.words * erases steps
programs_need_erases_lem [] device taken = omega arith
programs_need_erases_lem (Program page at value ∷ steps) device taken =
    let can = taken.can.0 in
    let step = Program page at value in
    let later =
    programs_need_erases_lem steps (device_after step device)
    (behind step steps device taken) in
    let same : erases (step ∷ steps) ≡ erases steps = omega (arith, more_erases step steps) in
    let now = after_program page at value device taken.formed can.0 can.1 can.2 in
    rw same (omega (arith, later, now, more_programs step steps))
programs_need_erases_lem (Erase page ∷ steps) device taken =
    let step = Erase page in
    let later =
    programs_need_erases_lem steps (device_after step device)
    (behind step steps device taken) in
    let now = after_erase page device taken.formed taken.can.0 in
    rw (more_erases step steps)
    (omega (
      arith,
      later,
      now,
      more_programs step steps,
      words_of_more device.size.words (erases steps),
    ))

-- ---- the most worn page

-- of the first n numbers, all together
together : (ℕ → ℕ) → ℕ → ℕ
together count zero = 0
together count (suc n) = together count n + count n

together_grows : (count more : ℕ → ℕ) (n : ℕ) → ((k : ℕ) → count k ≤ more k)
    → together count n ≤ together more n
unfolding together
together_grows count more zero others = omega arith
together_grows count more (suc n) others =
    omega (arith, together_grows count more n others, others n)

-- one more of one of them
one_more : (count more : ℕ → ℕ) (page n : ℕ) → ((k : ℕ) → count k ≤ more k)
    → count page + 1 ≤ more page → page < n → together count n + 1 ≤ together more n
unfolding together
one_more count more page zero others here h = absurd (omega (arith, h))
one_more count more page (suc n) others here h = elim (cases_eq page n) [
  | inl same ↦
      let there : count n + 1 ≤ more n = subst (λ k. count k + 1 ≤ more k) same here in
      omega (arith, together_grows count more n others, there)
  | inr other ↦ omega
      (arith, one_more count more page n others here (omega (arith, h, other)), others n)
]

erased_here : (page : ℕ) (steps : List Step)
    → erases_of page steps + 1 ≤ erases_of page (Erase page ∷ steps)
erased_here page steps =
    let one : cond {A = ℕ} (eqb page page) 1 0 ≡ 1 =
    ap (λ same. cond {A = ℕ} same 1 0) (eq-eqb page page refl) in
    omega (arith, more_erases_of page (Erase page) steps, one)

erased_elsewhere : (page : ℕ) (step : Step) (steps : List Step)
    → erases_of page steps ≤ erases_of page (step ∷ steps)
erased_elsewhere page step steps = omega (arith, more_erases_of page step steps)

erases_together : (steps : List Step) (device : Device) → AreTaken steps device
    → erases steps ≤ together (λ page. erases_of page steps) (page_count device.size)
erases_together [] device taken = omega arith
erases_together (Program page at value ∷ steps) device taken =
    let step = Program page at value in
    let later = erases_together steps (device_after step device) (behind step steps device taken) in
    let more =
    together_grows (λ k. erases_of k steps) (λ k. erases_of k (step ∷ steps))
    (page_count device.size) (λ k. erased_elsewhere k step steps) in
    omega (arith, later, more, more_erases step steps)
erases_together (Erase page ∷ steps) device taken =
    let step = Erase page in
    let later = erases_together steps (device_after step device) (behind step steps device taken) in
    let more =
    one_more (λ k. erases_of k steps) (λ k. erases_of k (step ∷ steps)) page
    (page_count device.size) (λ k. erased_elsewhere k step steps) (erased_here page steps)
    taken.can.0 in
    omega (arith, later, more, more_erases step steps)

-- one of the first n is so often, or all together are as many fewer as they must be then
some_or_few : (count : ℕ → ℕ) (least n : ℕ)
    → ((page : ℕ) × (page < n) × (least ≤ count page)) ⊎ (together count n + n ≤ n * least)
unfolding together
some_or_few count least zero = inr (omega arith)
some_or_few count least (suc n) = elim (some_or_few count least n) [
  | inl found ↦ inl (found.0, omega (arith, found.1), found.2)
  | inr few ↦ elim (cases_lt (count n) least) [
    | inl less ↦ inr (omega (arith, few, less))
    | inr enough ↦ inl (n, omega arith, enough)
  ]
]

few_erased : (device : Device) → IsFormed device → erased_words device ≤ word_count device.size
few_erased device formed = search (rules, arith, count_by-le-length, sum_by-le)

-- so many programs with so few erases there are not
too_few : (changes programmed erased worn pages words least : ℕ) → changes ≤ programmed
    → programmed ≤ pages * words + words * worn → worn ≤ erased → erased + pages ≤ pages * least
    → least * (pages * words) ≤ changes - 1 → 1 ≤ changes → ⊥
too_few changes programmed erased worn pages words least enough needs few bound within some =
    let more : words * (worn + pages) ≤ words * (pages * least) =
    mul-le-mul_left words (omega (arith, few, bound)) in
    absurd (omega (arith, enough, needs, more, within, some))

pub some_page_wears_lem : (changes : ℕ) (steps : List Step) (device : Device)
    → AreTaken steps device → changes ≤ programs steps
    → (page : ℕ) × (page < page_count device.size)
    × (least_wear device.size changes ≤ erases_of page steps)
some_page_wears_lem zero steps device taken enough =
    let none : least_wear device.size 0 ≡ 0 = zero-div (word_count device.size) in
    (0, let some = taken.formed.within_limits.some_pages in omega arith, omega (arith, none))
some_page_wears_lem (suc n) steps device taken enough =
    let pages = page_count device.size in
    let least = least_wear device.size (suc n) in
    elim (some_or_few (λ page. erases_of page steps) least pages) [
      | inl found ↦ found
      | inr few ↦ absurd (too_few (suc n) (programs steps)
          (together (λ page. erases_of page steps) pages) (erases steps) pages device.size.words
          least enough
          (omega
          (arith, programs_need_erases_lem steps device taken, few_erased device taken.formed))
          (erases_together steps device taken) few
          (div-mul-le_self (suc n - 1) (word_count device.size)) (omega arith))
    ]
