-- The text of a ledger grows by a page at a time; and there is one cause at most for
-- which no wear is told.
use Rattle.std.proofs.Common.{◌≡◌, ◌≢◌, ◌∙◌, ◌⊎◌, ◌+◌, ◌<◌, ℕ, zero, suc, Option, Some, None, List, [], ◌∷◌, ◌++◌, length, take, inl, inr, refl, sym, ap, arith, add-one, append_assoc, Result, Ok, Err, IfErr, IfOk, MatchResult, rules}
use Rattle.std.proofs.lemmas.Grind.{common_steps}
use Rattle.std.specs.Prelude.{slice_index}
use Rattle.std.proofs.lemmas.Bool.{cases_order}
use Rattle.std.proofs.lemmas.List.{append-nil}
use Rattle.ee_text.specs.Line.{line_of}
use Rattle.ee_flash.specs.Device.{Device}
use Rattle.ee_image.proofs.Public.{one_device_lem}
use Rattle.ee_wear.specs.Since.{IsFirstFallen, IsSinceFault, NoneFell}
use Rattle.ee_wear.specs.declared.since.SinceFault.{SinceFault}
use Rattle.ee_wear.specs.declared.since.SinceFault.TheVariants as since
use Rattle.ee_interface.specs.Fault.{fault_of_since}
use Rattle.ee_interface.specs.declared.fault.Fault.{Fault}
use Rattle.ee_interface.specs.declared.fault.Fault.TheVariants.{Memory}
use Rattle.ee_interface.specs.declared.fault.File.TheVariants.{Image, Before}
use Rattle.ee_image_store.specs.Opening.{SpellsDevice}
use Rattle.ee_commands.specs.Wear.{AreWearCounts, IsDifferenceFault, IsWearFault, count_lines, count_text}
use Rattle.ee_image_store.proofs.Public.{no_memory_for, one_file_fault, only_memory}

lines_push : (start : ℕ) (counts : List ℕ) (n number : ℕ) → number ≡ start + n → n < length counts
    → count_lines start (take (suc n) counts)
    ≡ count_lines start (take n counts) ++ line_of (count_text number (slice_index counts n))
lines_push start [] n number e within = absurd (omega arith)
lines_push start (count ∷ counts) zero number e within = search (rules, append-nil)
lines_push start (count ∷ counts) (suc n) number e within = grind (
  arith,
  common_steps,
  (lines_push (start + 1) counts n number (omega arith) (omega arith)),
)

-- one page more
pub counts_grow : (counts : List ℕ) (n : ℕ) (count : ℕ) (old out new : List ℕ) → n < length counts
    → out ≡ old ++ count_lines 0 (take n counts) → count ≡ slice_index counts n
    → new ≡ out ++ line_of (count_text n count) → new ≡ old ++ count_lines 0 (take (n + 1) counts)
counts_grow counts n count old out new within so_far is written =
    let line : List ℕ = line_of (count_text n count) in
    let grown : count_lines 0 (take (n + 1) counts) ≡ count_lines 0 (take n counts) ++ line =
    rw add-one (lines_push 0 counts n n (omega arith) within)
    ∙ ap (λ k. count_lines 0 (take n counts) ++ line_of (count_text n k)) (sym is) in
    written ∙ ap (λ l. l ++ line) so_far ∙ append_assoc old (count_lines 0 (take n counts)) line
    ∙ ap (λ l. old ++ l) (sym grown)

-- ---- the faults of a difference

one_page : (before now : List ℕ) (page other : ℕ) → IsFirstFallen before now page
    → IsFirstFallen before now other → other ≡ page
one_page before now page other first second = search (rules, cases_order)

one_since_fault : (before now : List ℕ) (cause fault : SinceFault) → cause ≢ since.Memory
    → IsSinceFault before now cause → IsSinceFault before now fault
    → (fault ≡ cause) ⊎ (fault ≡ since.Memory)
one_since_fault before now cause fault h1 h2 h3 = search (rules, one_page)

none_fell_is_good : (before now : List ℕ) (cause : SinceFault) → NoneFell before now
    → cause ≢ since.Memory → IsSinceFault before now cause → ⊥
none_fell_is_good before now since.OtherShape none some h = h none.as_many
none_fell_is_good before now (since.Backwards page) none some h =
    let least = none.each page h.1.within in omega (arith, least, h.1.less)
none_fell_is_good before now since.Memory none some h = some refl

-- the wear of two devices with one text is one
same_wear : (text : List ℕ) (device other : Device) → SpellsDevice text device
    → SpellsDevice text other → other.wear ≡ device.wear
same_wear text device other spelled again =
    ap (λ (d : Device). d.wear)
    (one_device_lem other device again.formed spelled.formed
    (sym again.text_is ∙ spelled.text_is))

-- what is wrong with the difference of two devices, of which the texts spell, is so of those
-- that they spell too
moved_cause : (image before : List ℕ) (fault : Fault) (device old : Device)
    (wrong : IsDifferenceFault image before fault)
    → SpellsDevice image device → SpellsDevice before old
    → IsSinceFault old.wear device.wear wrong.cause
moved_cause image before fault device old wrong spelled spelled_before = search (rules, same_wear)

some_cause : (image before : List ℕ) (fault : Fault) (wrong : IsDifferenceFault image before fault)
    → fault ≢ Memory → wrong.cause ≢ since.Memory
some_cause image before fault wrong some none = some (wrong.fault_is ∙ ap fault_of_since none)

one_difference : (image before : List ℕ) (cause fault : Fault) → cause ≢ Memory
    → IsDifferenceFault image before cause → IsDifferenceFault image before fault
    → (fault ≡ cause) ⊎ (fault ≡ Memory)
one_difference image before cause fault some h i =
    elim (one_since_fault h.old.wear h.device.wear h.cause i.cause
    (some_cause image before cause h some) h.applies
    (moved_cause image before fault h.device h.old i h.spelled h.spelled_before)) [
      | inl same ↦ inl (i.fault_is ∙ ap fault_of_since same ∙ sym h.fault_is)
      | inr none ↦ inr (i.fault_is ∙ ap fault_of_since none)
    ]

-- ---- the faults of the wear

one_wear_fault : (image : List ℕ) (before : Option (List ℕ)) (cause fault : Fault) → cause ≢ Memory
    → IsWearFault image before cause → IsWearFault image before fault
    → (fault ≡ cause) ⊎ (fault ≡ Memory)
one_wear_fault image None cause fault some h i = one_file_fault Image image cause fault some h i
one_wear_fault image (Some before) cause fault some (inl h) (inl i) =
    one_file_fault Image image cause fault some h i
one_wear_fault image (Some before) cause fault some (inl h) (inr (inl i)) =
    absurd (some (only_memory Image image i.0.0 cause i.0.1 h))
one_wear_fault image (Some before) cause fault some (inl h) (inr (inr i)) =
    absurd (some (only_memory Image image i.device cause i.spelled h))
one_wear_fault image (Some before) cause fault some (inr (inl h)) (inl i) =
    inr (only_memory Image image h.0.0 fault h.0.1 i)
one_wear_fault image (Some before) cause fault some (inr (inl h)) (inr (inl i)) =
    one_file_fault Before before cause fault some h.1 i.1
one_wear_fault image (Some before) cause fault some (inr (inl h)) (inr (inr i)) =
    absurd (some (only_memory Before before i.old cause i.spelled_before h.1))
one_wear_fault image (Some before) cause fault some (inr (inr h)) (inl i) =
    inr (only_memory Image image h.device fault h.spelled i)
one_wear_fault image (Some before) cause fault some (inr (inr h)) (inr (inl i)) =
    inr (only_memory Before before h.old fault h.spelled_before i.1)
one_wear_fault image (Some before) cause fault some (inr (inr h)) (inr (inr i)) =
    one_difference image before cause fault some h i

told_is_good : (image : List ℕ) (before : Option (List ℕ)) (counts : List ℕ) (cause : Fault)
    → AreWearCounts image before counts → cause ≢ Memory → IsWearFault image before cause → ⊥
told_is_good image None counts cause told some h =
    some (only_memory Image image told.device cause told.spelled h)
told_is_good image (Some before) counts cause told some (inl h) =
    some (only_memory Image image told.device cause told.spelled h)
told_is_good image (Some before) counts cause told some (inr (inl h)) =
    some (only_memory Before before told.old cause told.spelled_before h.1)
told_is_good image (Some before) counts cause told some (inr (inr h)) =
    none_fell_is_good told.old.wear told.device.wear h.cause told.none_fell
    (some_cause image before cause h some)
    (moved_cause image before cause told.device told.old h told.spelled told.spelled_before)

-- no cause is passed over
pub wear_names : (r : Result (List ℕ) Fault) (image : List ℕ) (before : Option (List ℕ))
    → IfOk r (AreWearCounts image before) → IfErr r (IsWearFault image before)
    → (cause : Fault) → cause ≢ Memory → IsWearFault image before cause
    → MatchResult r (λ _. ⊥) (λ fault. (fault ≡ cause) ⊎ (fault ≡ Memory))
wear_names (Ok counts) image before told wrong cause some h =
    told_is_good image before counts cause told some h
wear_names (Err fault) image before told wrong cause some h =
    one_wear_fault image before cause fault some h wrong

-- memory can run out of whatever is told
pub wear_memory : (image : List ℕ) (before : Option (List ℕ)) (counts : List ℕ)
    → AreWearCounts image before counts → IsWearFault image before Memory
wear_memory image None counts told = no_memory_for Image image told.device told.spelled
wear_memory image (Some before) counts told =
    inl (no_memory_for Image image told.device told.spelled)
