-- The live addresses that no setting has, gathered by rising address.
use Rattle.std.proofs.Common.{◌≡◌, ◌≢◌, ◌∙◌, ◌+◌, ◌-◌, ◌<◌, ◌≤◌, ℕ, Bool, false, cond, not, is_some, Option, Some, None, List, [], ◌∷◌, ◌++◌, length, take, drop, get_or, refl, sym, ap, arith, suc, zero, length-append, append_assoc, rules}
use Rattle.std.specs.Prelude.{◌&&◌}
use Rattle.std.specs.List.{All}
use Rattle.std.proofs.lemmas.Grind.{common_steps, flat_map-append}
use Rattle.std.proofs.lemmas.List.{append-nil, drop_more, take_more}
use Rattle.std.proofs.Common.{take-append-drop}
use Rattle.std.proofs.lemmas.List.Elements.{All-cons, All-nil, All-weaker}
use Rattle.ee_pages.specs.Meaning.{Map}
use Rattle.ee_pages.specs.LiveOrder.{AreLiveThrough, AreNextLive, IsNextLive, IsNoneLive, last_of}
use Rattle.ee_pages.proofs.Public.{last_rises}
use Rattle.ee_settings.proofs.Forgetting.{still_next}
use Rattle.ee_settings.specs.Setting.{Schema, is_named}
use Rattle.ee_settings.specs.Tidying.{is_unnamed, unnamed_among, unnamed_in, unnamed_of, unnamed_to}

-- the address, if it passes the test
abbrev if_so : Bool → ℕ → List ℕ
if_so test address = cond test (address ∷ []) []

pub unnamed_to-zero : (schema : Schema) (map : Map) → unnamed_to schema map 0 ≡ []
unfolding unnamed_to
unnamed_to-zero schema map = refl

pub unnamed_to-suc : (schema : Schema) (map : Map) (n : ℕ)
    → unnamed_to schema map (suc n)
    ≡ unnamed_to schema map n ++ cond (is_unnamed schema map (suc n)) (suc n ∷ []) []
unfolding unnamed_to
unnamed_to-suc schema map n = refl

-- ---- up to where there are none

none_unnamed : (schema : Schema) (map : Map) (address : ℕ) → map address ≡ None
    → is_unnamed schema map address ≡ false
none_unnamed schema map address none =
    ap (λ (value : Option ℕ). is_some value && not (is_named schema address)) none

gap : (schema : Schema) (map : Map) (n k : ℕ)
    → ((address : ℕ) → n < address → address ≤ n + k → map address ≡ None)
    → unnamed_to schema map (n + k) ≡ unnamed_to schema map n
gap schema map n zero none = ap (unnamed_to schema map) (let e : n + 0 ≡ n = omega arith in e)
gap schema map n (suc k) none =
    let e : n + suc k ≡ suc (n + k) = omega arith in
    let here : is_unnamed schema map (suc (n + k)) ≡ false =
    none_unnamed schema map (suc (n + k)) (none (suc (n + k)) (omega arith) (omega arith)) in
    let rest = gap schema map n k (λ address low high. none address low (omega arith)) in
    ap (unnamed_to schema map) e
    ∙ unnamed_to-suc schema map (n + k)
    ∙ ap (λ (b : Bool). unnamed_to schema map (n + k) ++ if_so b (suc (n + k))) here
    ∙ append-nil (unnamed_to schema map (n + k))
    ∙ rest

pub gap_to : (schema : Schema) (map : Map) (n m : ℕ) → n ≤ m
    → ((address : ℕ) → n < address → address ≤ m → map address ≡ None)
    → unnamed_to schema map m ≡ unnamed_to schema map n
gap_to schema map n m h none =
    let e : m ≡ n + (m - n) = omega arith in
    ap (unnamed_to schema map) e
    ∙ gap schema map n (m - n) (λ address low high. none address low (omega arith))

-- ---- further on

longer : (schema : Schema) (map : Map) (n k : ℕ)
    → (rest : List ℕ) × (unnamed_to schema map (n + k) ≡ unnamed_to schema map n ++ rest)
longer schema map n zero = (
  [],
  ap (unnamed_to schema map) (let e : n + 0 ≡ n = omega arith in e)
      ∙ sym (append-nil (unnamed_to schema map n)),
)
longer schema map n (suc k) =
    let e : n + suc k ≡ suc (n + k) = omega arith in
    let front = longer schema map n k in
    let last = if_so (is_unnamed schema map (suc (n + k))) (suc (n + k)) in (
      front.0 ++ last,
      ap (unnamed_to schema map) e
          ∙ unnamed_to-suc schema map (n + k)
          ∙ ap (λ l. l ++ last) front.1
          ∙ append_assoc (unnamed_to schema map n) front.0 last,
    )

pub begins_with : (schema : Schema) (map : Map) (n m : ℕ) → n ≤ m
    → (rest : List ℕ) × (unnamed_to schema map m ≡ unnamed_to schema map n ++ rest)
begins_with schema map n m low =
    let e : m ≡ n + (m - n) = omega arith in
    let more = longer schema map n (m - n) in
    (more.0, ap (unnamed_to schema map) e ∙ more.1)

-- ---- one address, and a batch of them

turned : (b : Bool) (address : ℕ) → if_so (not b) address ≡ cond b [] (address ∷ [])
turned b address = search rules

next_one : (schema : Schema) (map : Map) (above address value : ℕ)
    → IsNextLive map above (Some (address, value))
    → unnamed_to schema map address ≡ unnamed_to schema map above ++ unnamed_of schema address
next_one schema map above address value next =
    let e : address ≡ suc (address - 1) = omega (arith, next.0) in
    let before =
    gap_to schema map above (address - 1) (omega (arith, next.0))
    (λ k low high. next.2 k low (omega (arith, next.0))) in
    let here : is_unnamed schema map address ≡ not (is_named schema address) =
    ap (λ (found : Option ℕ). is_some found && not (is_named schema address)) next.1 in
    ap (unnamed_to schema map) e
    ∙ unnamed_to-suc schema map (address - 1)
    ∙ ap (λ k. unnamed_to schema map (address - 1) ++ if_so (is_unnamed schema map k) k) (sym e)
    ∙ ap (λ (b : Bool). unnamed_to schema map (address - 1) ++ if_so b address) here
    ∙ ap (λ l. unnamed_to schema map (address - 1) ++ l)
    (turned (is_named schema address) address)
    ∙ ap (λ l. l ++ unnamed_of schema address) before

pub batch : (schema : Schema) (map : Map) (above : ℕ) (found : List (ℕ × ℕ))
    → AreNextLive map above found
    → unnamed_to schema map (last_of above found)
    ≡ unnamed_to schema map above ++ unnamed_among schema found
batch schema map above [] next = sym (append-nil (unnamed_to schema map above))
batch schema map above (first ∷ more) next =
    batch schema map first.0 more next.1
    ∙ ap (λ l. l ++ unnamed_among schema more)
    (next_one schema map above first.0 first.1 next.0)
    ∙ append_assoc (unnamed_to schema map above) (unnamed_of schema first.0)
    (unnamed_among schema more)

pub batch_through : (schema : Schema) (map : Map) (above to : ℕ) (found : List (ℕ × ℕ))
    → AreLiveThrough map above found (Some to)
    → unnamed_to schema map to ≡ unnamed_to schema map above ++ unnamed_among schema found
batch_through schema map above to found live =
    gap_to schema map (last_of above found) to live.rest.0 live.rest.1
    ∙ batch schema map above found live.next

pub batch_all : (schema : Schema) (map : Map) (above : ℕ) (found : List (ℕ × ℕ))
    → last_of above found ≤ 65534 → AreLiveThrough map above found None
    → unnamed_in schema map ≡ unnamed_to schema map above ++ unnamed_among schema found
batch_all schema map above found below live =
    gap_to schema map (last_of above found) 65534 below
    (λ address low high. live.rest address low)
    ∙ batch schema map above found live.next

-- ---- how many, and where

so_few : (b : Bool) (address : ℕ) → length (if_so b address) ≤ 1
so_few b address = search rules

pub few : (schema : Schema) (map : Map) (n : ℕ) → length (unnamed_to schema map n) ≤ n
few schema map zero = rw (unnamed_to-zero schema map) (omega arith)
few schema map (suc n) =
    search (rules, length-append, so_few, unnamed_to-suc, (few schema map n))

-- ---- those that were found lie up to the last one

low_of : (b : Bool) (address last : ℕ) → address ≤ last
    → All (λ a. a ≤ last) (cond b [] (address ∷ []))
low_of b address last h1 = search (rules, All-nil, All-cons)

among_low : (schema : Schema) (map : Map) (above : ℕ) (found : List (ℕ × ℕ))
    → AreNextLive map above found
    → All (λ a. a ≤ last_of above found) (unnamed_among schema found)
among_low schema map above [] next = All-nil (λ a. a ≤ above)
among_low schema map above (first ∷ more) next =
    search (rules, last_rises, low_of, (among_low schema map first.0 more next.1))

pub among_others : (schema : Schema) (map : Map) (above address : ℕ) (found : List (ℕ × ℕ))
    → AreNextLive map above found → last_of above found < address
    → All (λ a. a ≢ address) (unnamed_among schema found)
among_others schema map above address found next high = search (rules, All-weaker, among_low)

-- ---- a batch of one map in another that says the same from there on

none_same : (map other : Map) (above : ℕ) (through : Option ℕ)
    → ((address : ℕ) → above < address → other address ≡ map address) → IsNoneLive map above through
    → IsNoneLive other above through
none_same map other above through h1 h2 = search rules

pub live_same : (map other : Map) (above : ℕ) (found : List (ℕ × ℕ)) (through : Option ℕ)
    → ((address : ℕ) → above < address → other address ≡ map address)
    → AreLiveThrough map above found through → AreLiveThrough other above found through
live_same map other above found through same live =
    search (rules, last_rises, none_same, still_next)

-- ---- within a batch

pub among_more : (schema : Schema) (found : List (ℕ × ℕ)) (n : ℕ) (one : ℕ × ℕ)
    → n < length found → one ≡ get_or found n one
    → unnamed_among schema (take (n + 1) found)
    ≡ unnamed_among schema (take n found) ++ unnamed_of schema one.0
among_more schema found n one inside here =
    grind (arith, common_steps, append-nil, flat_map-append, take_more)

pub among_split : (schema : Schema) (found : List (ℕ × ℕ)) (n : ℕ) (one : ℕ × ℕ)
    → n < length found → one ≡ get_or found n one
    → unnamed_among schema found
    ≡ unnamed_among schema (take n found)
    ++ (unnamed_of schema one.0 ++ unnamed_among schema (drop (n + 1) found))
among_split schema found n one inside here =
    ap (unnamed_among schema) (sym (take-append-drop n found))
    ∙ flat_map-append (λ (x : ℕ × ℕ). unnamed_of schema x.0) (take n found) (drop n found)
    ∙ ap (λ l. unnamed_among schema (take n found) ++ unnamed_among schema l)
    (drop_more found n one inside ∙ ap (λ (x : ℕ × ℕ). x ∷ drop (n + 1) found) (sym here))
