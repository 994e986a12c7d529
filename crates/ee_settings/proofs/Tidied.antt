-- How far a store is tidied: within a batch of live addresses, and from batch to batch.
use Rattle.std.proofs.Common.{◌≡◌, ◌≢◌, ◌∙◌, ◌+◌, ◌<◌, ◌≤◌, ℕ, Bool, cond, Option, Some, None, List, [], ◌∷◌, ◌++◌, length, take, drop, get_or, sym, ap, subst, arith, length-append, append_assoc, Ok, Err, rules}
use Rattle.std.specs.List.{All}
use Rattle.std.proofs.lemmas.List.{drop_more}
use Rattle.std.proofs.lemmas.List.Elements.{All-cons, All-nil}
use Rattle.ee_codec.specs.Words.{IsAddress}
use Rattle.ee_flash.specs.Device.{Device, IsOn}
use Rattle.ee_pages.specs.Meaning.{Map}
use Rattle.ee_pages.specs.LiveOrder.{AreLiveThrough, AreNextLive, last_of}
use Rattle.ee_pages.proofs.Public.{last_below, last_rises}
use Rattle.ee_core.specs.State.{state_of}
use Rattle.ee_settings.proofs.Forgetting.{each_keeps, each_later, each_stays_on, still_next, stops_later}
use Rattle.ee_settings.proofs.Unnamed.{among_more, among_others, among_split, batch, batch_all, batch_through, begins_with, few, live_same, unnamed_to-zero}
use Rattle.ee_settings.specs.Setting.{Schema, is_named}
use Rattle.ee_settings.specs.Tidying.{ForgetsEach, Stops, Tidies, unnamed_among, unnamed_in, unnamed_of, unnamed_to}
use Rattle.ee_settings.specs.declared.fault.TidyFault.{TidyFault}
use Rattle.ee_settings.specs.declared.fault.TidyFault.TheVariants as tidy

-- ---- within a batch

-- those of the first n were forgotten, and the rest are the next live addresses still
pub record InBatch (schema : Schema) (found : List (ℕ × ℕ)) (n forgotten : ℕ)
    (old now : Device) : Type 0 where
  pub on : IsOn now
  pub count : forgotten ≡ length (unnamed_among schema (take n found))
  pub few : forgotten ≤ n
  pub made : ForgetsEach (unnamed_among schema (take n found)) old now
  pub live : (above : ℕ) × AreNextLive (state_of now).map above (drop n found)

module _ (schema : Schema) (found : List (ℕ × ℕ)) (n forgotten : ℕ) (old now : Device)
    (one : ℕ × ℕ) (so_far : InBatch schema found n forgotten old now) (inside : n < length found)
    (here : one ≡ get_or found n one) where
  split : drop n found ≡ one ∷ drop (n + 1) found
  split = drop_more found n one inside ∙ ap (λ (x : ℕ × ℕ). x ∷ drop (n + 1) found) (sym here)

  next : AreNextLive (state_of now).map so_far.live.0 (one ∷ drop (n + 1) found)
  next = subst (AreNextLive (state_of now).map so_far.live.0) split so_far.live.1

  of_one : (b : Bool) (address : ℕ) → one.0 < address
      → All (λ a. a ≢ address) (cond b [] (one.0 ∷ []))
  of_one b address h1 = search (rules, All-nil, All-cons)

  at_most_one : (b : Bool) → length (cond b [] (one.0 ∷ [])) ≤ 1
  at_most_one b = search rules

  pub batch_further : (new : Device) (more : ℕ) → more ≡ length (unnamed_of schema one.0)
      → ForgetsEach (unnamed_of schema one.0) now new
      → InBatch schema found (n + 1) (forgotten + more) old new
  batch_further new more counted made =
      let front = unnamed_among schema (take n found) in
      let longer : unnamed_among schema (take (n + 1) found)
      ≡ front ++ unnamed_of schema one.0 =
      among_more schema found n one inside here in
      let joined = length-append front (unnamed_of schema one.0) in
      let low = at_most_one (is_named schema one.0) in
      let f = so_far.few in
      let k = so_far.count in
      record {
        on = each_stays_on (unnamed_of schema one.0) now new so_far.on made;
        count = rw longer (omega (arith, joined));
        few = omega arith;
        made = subst (λ l. ForgetsEach l old new) (sym longer)
            (each_later front (unnamed_of schema one.0) old now new so_far.made made);
        live = (
          one.0,
          still_next (state_of now).map (state_of new).map one.0 (drop (n + 1) found)
              (λ address high. each_keeps (unnamed_of schema one.0) now new address made
              (of_one (is_named schema one.0) address high)) next.1,
        );
      }

  pub batch_stops : (new : Device) (fault : TidyFault)
      → Stops (unnamed_of schema one.0) now fault new
      → Stops (unnamed_among schema found) old fault new
  batch_stops new fault stops =
      stops_later (unnamed_among schema (take n found)) (unnamed_of schema one.0)
      (unnamed_among schema (drop (n + 1) found)) (unnamed_among schema found) fault old now new
      (among_split schema found n one inside here) so_far.made stops

-- ---- from batch to batch

-- those up to this address were forgotten, and behind it the map is as it was
pub record TidiedTo (schema : Schema) (above forgotten : ℕ) (old now : Device)
    : Type 0 where
  pub on : IsOn now
  pub below : above < 65535
  pub count : forgotten ≡ length (unnamed_to schema (state_of old).map above)
  pub made : ForgetsEach (unnamed_to schema (state_of old).map above) old now
  pub same : (address : ℕ) → above < address
      → (state_of now).map address ≡ (state_of old).map address

pub tidying_begins : (schema : Schema) (now : Device) → IsOn now
    → TidiedTo schema 0 0 now now
tidying_begins schema now on = search (rules, unnamed_to-zero)

module _ (schema : Schema) (above forgotten : ℕ) (old now : Device) (found : List (ℕ × ℕ))
    (so_far : TidiedTo schema above forgotten old now)
    (proper : All (λ (one : ℕ × ℕ). IsAddress one.0) found) where
  abbrev was : Map
  was = (state_of old).map

  abbrev front : List ℕ
  front = unnamed_to schema was above

  here : (through : Option ℕ) → AreLiveThrough (state_of now).map above found through
      → AreLiveThrough was above found through
  here through live =
      live_same (state_of now).map was above found through
      (λ address high. sym (so_far.same address high)) live

  last_low : last_of above found < 65535
  last_low = last_below found above so_far.below proper

  counted : (all : List ℕ) (more : ℕ) → all ≡ front ++ unnamed_among schema found
      → more ≡ length (unnamed_among schema found) → forgotten + more ≡ length all
  counted all more split is = search (rules, length-append, split)

  pub tidied_through : (new : Device) (through more : ℕ) → through < 65535
      → AreLiveThrough (state_of now).map above found (Some through)
      → more ≡ length (unnamed_among schema found)
      → ForgetsEach (unnamed_among schema found) now new
      → TidiedTo schema through (forgotten + more) old new
  tidied_through new through more low live is made =
      let split = batch_through schema was above through found (here (Some through) live) in
      let rises = last_rises (state_of now).map found above live.next in
      let last = live.rest.0 in
      record {
        on = each_stays_on (unnamed_among schema found) now new so_far.on made;
        below = low;
        count = counted (unnamed_to schema was through) more split is;
        made = subst (λ l. ForgetsEach l old new) (sym split)
            (each_later front (unnamed_among schema found) old now new so_far.made made);
        same = λ address high.
            each_keeps (unnamed_among schema found) now new address made
            (among_others schema (state_of now).map above address found live.next (omega arith))
            ∙ so_far.same address (omega arith);
      }

  pub tidied_all : IsOn old → (new : Device) (more : ℕ)
      → AreLiveThrough (state_of now).map above found None
      → more ≡ length (unnamed_among schema found)
      → ForgetsEach (unnamed_among schema found) now new
      → Tidies schema old (Ok (forgotten + more)) new
  tidied_all on new more live is made =
      let split =
      batch_all schema was above found (let low = last_low in omega arith) (here None live)
      in (
        on,
        counted (unnamed_in schema was) more split is,
        subst (λ l. ForgetsEach l old new) (sym split)
            (each_later front (unnamed_among schema found) old now new so_far.made made),
      )

  -- what is behind the batch
  behind : AreNextLive (state_of now).map above found
      → (rest : List ℕ)
      × (unnamed_in schema was ≡ front ++ (unnamed_among schema found ++ rest))
  behind live =
      let low = last_low in
      let before =
      still_next (state_of now).map was above found
      (λ address high. sym (so_far.same address high)) live in
      let more = begins_with schema was (last_of above found) 65534 (omega arith) in (
        more.0,
        more.1 ∙ ap (λ l. l ++ more.0) (batch schema was above found before)
            ∙ append_assoc front (unnamed_among schema found) more.0,
      )

  pub tidying_stops : (new : Device) (fault : TidyFault)
      → AreNextLive (state_of now).map above found
      → Stops (unnamed_among schema found) now fault new → Tidies schema old (Err fault) new
  tidying_stops new tidy.Off live stops = absurd stops
  tidying_stops new tidy.Spent live stops =
      let rest = behind live in
      stops_later front (unnamed_among schema found) rest.0 (unnamed_in schema was) tidy.Spent
      old now new rest.1 so_far.made stops
  tidying_stops new tidy.Cut live stops =
      let rest = behind live in
      stops_later front (unnamed_among schema found) rest.0 (unnamed_in schema was) tidy.Cut old
      now new rest.1 so_far.made stops

  -- the counts stay small
  pub few_so_far : (more : ℕ) → more ≡ length (unnamed_among schema found)
      → AreNextLive (state_of now).map above found → forgotten + more < 65535
  few_so_far more is live =
      let low = last_low in
      let before =
      still_next (state_of now).map was above found
      (λ address high. sym (so_far.same address high)) live in
      let all = unnamed_to schema was (last_of above found) in
      let as_many : forgotten + more ≡ length all =
      counted all more (batch schema was above found before) is in
      let most = few schema was (last_of above found) in
      omega arith
