-- How a session takes what a reader gives, a read at a time, and what it comes to.
use Rattle.std.proofs.Common.{◌≡◌, ◌⊎◌, ℕ, ◌+◌, ◌<◌, ◌≤◌, ◌^◌, ◌++◌, List, [], length, inl, inr, refl, sym, ap, subst, arith, length-append, Some, rules}
use Rattle.std.specs.Prelude.{Option}
use Rattle.std.specs.Io.KnownBytes.{Consumes, IsAtEnd, Keeps}
use Rattle.std.proofs.KnownBytes.{Consumes-all, Consumes-kept, Consumes-nil, Consumes-trans}
use Rattle.ee_interface.specs.declared.script.command.Command.{Command}
use Rattle.ee_interface.specs.declared.script.answer.Answer.{Answer}
use Rattle.ee_interface.specs.declared.script.session.ScriptFault.{ScriptFault}
use Rattle.ee_interface.specs.declared.script.session.ScriptFault.TheVariants.{BadLine, Memory}
use Rattle.ee_interface.specs.declared.script.session.StreamFault.{StreamFault}
use Rattle.ee_interface.specs.declared.script.session.StreamFault.TheVariants.{Read, Script}
use Rattle.ee_interface.specs.Script.Script.{IsFirstBadCommandLine}
use Rattle.ee_interface.specs.Script.Session.{EndsScript, Goes, Progress}
use Rattle.ee_interface.specs.Script.Fault.{EndsBadly, IsFault}
use Rattle.ee_interface.specs.Script.Reading.{IsStreamAnswered, IsStreamFault, StopsReading, TakesText}
use Rattle.ee_interface.proofs.ScriptLemmas.Reading.{one_first_bad_line_lem}
use Rattle.ee_interface.proofs.ScriptLemmas.WholeScript.{answered, bad_already, fault_at_end, none_passed, started}
use Rattle.ee_interface.proofs.ScriptLemmas.Steps.{goes_nowhere, goes_on}
use Rattle.ee_interface.proofs.ScriptLemmas.Faults.{fault_later}

-- what was given so far was judged, and it has no more bytes than this
pub record HasTaken {S : Type 0} (step : S → Command → Answer → S → Type 0) (old : Progress S)
    (before now : Option (List ℕ)) (most : ℕ) (held : Progress S) : Type 0 where
  pub text : List ℕ
  pub given : Consumes before now text
  pub few : length text ≤ most
  pub went : Goes step old text held

pub taken_none : {S : Type 0} (step : S → Command → Answer → S → Type 0) (old : Progress S)
    (before : Option (List ℕ)) (most : ℕ)
    → HasTaken step old before before most old
taken_none step old before most = record {
  text = [];
  given = Consumes-nil before;
  few = omega arith;
  went = goes_nowhere step old;
}

-- a read gave more, which was judged
pub taken_more : {S : Type 0} (step : S → Command → Answer → S → Type 0) (old held new : Progress S)
    (before now after : Option (List ℕ)) (most limit : ℕ) (bytes : List ℕ)
    → HasTaken step old before now most held → Consumes now after bytes
    → most + length bytes ≤ limit → Goes step held bytes new
    → HasTaken step old before after limit new
taken_more step old held new before now after most limit bytes taken given few went = record {
  text = taken.text ++ bytes;
  given = Consumes-trans before now after taken.text bytes taken.given given;
  few = omega (arith, taken.few, length-append taken.text bytes);
  went = goes_on step old held new taken.text bytes taken.went went;
}

-- a read gave nothing
pub taken_kept : {S : Type 0} (step : S → Command → Answer → S → Type 0) (old held : Progress S)
    (before now after : Option (List ℕ)) (most limit : ℕ)
    → HasTaken step old before now most held → Keeps now after → most ≤ limit
    → HasTaken step old before after limit held
taken_kept step old held before now after most limit taken kept within =
    search (rules, Consumes-kept)

pub takes : {S : Type 0} (step : S → Command → Answer → S → Type 0) (old held : Progress S)
    (before now : Option (List ℕ)) (most : ℕ)
    → most < 2 ^ 64 → HasTaken step old before now most held → TakesText step old before now held
takes step old held before now most small taken = record {
  text = taken.text;
  given = taken.given;
  countable = omega (arith, taken.few);
  went = taken.went;
}

-- what was read last has a fault
pub stops_at_fault : {S : Type 0} (step : S → Command → Answer → S → Type 0) (old held : Progress S)
    (before now after : Option (List ℕ)) (most : ℕ) (bytes : List ℕ) (fault : ScriptFault)
    → HasTaken step old before now most held → Consumes now after bytes
    → most + length bytes < 2 ^ 64 → IsFault held bytes fault
    → StopsReading step old before after (Script fault)
stops_at_fault step old held before now after most bytes fault taken given small met = (
  taken.text ++ bytes,
  Consumes-trans before now after taken.text bytes taken.given given,
  omega (arith, taken.few, length-append taken.text bytes),
  fault_later step old held taken.text bytes fault taken.went met,
)

-- ---- a whole script

module _ {S : Type 0} (step : S → Command → Answer → S → Type 0) (server : S)
    (before after : Option (List ℕ)) where
  pub stream_answered : (last : Progress S) (new : S) (reported : List ℕ)
      → TakesText step (started server) before after last → IsAtEnd after
      → EndsScript last new reported → IsStreamAnswered step server before after new reported
  stream_answered last new reported taken ended done = search (rules, answered)

  -- a session that stopped
  pub stopped : (fault : StreamFault) → StopsReading step (started server) before after fault
      → IsStreamFault before after fault
  stopped fault h1 = search (rules, bad_already)

  -- or that ended in the middle of a line
  pub ended_badly : (last : Progress S) (fault : ScriptFault)
      → TakesText step (started server) before after last → IsAtEnd after → EndsBadly last fault
      → IsStreamFault before after (Script fault)
  ended_badly last (BadLine n) taken ended badly = record {
    text = taken.text;
    given = taken.given;
    met = inr (
      ended,
      fault_at_end step server taken.text last (BadLine n) taken.countable taken.went badly,
    );
  }
  ended_badly last Memory taken ended badly = absurd badly

-- ---- a bad line is not passed over

pub all_given : (text given : List ℕ) (after : Option (List ℕ)) → Consumes (Some text) after given
    → IsAtEnd after → given ≡ text
all_given text given after taken ended =
    Consumes-all (Some text) after given [] given taken ended refl

some_given : (text given : List ℕ) (after : Option (List ℕ)) → Consumes (Some text) after given
    → (more : List ℕ) × (text ≡ given ++ more)
some_given text given after h1 = search rules

pub stream_has_no_bad_line : {S : Type 0} (step : S → Command → Answer → S → Type 0)
    (server new : S) (before after : Option (List ℕ)) (reported text : List ℕ) (n : ℕ)
    → before ≡ Some text → IsFirstBadCommandLine text n
    → IsStreamAnswered step server before after new reported → ⊥
stream_has_no_bad_line step server new before after reported text n known bad done =
    let same =
    all_given text done.text after
    (subst (λ (b : Option (List ℕ)). Consumes b after done.text) known done.given)
    done.ended in
    none_passed step server new done.text reported n
    (subst (λ l. IsFirstBadCommandLine l n) (sym same) bad) done.answered

pub stream_names : (before after : Option (List ℕ)) (text : List ℕ) (n : ℕ) (fault : StreamFault)
    → before ≡ Some text → IsFirstBadCommandLine text n → IsStreamFault before after fault
    → (fault ≡ Script (BadLine n)) ⊎ (fault ≡ Script Memory) ⊎ (fault ≡ Read)
stream_names before after text n Read known bad is = inr (inr refl)
stream_names before after text n (Script Memory) known bad is = inr (inl refl)
stream_names before after text n (Script (BadLine m)) known bad is =
    let given = subst (λ (b : Option (List ℕ)). Consumes b after is.text) known is.given in
    elim is.met [
      | inl already ↦
          let more = some_given text is.text after given in
          inl
          (ap (λ k. Script (BadLine k))
          (one_first_bad_line_lem text m n
          (subst (λ l. IsFirstBadCommandLine l m) (sym more.1) (already more.0)) bad))
      | inr last ↦
          inl
          (ap (λ k. Script (BadLine k))
          (one_first_bad_line_lem text m n
          (subst (λ l. IsFirstBadCommandLine l m)
          (all_given text is.text after given last.0) last.1) bad))
    ]
