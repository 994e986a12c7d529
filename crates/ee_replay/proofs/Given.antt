-- What comes of a script that a reader gives.
use Rattle.std.proofs.Common.{◌≡◌, ◌⊎◌, ◌∙◌, ℕ, List, ap, inl, inr, subst, sym, Some, rules}
use Rattle.std.specs.Prelude.{Option}
use Rattle.std.specs.Io.KnownBytes.{Consumes}
use Rattle.ee_interface.specs.Script.Script.{IsFirstBadCommandLine}
use Rattle.ee_interface.specs.declared.script.session.ScriptFault.TheVariants as script
use Rattle.ee_interface.specs.declared.script.session.StreamFault.TheVariants as stream
use Rattle.ee_interface.proofs.ScriptLemmas.Public.{scripts_are_good_lem, all_given, stream_names}
use Rattle.ee_interface.specs.ReplayFault.{of_stream}
use Rattle.ee_interface.specs.declared.replay_fault.ReplayFault.{ReplayFault}
use Rattle.ee_interface.specs.declared.replay_fault.ReplayFault.TheVariants.{Script, Memory, Read}
use Rattle.ee_replay.specs.Reading.{IsGiven, IsNotAnswered}
use Rattle.ee_image_store.specs.Opening.{HasStore, IsOpenFault}
use Rattle.ee_replay.specs.Replaying.{IsReplayed}
use Rattle.ee_replay.proofs.OneReplayCause.{memory_or}
use Rattle.ee_image_store.proofs.Public.{store_is_good}

-- where there is a store, only want of memory keeps it from being opened
pub only_memory : (image : List ℕ) (fault : ReplayFault) → HasStore image → IsOpenFault image fault
    → fault ≡ Memory
only_memory image fault store bad = search (rules, memory_or, store_is_good)

-- want of memory, once a text was given
pub out_of_memory : (before after : Option (List ℕ)) (text : List ℕ) (fault : ReplayFault)
    → Consumes before after text → fault ≡ Memory → IsNotAnswered before after fault
out_of_memory before after text fault given none =
    (stream.Script script.Memory, record { text = text; given = given; met = tt }, none)

-- a bad line is named, but where a read failed or memory ran out
pub named_of_stream : (before after : Option (List ℕ)) (text : List ℕ) (n : ℕ) (fault : ReplayFault)
    → before ≡ Some text → IsFirstBadCommandLine text n → IsNotAnswered before after fault
    → (fault ≡ Script n) ⊎ (fault ≡ Memory) ⊎ (fault ≡ Read)
named_of_stream before after text n fault known bad why =
    elim (stream_names before after text n why.0 known bad why.1) [
      | inl same ↦ inl (why.2 ∙ ap of_stream same)
      | inr (inl none) ↦ inr (inl (why.2 ∙ ap of_stream none))
      | inr (inr failed) ↦ inr (inr (why.2 ∙ ap of_stream failed))
    ]

-- and a text that was replayed has none
pub given_is_good : (before after : Option (List ℕ)) (image text given new_image reported : List ℕ)
    (n : ℕ)
    → before ≡ Some text → IsFirstBadCommandLine text n → IsGiven before after given
    → IsReplayed image given new_image reported → ⊥
given_is_good before after image text given new_image reported n known bad whole replayed =
    let same =
    all_given text given after
    (subst (λ (b : Option (List ℕ)). Consumes b after given) known whole.given)
    whole.ended in
    scripts_are_good_lem given replayed.run.report.commands n replayed.run.report.is_script
    (subst (λ l. IsFirstBadCommandLine l n) (sym same) bad)
