use Rattle.std.proofs.Common.{◌≡◌, ◌⊎◌, List, ℕ, inl, inr, subst}
use Rattle.std.proofs.lemmas.Result.{IfErr-weaker, IfOk-weaker}
use Rattle.ee_settings.specs.Calls.{IsUnknown}
use Rattle.ee_settings.specs.Setting.{RecordSetting, Schema}
use Rattle.ee_interface.specs.declared.fault.Fault.{Fault}
use Rattle.ee_interface.specs.declared.fault.Fault.TheVariants.{Memory, UnknownName}
use Rattle.ee_shell.specs.ByName.Records.{IsNoRecord, IsRecordNamed}
use Rattle.ee_shell.specs.ByName.Settings.{IsUnknownTo}
use Rattle.ee_shell.proofs.by_name.settings.reading_on.Goals as goal

unknown_to : (whole : Schema) (name : List ℕ) (fault : Fault) → IsNoRecord whole.records name
    → (IsUnknown whole.settings name × (fault ≡ UnknownName)) ⊎ (fault ≡ Memory)
    → (IsUnknownTo whole name × (fault ≡ UnknownName)) ⊎ (fault ≡ Memory)
unknown_to whole name fault none (inl h) = inl ((h.0, none), h.1)
unknown_to whole name fault none (inr out) = inr out

pub returns-in-Some-clause-got : goal.returns-in-Some-clause-got
returns-in-Some-clause-got g c = IfOk-weaker c.record_line_on.result _ _
    (λ text read. inr (
      c.in-Some.one.now,
      subst (λ (records : List RecordSetting).
          IsRecordNamed records c.args.name.now c.in-Some.one.now) c.records.ensures
          c.in-Some.ensures.found,
      read,
    ))
    c.record_line_on.ensures.got

pub returns-in-None-clause-fault : goal.returns-in-None-clause-fault
returns-in-None-clause-fault g c = IfErr-weaker c.setting_line_on.result _ _
    (λ fault. unknown_to c.args.schema.now c.args.name.now fault
    (subst (λ (records : List RecordSetting). IsNoRecord records c.args.name.now) c.records.ensures
    c.in-None.ensures.none))
    c.setting_line_on.ensures.fault
