use Rattle.std.proofs.Common.{◌≡◌, ◌≢◌, ◌⊎◌, List, ℕ, inl, inr, refl}
use Rattle.ee_text.proofs.Public.{error_passed_on, passed_on}
use Rattle.ee_flash.specs.Device.{Device}
use Rattle.ee_settings.specs.Setting.{Setting}
use Rattle.ee_interface.specs.Fault.{fault_of_replay}
use Rattle.ee_interface.specs.declared.fault.Fault.{Fault}
use Rattle.ee_interface.specs.declared.fault.Fault.TheVariants.{Memory}
use Rattle.ee_interface.specs.declared.replay_fault.ReplayFault.{ReplayFault}
use Rattle.ee_image_store.proofs.Public.{not_opened, opening_good, opening_named}
use Rattle.ee_image_store.specs.Opening.{IsOpenFault, IsOpened}
use Rattle.ee_shell.proofs.ByNameLemmas.Named.{settings_good}
use Rattle.ee_shell.specs.ByName.Settings.{IsOpenWithSettingsFault, IsSettingsFault, SpellsSettings}
use Rattle.ee_shell.proofs.by_name.opening.open_with_settings.Goals as goal

first_unopened : (image text : List ℕ) (why : ReplayFault) (fault cause : Fault)
    → IsOpenFault image why → fault ≡ fault_of_replay why → cause ≢ Memory
    → IsOpenWithSettingsFault image text cause → (fault ≡ cause) ⊎ (fault ≡ Memory)
first_unopened image text why fault cause unopened told some (inl h) =
    opening_named image why fault cause unopened told some h
first_unopened image text why fault cause unopened told some (inr h) =
    inr (not_opened image why fault unopened told h.0)

unspelled : (image text : List ℕ) (store : Device) (fault cause : Fault) → IsOpened image store
    → ((other : Fault) → other ≢ Memory → IsSettingsFault text other
    → (fault ≡ other) ⊎ (fault ≡ Memory))
    → cause ≢ Memory → IsOpenWithSettingsFault image text cause → (fault ≡ cause) ⊎ (fault ≡ Memory)
unspelled image text store fault cause opened names some (inl h) =
    absurd (opening_good image opened.device cause opened.old some h)
unspelled image text store fault cause opened names some (inr h) = names cause some h.1

both_good : (image text : List ℕ) (store : Device) (settings : List Setting) (cause : Fault)
    → IsOpened image store → SpellsSettings text settings → cause ≢ Memory
    → IsOpenWithSettingsFault image text cause → ⊥
both_good image text store settings cause opened spelled some (inl h) =
    opening_good image opened.device cause opened.old some h
both_good image text store settings cause opened spelled some (inr h) =
    settings_good text settings cause spelled some h.1

pub returns-in_err-store-clause-names : goal.returns-in_err-store-clause-names
returns-in_err-store-clause-names g c = λ cause some applies.
    error_passed_on _ _ _ _ c.from_residual.ensures.1
    (first_unopened c.args.image.now c.args.settings.now c.in_err-store.field-0.0 _ cause
    c.in_err-store.ensures.fault refl some applies)

pub returns-in_err-store-clause-only : goal.returns-in_err-store-clause-only
returns-in_err-store-clause-only g c = λ store spelled.
    passed_on _ _ _ c.from_residual.ensures.1
    (not_opened c.args.image.now c.in_err-store.field-0.0 _ c.in_err-store.ensures.fault refl
    store)

pub returns-in_err-schema-clause-fault : goal.returns-in_err-schema-clause-fault
returns-in_err-schema-clause-fault g c =
    let opened = c.in_ok-store.ensures.opened in
    passed_on _ _ _ c.from_residual-in_err-schema.ensures.1
    (inr ((opened.device, opened.old), c.in_err-schema.ensures.fault))

pub returns-in_err-schema-clause-names : goal.returns-in_err-schema-clause-names
returns-in_err-schema-clause-names g c = λ cause some applies.
    error_passed_on _ _ _ _ c.from_residual-in_err-schema.ensures.1
    (unspelled c.args.image.now c.args.settings.now _ c.in_err-schema.field-0.0 cause
    c.in_ok-store.ensures.opened c.in_err-schema.ensures.names some applies)

pub returns-in_err-schema-clause-only : goal.returns-in_err-schema-clause-only
returns-in_err-schema-clause-only g c =
    λ store spelled.
    passed_on _ _ _ c.from_residual-in_err-schema.ensures.1 (c.in_err-schema.ensures.only spelled)

pub returns-clause-names : goal.returns-clause-names
returns-clause-names g c = λ cause some applies.
    both_good c.args.image.now c.args.settings.now c.in_ok-store.store c.in_ok-schema.schema.settings cause
    c.in_ok-store.ensures.opened c.in_ok-schema.ensures.spelled some applies
