use Rattle.std.proofs.Common.{◌≡◌, ◌≢◌, ◌-◌, ◌∙◌, ℕ, zero, suc, ap, List, Option, None, Some, arith, length, refl}
use Rattle.std.proofs.lemmas.Option.{slice_get_past, slice_get_read}
use Rattle.std.specs.Prelude.{slice_get}
use Rattle.ee_settings.specs.Setting.{Schema, Setting}
use Rattle.ee_settings.specs.Stale.{entry_of}
use Rattle.ee_settings.proofs.schema.Schema.name.Goals as goal

entry_at : (settings all : List Setting) (entry : ℕ) (found : Option Setting) → entry ≢ 0
    → settings ≡ all → slice_get settings (entry - 1) ≡ found → entry_of all entry ≡ found
entry_at settings all zero found counted same is = absurd (counted refl)
entry_at settings all (suc k) found counted same is =
    let e : suc k - 1 ≡ k = omega arith in rw (← same) (rw e at is)

pub returns-in_err-setting-clause-none : goal.returns-in_err-setting-clause-none
returns-in_err-setting-clause-none g c =
    let past =
    slice_get_past c.as_slice.result.now (c.args.entry - 1) c.in_err-setting.ensures.lookup.3 in
    rw c.from_residual.ensures
    (entry_at c.as_slice.result.now c.args.self.now.settings c.args.entry None c.if-entry-eq0.false
    (c.as_slice.ensures ∙ ap (λ (s : Schema). s.settings) c.self.view_is) past)

pub returns-clause-found : goal.returns-clause-found
returns-clause-found g c =
    let setting = c.in_ok-setting.setting.now in
    let settings = c.as_slice.result.now in
    let here =
    slice_get_read settings (length settings) (c.args.entry - 1) setting refl
    c.in_ok-setting.ensures.lookup.3.0 c.in_ok-setting.ensures.lookup.1 in (
      setting,
      entry_at settings c.args.self.now.settings c.args.entry (Some setting) c.if-entry-eq0.false
          (c.as_slice.ensures ∙ ap (λ (s : Schema). s.settings) c.self.view_is) here,
      c.name.ensures.name,
    )
