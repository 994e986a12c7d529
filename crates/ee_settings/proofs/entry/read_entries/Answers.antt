use Rattle.std.proofs.Common.{refl, ◌≡◌, ◌∙◌, ◌++◌, ◌∷◌, ◌+◌, length, map, subst, ap, sym, rules, Err, Ok, string_bytes}
use Rattle.std.proofs.lemmas.Result.{IfOk-from_err, err_from_is_err_and}
use Rattle.std.proofs.lemmas.Map.Iter.{iter_end, rest_more, rest_so_far}
use Rattle.std.specs.Map.Iter.{deref_pair}
use Rattle.toml.specs.View.{view}
use Rattle.ee_settings.proofs.Entries.{fault_named, gives_same, schema_more}
use Rattle.ee_settings.proofs.Trees.{entries_seen, gone_more, seen, split_entries}
use Rattle.ee_settings.proofs.Names.{rising_keys, rising_names}
use Rattle.ee_settings.specs.File.{AreEntriesOf, IsSchemaOf}
use Rattle.ee_settings.specs.Setting.{HaveRisingNames}
use Rattle.ee_settings.proofs.entry.read_entries.Goals as goal

pub returns-in_err-settings : goal.returns-in_err-settings
returns-in_err-settings g c =
    let start : c.into_iter-name-iterator.result ≡ c.args.table.now.entries = search rules in
    let so_far =
    rest_so_far deref_pair c.loop-name.yielded c.into_iter-name-iterator.result
    c.loop-name.name-iterator c.loop-name.yielded_by in
    let more =
    rest_more deref_pair c.loop-name.name-iterator c.next.new.self c.next.result
    (c.in-Some.name, c.in-Some.value) c.in-Some.is c.next.ensures.steps in
    let whole : c.args.table.now.entries
    ≡ map deref_pair c.loop-name.yielded ++ (c.in-Some.name.now, c.in-Some.value.now)
    ∷ c.next.new.self =
    sym start ∙ so_far ∙ ap (λ rest. map deref_pair c.loop-name.yielded ++ rest) more in
    let p = err_from_is_err_and c.from_residual.result c.from_residual.ensures.1 in
    record {
      ok = IfOk-from_err _ _ c.from_residual.ensures.0;
      names = IfOk-from_err _ _ c.from_residual.ensures.0;
      err = rw (p.1, p.2) (fault_named _ _ _ _ _ c.loop-name.settings
          (length c.loop-name.settings.settings + length c.loop-name.settings.records + 1)
          (split_entries c.args.table.now.entries (map deref_pair c.loop-name.yielded)
          c.next.new.self (c.in-Some.name.now, c.in-Some.value.now) whole)
          refl c.loop-name.invariant
          (gives_same (Err c.in_err-settings.field-0.0) c.loop-name.settings
          (length c.loop-name.settings.settings + length c.loop-name.settings.records + 1)
          c.as_str.result.now (string_bytes c.in-Some.name.now) (view c.in-Some.value.now)
          (search rules)
          c.in_err-settings.ensures.err));
      rises = rising_keys c.args.table.now.entries c.iter-name-items.ensures.ordered;
    }

pub loop-name-preserved : goal.loop-name-preserved
loop-name-preserved g c =
    let made = c.in_ok-settings.ensures.ok in
    let gives =
    gives_same (Ok made.0) c.loop-name.settings
    (length c.loop-name.settings.settings + length c.loop-name.settings.records + 1)
    c.as_str.result.now (string_bytes c.in-Some.name.now) (view c.in-Some.value.now)
    (search rules) made.2 in
    let grown =
    schema_more _ c.loop-name.settings (seen (c.in-Some.name.now, c.in-Some.value.now)) made.0
    c.loop-name.invariant gives in
    rw (gone_more c.loop-name.yielded (c.in-Some.name, c.in-Some.value), made.1) grown

pub returns : goal.returns
returns g c =
    let start : c.into_iter-name-iterator.result ≡ c.args.table.now.entries = search rules in
    let e =
    iter_end deref_pair c.args.table.now.entries c.loop-name.yielded
    c.into_iter-name-iterator.result c.loop-name.name-iterator c.next.new.self c.next.result
    start c.loop-name.yielded_by c.in-None.is c.next.ensures.steps in
    record {
      ok = subst (λ entries. IsSchemaOf entries c.loop-name.settings)
          (ap (map seen) e.0 ∙ sym (entries_seen c.args.table.now.entries)) c.loop-name.invariant;
      names =
          let spelled = c.loop-name.invariant in
          subst HaveRisingNames (sym spelled.settings_are)
          (rising_names c.args.table.now.entries spelled.items
          (subst (λ entries. AreEntriesOf (map seen entries) spelled.items) e.0 spelled.each)
          c.iter-name-items.ensures.ordered);
      err = tt;
      rises = rising_keys c.args.table.now.entries c.iter-name-items.ensures.ordered;
    }
