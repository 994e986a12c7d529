use Rattle.std.proofs.Common.{◌≡◌, ◌∙◌, ◌++◌, ◌∷◌, [], ◌+◌, ◌≤◌, ◌<◌, length, map, subst, ap, sym, arith, rules, string_bytes}
use Rattle.std.proofs.lemmas.List.{length-append}
use Rattle.std.proofs.lemmas.Result.{err_from_is_err_and}
use Rattle.std.proofs.lemmas.Map.Iter.{iter_end, iter_turn, rest_more, rest_so_far}
use Rattle.std.specs.Map.Iter.{deref_pair}
use Rattle.toml.specs.View.{view}
use Rattle.ee_settings.proofs.Public.{entries_counted, entries_seen, gone_more, seen, split_entries}
use Rattle.ee_shell.proofs.ByNameLemmas.Steps.{as_many, entry_refused, entry_taken}
use Rattle.ee_shell.proofs.ByNameLemmas.Taken.{few_applied, few_taken, taken_keeps}
use Rattle.ee_shell.specs.ByName.Applying.{Applies}
use Rattle.ee_shell.proofs.by_name.applying.take_entries.Goals as goal

pub overflow_add-number : goal.overflow_add-number
overflow_add-number g c =
    let start : c.into_iter-name-iterator.result ≡ c.args.table.now.entries = search rules in
    let turn =
    iter_turn deref_pair c.args.table.now.entries c.loop-name.yielded
    c.into_iter-name-iterator.result c.loop-name.name-iterator c.next.new.self c.next.result
    start c.loop-name.yielded_by (c.in-Some.name, c.in-Some.value) c.in-Some.is
    c.next.ensures.steps in
    let fewer : length c.loop-name.yielded < length c.args.table.now.entries = turn.0 in
    let all : c.len-entries.result ≡ length c.args.table.now.entries = c.len-entries.ensures.len in
    let at = c.loop-name.invariant.number in
    omega arith

pub overflow_add-written : goal.overflow_add-written
overflow_add-written g c =
    let start : c.into_iter-name-iterator.result ≡ c.args.table.now.entries = search rules in
    let turn =
    iter_turn deref_pair c.args.table.now.entries c.loop-name.yielded
    c.into_iter-name-iterator.result c.loop-name.name-iterator c.next.new.self c.next.result
    start c.loop-name.yielded_by (c.in-Some.name, c.in-Some.value) c.in-Some.is
    c.next.ensures.steps in
    let fewer : length c.loop-name.yielded < length c.args.table.now.entries = turn.0 in
    let all : c.len-entries.result ≡ length c.args.table.now.entries = c.len-entries.ensures.len in
    let few : c.loop-name.written ≤ length (map seen (map deref_pair c.loop-name.yielded)) =
    few_applied c.args.schema.now.settings (map seen (map deref_pair c.loop-name.yielded)) _ _
    c.loop-name.written c.loop-name.invariant.taken in
    let gone = as_many c.loop-name.yielded in
    let one : c.in_ok-written.field-0 ≤ 1 =
    few_taken c.args.schema.now.settings _ _ _ c.in_ok-written.field-0 c.in_ok-written.ensures.taken in
    omega arith

pub returns-in_err-written-clause-stopped : goal.returns-in_err-written-clause-stopped
returns-in_err-written-clause-stopped g c =
    let start : c.into_iter-name-iterator.result ≡ c.args.table.now.entries = search rules in
    let so_far =
    rest_so_far deref_pair c.loop-name.yielded c.into_iter-name-iterator.result
    c.loop-name.name-iterator c.loop-name.yielded_by in
    let more =
    rest_more deref_pair c.loop-name.name-iterator c.next.new.self c.next.result
    (c.in-Some.name, c.in-Some.value) c.in-Some.is c.next.ensures.steps in
    let whole : c.args.table.now.entries
    ≡ map deref_pair c.loop-name.yielded ++ (c.in-Some.name.now, c.in-Some.value.now)
    ∷ c.next.new.self =
    sym start ∙ so_far ∙ ap (λ rest. map deref_pair c.loop-name.yielded ++ rest) more in
    let named : c.as_str.result.now ≡ string_bytes c.in-Some.name.now = search rules in
    let at = c.loop-name.invariant.number in
    let gone = as_many c.loop-name.yielded in
    let number : c.loop-name.number + 1
    ≡ length (map seen (map deref_pair c.loop-name.yielded)) + 1 =
    omega arith in
    let p =
    err_from_is_err_and c.from_residual.result c.from_residual.ensures.1 in rw (p.1, p.2)
    (entry_refused c.args.schema.now.settings _ (map seen (map deref_pair c.loop-name.yielded))
    (map seen c.next.new.self) c.as_str.result.now (string_bytes c.in-Some.name.now)
    (view c.in-Some.value.now)
    c.args.store.now c.loop-name.store c.loop-name.written (c.loop-name.number + 1)
    c.in_err-written.field-0.0
    (split_entries c.args.table.now.entries (map deref_pair c.loop-name.yielded) c.next.new.self
    (c.in-Some.name.now, c.in-Some.value.now) whole)
    named number c.loop-name.invariant.taken c.in_err-written.ensures.refused)

pub loop-name-preserved : goal.loop-name-preserved
loop-name-preserved g c =
    let named : c.as_str.result.now ≡ string_bytes c.in-Some.name.now = search rules in
    let at = c.loop-name.invariant.number in
    let grown = length-append c.loop-name.yielded ((c.in-Some.name, c.in-Some.value) ∷ []) in
    let number : c.loop-name.number + 1
    ≡ length (c.loop-name.yielded ++ (c.in-Some.name, c.in-Some.value) ∷ []) =
    omega arith in
    record {
      number = number;
      taken =
          entry_taken c.args.schema.now.settings (map seen (map deref_pair c.loop-name.yielded)) _
          c.as_str.result.now (string_bytes c.in-Some.name.now) (view c.in-Some.value.now)
          c.args.store.now c.loop-name.store c.take_entry.new.store c.loop-name.written
          c.in_ok-written.field-0
          (gone_more c.loop-name.yielded (c.in-Some.name, c.in-Some.value)) named
          c.loop-name.invariant.taken c.in_ok-written.ensures.taken;
      stays_on = (taken_keeps c.args.schema.now.settings c.loop-name.store c.take_entry.new.store _
          c.in_ok-written.field-0 c.loop-name.invariant.stays_on c.in_ok-written.ensures.taken).0;
    }

pub returns-clause-applied : goal.returns-clause-applied
returns-clause-applied g c =
    let start : c.into_iter-name-iterator.result ≡ c.args.table.now.entries = search rules in
    let e =
    iter_end deref_pair c.args.table.now.entries c.loop-name.yielded
    c.into_iter-name-iterator.result c.loop-name.name-iterator c.next.new.self c.next.result
    start c.loop-name.yielded_by c.in-None.is c.next.ensures.steps in
    subst
    (λ entries. Applies c.args.schema.now.settings entries c.args.store.now c.loop-name.written
    c.loop-name.store) (ap (map seen) e.0 ∙ sym (entries_seen c.args.table.now.entries))
    c.loop-name.invariant.taken

pub returns-clause-entries : goal.returns-clause-entries
returns-clause-entries g c =
    c.len-entries.ensures.len ∙ sym (entries_counted c.args.table.now.entries)
