use Rattle.std.proofs.Common.{◌≡◌, ◌∙◌, ◌++◌, ◌∷◌, [], ◌+◌, ◌<◌, length, map, subst, ap, sym, arith, rules, string_bytes}
use Rattle.std.proofs.lemmas.List.{length-append}
use Rattle.std.proofs.lemmas.Result.{err_from_is_err_and}
use Rattle.std.proofs.lemmas.Map.Iter.{iter_end, iter_turn, rest_more, rest_so_far}
use Rattle.std.specs.Map.Iter.{deref_pair}
use Rattle.toml.specs.View.{view}
use Rattle.ee_settings.proofs.Public.{entries_seen, gone_more, seen, split_entries}
use Rattle.ee_shell.proofs.ByNameLemmas.Steps.{as_many}
use Rattle.ee_shell.proofs.ByNameLemmas.Compared.{entry_compared, entry_fault, no_more_all, still_all}
use Rattle.ee_shell.specs.ByName.Verifying.{AreCompared}
use Rattle.ee_shell.proofs.by_name.verifying.tell_entries.Goals as goal

pub overflow_add-number : goal.overflow_add-number
overflow_add-number g c =
    let start : c.into_iter-name-iterator.result ≡ c.args.table.now.entries = search rules in
    let turn =
    iter_turn deref_pair c.args.table.now.entries c.loop-name.yielded
    c.into_iter-name-iterator.result c.loop-name.name-iterator c.next.new.self c.next.result
    start c.loop-name.yielded_by (c.in-Some.name, c.in-Some.value) c.in-Some.is
    c.next.ensures.steps in
    let fewer : length c.loop-name.yielded < length c.args.table.now.entries = turn.0 in
    let at = c.loop-name.invariant.number in
    omega arith

pub returns-in_err-same-clause-fault : goal.returns-in_err-same-clause-fault
returns-in_err-same-clause-fault g c =
    let start : c.into_iter-name-iterator.result ≡ c.args.table.now.entries = search rules in
    let so_far =
    rest_so_far deref_pair c.loop-name.yielded c.into_iter-name-iterator.result
    c.loop-name.name-iterator c.loop-name.yielded_by in
    let more =
    rest_more deref_pair c.loop-name.name-iterator c.next.new.self c.next.result
    (c.in-Some.name, c.in-Some.value) c.in-Some.is c.next.ensures.steps in
    let whole : c.args.table.now.entries
    ≡ map deref_pair c.loop-name.yielded ++ (c.in-Some.name.now, c.in-Some.value.now)
    ∷ c.next.new.self =
    sym start ∙ so_far ∙ ap (λ rest. map deref_pair c.loop-name.yielded ++ rest) more in
    let named : c.as_str.result.now ≡ string_bytes c.in-Some.name.now = search rules in
    let at = c.loop-name.invariant.number in
    let gone = as_many c.loop-name.yielded in
    let number : c.loop-name.number + 1
    ≡ length (map seen (map deref_pair c.loop-name.yielded)) + 1 =
    omega arith in
    let p =
    err_from_is_err_and c.from_residual.result c.from_residual.ensures.1 in rw (p.1, p.2)
    (entry_fault c.args.schema.now.settings c.args.store.now _ (map seen (map deref_pair c.loop-name.yielded))
    (map seen c.next.new.self) c.as_str.result.now (string_bytes c.in-Some.name.now)
    (view c.in-Some.value.now) (c.loop-name.number + 1) c.loop-name.all_stored
    c.loop-name.text.items c.in_err-same.field-0.0
    (split_entries c.args.table.now.entries (map deref_pair c.loop-name.yielded) c.next.new.self
    (c.in-Some.name.now, c.in-Some.value.now) whole)
    named number c.loop-name.invariant.told c.in_err-same.ensures.fault)

pub loop-name-preserved-then-all_stored : goal.loop-name-preserved-then-all_stored
loop-name-preserved-then-all_stored g c =
    let named : c.as_str.result.now ≡ string_bytes c.in-Some.name.now = search rules in
    let at = c.loop-name.invariant.number in
    let grown = length-append c.loop-name.yielded ((c.in-Some.name, c.in-Some.value) ∷ []) in
    let number : c.loop-name.number + 1
    ≡ length (c.loop-name.yielded ++ (c.in-Some.name, c.in-Some.value) ∷ []) =
    omega arith in
    record {
      number = number;
      told =
          entry_compared c.args.schema.now.settings c.args.store.now
          (map seen (map deref_pair c.loop-name.yielded)) _ c.as_str.result.now
          (string_bytes c.in-Some.name.now) (view c.in-Some.value.now) c.loop-name.all_stored
          c.in_ok-same.same c.in_ok-same.same c.loop-name.text.items
          c.tell_entry.new.out.items
          (gone_more c.loop-name.yielded (c.in-Some.name, c.in-Some.value)) named
          (still_all c.loop-name.all_stored c.in_ok-same.same (search rules))
          c.loop-name.invariant.told c.in_ok-same.ensures.told;
    }

pub loop-name-preserved : goal.loop-name-preserved
loop-name-preserved g c =
    let named : c.as_str.result.now ≡ string_bytes c.in-Some.name.now = search rules in
    let at = c.loop-name.invariant.number in
    let grown = length-append c.loop-name.yielded ((c.in-Some.name, c.in-Some.value) ∷ []) in
    let number : c.loop-name.number + 1
    ≡ length (c.loop-name.yielded ++ (c.in-Some.name, c.in-Some.value) ∷ []) =
    omega arith in
    record {
      number = number;
      told =
          entry_compared c.args.schema.now.settings c.args.store.now
          (map seen (map deref_pair c.loop-name.yielded)) _ c.as_str.result.now
          (string_bytes c.in-Some.name.now) (view c.in-Some.value.now) c.loop-name.all_stored
          c.in_ok-same.same c.loop-name.all_stored c.loop-name.text.items
          c.tell_entry.new.out.items
          (gone_more c.loop-name.yielded (c.in-Some.name, c.in-Some.value)) named
          (no_more_all c.loop-name.all_stored c.in_ok-same.same (search rules))
          c.loop-name.invariant.told c.in_ok-same.ensures.told;
    }

pub returns-clause-told : goal.returns-clause-told
returns-clause-told g c =
    let start : c.into_iter-name-iterator.result ≡ c.args.table.now.entries = search rules in
    let e =
    iter_end deref_pair c.args.table.now.entries c.loop-name.yielded
    c.into_iter-name-iterator.result c.loop-name.name-iterator c.next.new.self c.next.result
    start c.loop-name.yielded_by c.in-None.is c.next.ensures.steps in
    subst
    (λ entries. AreCompared c.args.schema.now.settings c.args.store.now entries c.loop-name.all_stored
    c.loop-name.text.items) (ap (map seen) e.0 ∙ sym (entries_seen c.args.table.now.entries))
    c.loop-name.invariant.told
