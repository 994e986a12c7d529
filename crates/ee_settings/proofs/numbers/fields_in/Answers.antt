use Rattle.std.proofs.Common.{◌∙◌, sym, rules}
use Rattle.ee_settings.proofs.Trees.{entries_counted, whole_found}
use Rattle.ee_settings.proofs.numbers.fields_in.Goals as goal

pub returns-then-len-ne4-clause-none : goal.returns-then-len-ne4-clause-none
returns-then-len-ne4-clause-none c =
    λ fields h.
    c.if-len-ne4.true (c.len.ensures.len ∙ sym (entries_counted c.args.table.now.entries) ∙ h.four)

pub returns-clause-found : goal.returns-clause-found
returns-clause-found c = record {
  four = entries_counted c.args.table.now.entries ∙ sym c.len.ensures.len ∙ c.if-len-ne4.false;
  address = whole_found _ _ _ (sym c.whole_number.ensures ∙ c.in_ok-address.was) (search rules);
  min = whole_found _ _ _ (sym c.whole_number-2.ensures ∙ c.in_ok-min.was) (search rules);
  max = whole_found _ _ _ (sym c.whole_number-3.ensures ∙ c.in_ok-max.was) (search rules);
  default = whole_found _ _ _ (sym c.whole_number-4.ensures ∙ c.in_ok-default.was) (search rules);
}
