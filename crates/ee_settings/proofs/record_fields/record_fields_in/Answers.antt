use Rattle.std.proofs.Common.{◌∙◌, sym, rules}
use Rattle.ee_settings.proofs.Trees.{entries_counted, text_found, whole_found}
use Rattle.ee_settings.proofs.record_fields.record_fields_in.Goals as goal

pub returns-then-len-ne3-clause-none : goal.returns-then-len-ne3-clause-none
returns-then-len-ne3-clause-none c =
    λ fields h.
    c.if-len-ne3.true (c.len.ensures.len ∙ sym (entries_counted c.args.table.now.entries) ∙ h.three)

pub returns-clause-found : goal.returns-clause-found
returns-clause-found c = record {
  three = entries_counted c.args.table.now.entries ∙ sym c.len.ensures.len ∙ c.if-len-ne3.false;
  kind = c.kind_of-kind.ensures;
  address = whole_found _ _ _ (sym c.whole_number.ensures ∙ c.in_ok-address.was) (search rules);
  size = whole_found _ _ _ (sym c.size_in.ensures ∙ c.in_ok-size.was) (search rules);
  default = text_found _ _ _ (sym c.text_in.ensures) c.in_ok-default.was;
}
