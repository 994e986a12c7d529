use Rattle.std.proofs.Common.{◌<◌, [], sym, arith, subst}
use Rattle.std.specs.List.Sorted.{IsStrictlySortedBy}
use Rattle.ee_settings.specs.Setting.{IsSchema, Schema}
use Rattle.ee_settings.proofs.schema.Schema.empty.Goals as goal

none_is_schema : IsSchema []
unfolding IsStrictlySortedBy
none_is_schema = record {
  names = tt;
  addresses = λ one other has. absurd (let wrong : has.0 < 0 = has.1 in omega arith);
}

pub invariant_of-result : goal.invariant_of-result
invariant_of-result g c = subst (λ (s : Schema). IsSchema s.settings) (sym c.new.ensures) none_is_schema
