use Rattle.std.proofs.Common.{rules}
use Rattle.ee_text.proofs.fields.next_field.Goals as goal

pub returns-in-None-clause-last : goal.returns-in-None-clause-last
returns-in-None-clause-last g = search rules fits 100 parts 0
