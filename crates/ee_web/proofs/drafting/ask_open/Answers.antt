use Rattle.std.proofs.Common.{rules}
use Rattle.ee_web.proofs.drafting.ask_open.Goals as goal

pub returns-in-Err-Full-clause-answers : goal.returns-in-Err-Full-clause-answers
returns-in-Err-Full-clause-answers g c = search rules fits 100 parts 0
