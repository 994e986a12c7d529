use Rattle.ee_settings.proofs.TidySteps.{tidy_takes}
use Rattle.ee_settings.proofs.laws.tidy_takes_its_steps.Goals as goal

pub returns : goal.returns
returns c = tidy_takes
