use Rattle.std.proofs.Common.{rules}
use Rattle.ee_pages.proofs.Commits.{commit_commits}
use Rattle.ee_pages.proofs.laws.commit_commits.Goals as goal

pub returns : goal.returns
returns c = search (rules, commit_commits)
