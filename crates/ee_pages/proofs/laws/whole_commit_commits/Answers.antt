use Rattle.std.proofs.Common.{rules}
use Rattle.ee_pages.proofs.Commits.{whole_commit_commits}
use Rattle.ee_pages.proofs.laws.whole_commit_commits.Goals as goal

pub returns : goal.returns
returns c = search (rules, whole_commit_commits)
