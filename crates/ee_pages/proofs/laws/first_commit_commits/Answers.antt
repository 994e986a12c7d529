use Rattle.std.proofs.Common.{rules}
use Rattle.ee_pages.proofs.FirstCommits.{first_commit_commits}
use Rattle.ee_pages.proofs.laws.first_commit_commits.Goals as goal

pub returns : goal.returns
returns c = search (rules, first_commit_commits)
