use Rattle.ee_shell.proofs.by_name.applying.write_on.Goals as goal

pub returns-in-Err-Full-clause-written : goal.returns-in-Err-Full-clause-written
returns-in-Err-Full-clause-written g c = search parts 0
