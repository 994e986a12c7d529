use Rattle.std.proofs.Common.{rules}
use Rattle.ee_shell.proofs.dumps.intel_hex.Sparse.{sparse_texts_read_back_lem}
use Rattle.ee_shell.proofs.dumps.intel_hex.laws.sparse_texts_read_back.Goals as goal

pub returns : goal.returns
returns c = search (rules, sparse_texts_read_back_lem)
