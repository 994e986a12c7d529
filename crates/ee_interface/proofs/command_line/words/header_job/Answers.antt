use Rattle.std.proofs.Common.{[], ◌∷◌}
use Rattle.ee_interface.specs.CommandLine.Job.{texts_of}
use Rattle.ee_interface.proofs.CommandLineLemmas.Flags.{header_words}
use Rattle.ee_interface.proofs.command_line.words.header_job.Goals as goal

pub returns-in_err-rust-clause-only : goal.returns-in_err-rust-clause-only
returns-in_err-rust-clause-only c = λ row fits spelled.
    let h = header_words (texts_of c.args.words.now) row fits spelled in
    absurd (c.in_err-rust.ensures.only h.0 (h.1 ∷ []) h.2 h.3)
