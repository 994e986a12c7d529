use Rattle.std.proofs.Common.{◌∙◌, ap}
use Rattle.toml.specs.View.{table_view}
use Rattle.ee_shell.specs.ByName.Applying.{applied_text}
use Rattle.ee_shell.proofs.ByNameLemmas.Taken.{applied_keeps}
use Rattle.ee_settings.specs.File.{entries_of}
use Rattle.ee_shell.proofs.by_name.applying.apply_left.Goals as goal

-- power stays on in each write
pub text_left-requires : goal.text_left-requires
text_left-requires g c =
    let kept =
    applied_keeps c.args.schema.now.settings (entries_of (table_view c.args.table.now)) c.args.store
    c.take_entries.new.store c.in_ok-counts.counts.written c.requires
    c.in_ok-counts.ensures.applied in
    record { stays_on = kept.0 }

pub returns-clause-applied : goal.returns-clause-applied
returns-clause-applied g c =
    let written = c.in_ok-counts.counts.written in
    record {
      count = written;
      last = c.take_entries.new.store;
      applied = c.in_ok-counts.ensures.applied;
      left = c.in_ok-image.ensures.left;
      line_is = c.in_ok-text.ensures ∙ ap (applied_text written) c.in_ok-counts.ensures.entries;
    }
