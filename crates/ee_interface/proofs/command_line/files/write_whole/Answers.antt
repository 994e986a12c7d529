use Rattle.std.proofs.Common.{rules}
use Rattle.ee_interface.proofs.CommandLineLemmas.Streams.{wrote_more}
use Rattle.ee_interface.proofs.command_line.files.write_whole.Goals as goal

pub writing-preserved : goal.writing-preserved
writing-preserved g c = record {
  gone = wrote_more (g.W.Write.contents c.args.writer.now) (g.W.Write.contents c.writing.writer)
      (g.W.Write.contents c.write.new.self)
      c.args.bytes.now c.writing.written c.in-Ok.count c.writing.invariant.gone
      c.in-Ok.ensures.bytes;
  within = search rules;
}
