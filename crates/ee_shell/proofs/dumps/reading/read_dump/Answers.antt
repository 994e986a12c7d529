use Rattle.std.proofs.Common.{rules, ◌≡◌, replicate}
use Rattle.ee_flash.specs.Memory.{memory_of}
use Rattle.ee_flash.specs.Size.{page_count}
use Rattle.ee_shell.proofs.DumpsLemmas.Dumps.{have_lengths, read_device}
use Rattle.ee_shell.proofs.dumps.reading.read_dump.Goals as goal

pub returns-clause-read : goal.returns-clause-read
returns-clause-read g c =
    let wear : c.in_ok-wear.wear.items ≡ replicate (page_count c.args.shape) 0 = search rules in
    read_device c.args.form c.args.shape c.args.dump.now c.in_ok-cells.cells c.in_ok-wear.wear.items
    (memory_of c.in-Ok.flash) c.in_ok-cells.ensures.read wear c.in-Ok.ensures.device

pub unreachable-requires : goal.unreachable-requires
unreachable-requires g c =
    let wear : c.in_ok-wear.wear.items ≡ replicate (page_count c.args.shape) 0 = search rules in
    c.in-Err.ensures.fault
    (have_lengths c.args.form c.args.shape c.args.dump.now c.in_ok-cells.cells
    c.in_ok-wear.wear.items c.in_ok-cells.ensures.read wear)
