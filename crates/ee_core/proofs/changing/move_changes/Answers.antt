use Rattle.std.proofs.Common.{◌+◌}
use Rattle.ee_pages.proofs.Public.{older_live}
use Rattle.ee_pages.specs.Sets.{other}
use Rattle.ee_core.specs.Puts.{changes_of_puts}
use Rattle.ee_core.proofs.AfterCalls.{never_on_ok, not_both}
use Rattle.ee_core.proofs.MadeMoves.{cut_by_move, made_by_move, store_by_cut}
use Rattle.ee_core.proofs.Making.{always_on_err, changes_fit, few_within, generation_left, marked_store}
use Rattle.ee_core.proofs.Taken.{among_on, cut_taken}
use Rattle.ee_core.proofs.changing.move_changes.Goals as goal

pub transfer-requires-clause-older : goal.transfer-requires-clause-older
transfer-requires-clause-older g c =
    older_live c.args.layout.now.side (g.F.Flash.device c.args.flash.now)
    c.args.layout.now.generation c.requires.layout.live.live

pub transfer-requires-clause-generation : goal.transfer-requires-clause-generation
transfer-requires-clause-generation g c =
    generation_left (g.F.Flash.device c.args.flash.now) c.args.layout.now.side
    c.args.layout.now.generation c.requires.layout.live
    (changes_of_puts c.args.puts.now c.args.forgets) c.requires.needed
    c.requires.proceeds.accepted.not_spent

pub transfer-requires-clause-fits : goal.transfer-requires-clause-fits
transfer-requires-clause-fits g c =
    let old = g.F.Flash.device c.args.flash.now in
    let layout = c.args.layout.now in
    changes_fit old layout.side layout.generation c.requires.layout.live
    (few_within old layout.side (g.met.F.Flash.formed c.args.flash.now))
    (changes_of_puts c.args.puts.now c.args.forgets) c.requires.apart
    c.requires.proceeds.accepted

pub returns-in_err-transfer : goal.returns-in_err-transfer
returns-in_err-transfer g c =
    let old = g.F.Flash.device c.args.flash.now in
    let new = g.F.Flash.device c.transfer.new.flash in
    let changes = changes_of_puts c.args.puts.now c.args.forgets in
    let formed = g.met.F.Flash.formed c.transfer.new.flash in
    let ended = c.in_err-transfer.ensures in
    let failed = c.from_residual.ensures.0 in
    record {
      moved = never_on_ok _ _ failed;
      set_moved = never_on_ok _ _ failed;
      cut = always_on_err _
          (cut_by_move old new c.args.layout.now changes c.requires.layout c.requires.proceeds
          c.requires.needed formed ended.moves ended.steps.cut);
      store =
          store_by_cut old new c.args.layout.now changes c.requires.layout c.requires.proceeds
          c.requires.needed formed ended.moves ended.steps.cut;
      layout = λ on. absurd
          (not_both new on (cut_taken (among_on c.requires.proceeds.on ended.steps.cut)).is_off);
    }

pub returns : goal.returns
returns g c =
    let old = g.F.Flash.device c.args.flash.now in
    let new = g.F.Flash.device c.transfer.new.flash in
    let layout = c.args.layout.now in
    let done = c.in_ok-transfer.ensures in
    record {
      moved =
          made_by_move old new layout (changes_of_puts c.args.puts.now c.args.forgets)
          c.requires.layout c.requires.proceeds c.requires.needed _ done.moves done.steps.done;
      set_moved = done.moves;
      cut = tt;
      store =
          marked_store new (other layout.side) (layout.generation + 1) done.moves.moved.live
          done.moves.marked;
      layout = λ _. done.moves.layout_is;
    }
