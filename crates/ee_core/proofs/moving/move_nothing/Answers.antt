use Rattle.std.proofs.Common.{[], ap, inl, sym, ◌∙◌}
use Rattle.std.proofs.lemmas.Result.{err_from_is_err_and}
use Rattle.ee_pages.specs.Sets.{committed_generation}
use Rattle.ee_core.proofs.MapMoves.{commit_cut, is_moved, is_opened, nothing_filled, open_cut}
use Rattle.ee_core.proofs.MovedSteps.{clear_stops, commit_done, commit_stops, open_stops}
use Rattle.ee_core.proofs.Taken.{completes_none, takes_err, takes_ok}
use Rattle.ee_core.proofs.moving.move_nothing.Goals as goal

pub open_set-requires : goal.open_set-requires
open_set-requires g c =
    record { generation = c.requires.generation; blank = c.in_ok-clear.ensures.clears.blank }

pub commit-requires : goal.commit-requires
commit-requires g c =
    let opens = c.in_ok-open_set.ensures.opens in
    record {
      older =
          λ committed e. c.requires.older committed
          (ap committed_generation
          (sym (opens.keeps.same_set ∙ c.in_ok-clear.ensures.clears.keeps.same_set))
          ∙ e);
      generation = c.requires.generation;
      filling = (_, opens.opened.filling);
    }

pub returns-in_err-clear : goal.returns-in_err-clear
returns-in_err-clear g c =
    let cut = c.in_err-clear.ensures in
    record {
      moves =
          rw (err_from_is_err_and c.from_residual.result c.from_residual.ensures.1).1
          (record { left = λ on. inl (cut.clears.partly on); cut = inl cut.clears.keeps });
      steps = takes_err _ c.from_residual.ensures.0
          (clear_stops (g.F.Flash.device c.args.flash.now) c.args.layout.now.side
          c.args.layout.now.generation [] (g.F.Flash.device c.clear.new.flash) cut.steps.cut);
    }

pub returns-in_err-open_set : goal.returns-in_err-open_set
returns-in_err-open_set g c =
    let clears = c.in_ok-clear.ensures in
    let cut = c.in_err-open_set.ensures in
    let failed = c.from_residual-in_err-open_set in
    record {
      moves = rw (err_from_is_err_and failed.result failed.ensures.1).1
          (open_cut (g.F.Flash.device c.args.flash.now) (g.F.Flash.device c.clear.new.flash)
          (g.F.Flash.device c.open_set.new.flash) c.args.layout.now clears.clears _ _
          cut.opens);
      steps = takes_err _ failed.ensures.0
          (open_stops (g.F.Flash.device c.args.flash.now) c.args.layout.now.side
          c.args.layout.now.generation [] (g.F.Flash.device c.clear.new.flash) clears.steps.done
          clears.clears.keeps.same_size (g.F.Flash.device c.open_set.new.flash) cut.steps.cut);
    }

pub returns-in_err-commit : goal.returns-in_err-commit
returns-in_err-commit g c =
    let old = g.F.Flash.device c.args.flash.now in
    let cleared = g.F.Flash.device c.clear.new.flash in
    let opened = g.F.Flash.device c.open_set.new.flash in
    let layout = c.args.layout.now in
    let clears = c.in_ok-clear.ensures in
    let opens = c.in_ok-open_set.ensures in
    let cut = c.in_err-commit.ensures in
    let failed = c.from_residual-in_err-commit in
    record {
      moves = rw (err_from_is_err_and failed.result failed.ensures.1).1
          (commit_cut old opened (g.F.Flash.device c.commit.new.flash) layout _ _ _
          (nothing_filled old opened layout
          (is_opened old cleared opened layout clears.clears opens.opens)) cut.commits);
      steps = takes_err _ failed.ensures.0
          (commit_stops old layout.side layout.generation [] cleared clears.steps.done
          clears.clears.keeps.same_size opened opens.steps.done
          (opens.opens.keeps.same_size ∙ clears.clears.keeps.same_size) opened
          (completes_none opened)
          (opens.opens.keeps.same_size ∙ clears.clears.keeps.same_size)
          (g.F.Flash.device c.commit.new.flash) cut.steps.cut);
    }

pub returns : goal.returns
returns g c =
    let old = g.F.Flash.device c.args.flash.now in
    let cleared = g.F.Flash.device c.clear.new.flash in
    let opened = g.F.Flash.device c.open_set.new.flash in
    let new = g.F.Flash.device c.commit.new.flash in
    let layout = c.args.layout.now in
    let clears = c.in_ok-clear.ensures in
    let opens = c.in_ok-open_set.ensures in
    let done = c.in_ok-commit.ensures in
    record {
      moves =
          is_moved old opened new layout _ _ _
          (nothing_filled old opened layout
          (is_opened old cleared opened layout clears.clears opens.opens)) done.commits;
      steps = takes_ok
          (commit_done old layout.side layout.generation [] cleared clears.steps.done
          clears.clears.keeps.same_size opened opens.steps.done
          (opens.opens.keeps.same_size ∙ clears.clears.keeps.same_size) opened
          (completes_none opened)
          (opens.opens.keeps.same_size ∙ clears.clears.keeps.same_size) new done.steps.done);
    }
