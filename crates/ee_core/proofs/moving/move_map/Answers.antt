use Rattle.std.proofs.Common.{◌≡◌, ap, inl, sym, ◌∙◌}
use Rattle.std.proofs.Math.Path.{fun_ext}
use Rattle.std.proofs.lemmas.Result.{IfOk-from_err, err_from_is_err_and}
use Rattle.ee_pages.proofs.Public.{keeps_side_both}
use Rattle.ee_pages.specs.Sets.{committed_generation}
use Rattle.ee_core.proofs.MapMoves.{commit_cut, fill_cut, is_filled, is_moved, is_opened, open_cut}
use Rattle.ee_core.proofs.MovingFacts.{side_map}
use Rattle.ee_core.specs.CallSteps.{map_in}
use Rattle.ee_core.specs.Puts.{changes_of_puts}
use Rattle.std.proofs.Common.{◌+◌, [], refl, subst}
use Rattle.ee_pages.specs.Meaning.{Map}
use Rattle.ee_pages.specs.Sets.{other as other_of}
use Rattle.ee_core.specs.Picture.{moved_words}
use Rattle.ee_core.specs.StepLists.{steps_to_fill}
use Rattle.ee_flash.specs.Taking.{Completes, StopsAmong}
use Rattle.ee_core.proofs.MovedSteps.{clear_stops, commit_done, commit_stops, fill_stops, open_stops}
use Rattle.ee_core.proofs.Taken.{goes_on_taken, takes_err, takes_ok}
use Rattle.ee_core.proofs.moving.move_map.Goals as goal

pub open_set-requires : goal.open_set-requires
open_set-requires g c =
    record { generation = c.requires.generation; blank = c.in_ok-clear.ensures.clears.blank }

pub commit-requires : goal.commit-requires
commit-requires g c =
    let fills = c.in_ok-filled.ensures.fills in
    let before =
    keeps_side_both (g.F.Flash.device c.args.flash.now) _ _ c.args.layout.now.side
    c.in_ok-clear.ensures.clears.keeps c.in_ok-open_set.ensures.opens.keeps in
    record {
      older =
          λ committed e. c.requires.older committed
          (ap committed_generation (sym (fills.keeps.same_set ∙ before.same_set)) ∙ e);
      generation = c.requires.generation;
      filling = (_, fills.filling);
    }

pub returns-in_err-clear : goal.returns-in_err-clear
returns-in_err-clear g c =
    let cut = c.in_err-clear.ensures in
    record {
      moves =
          rw (err_from_is_err_and c.from_residual.result c.from_residual.ensures.1).1
          (record { left = λ on. inl (cut.clears.partly on); cut = inl cut.clears.keeps });
      behind = IfOk-from_err _ _ c.from_residual.ensures.0;
      steps = takes_err _ c.from_residual.ensures.0
          (clear_stops (g.F.Flash.device c.args.flash.now) c.args.layout.now.side
          c.args.layout.now.generation _ (g.F.Flash.device c.clear.new.flash) cut.steps.cut);
    }

pub returns-in_err-open_set : goal.returns-in_err-open_set
returns-in_err-open_set g c =
    let clears = c.in_ok-clear.ensures in
    let cut = c.in_err-open_set.ensures in
    let failed = c.from_residual-in_err-open_set in
    record {
      moves = rw (err_from_is_err_and failed.result failed.ensures.1).1
          (open_cut (g.F.Flash.device c.args.flash.now) (g.F.Flash.device c.clear.new.flash)
          (g.F.Flash.device c.open_set.new.flash) c.args.layout.now clears.clears _ _
          cut.opens);
      behind = IfOk-from_err _ _ failed.ensures.0;
      steps = takes_err _ failed.ensures.0
          (open_stops (g.F.Flash.device c.args.flash.now) c.args.layout.now.side
          c.args.layout.now.generation _ (g.F.Flash.device c.clear.new.flash) clears.steps.done
          clears.clears.keeps.same_size (g.F.Flash.device c.open_set.new.flash) cut.steps.cut);
    }

pub returns-in_err-filled : goal.returns-in_err-filled
returns-in_err-filled g c =
    let old = g.F.Flash.device c.args.flash.now in
    let cleared = g.F.Flash.device c.clear.new.flash in
    let opened = g.F.Flash.device c.open_set.new.flash in
    let layout = c.args.layout.now in
    let clears = c.in_ok-clear.ensures in
    let opens = c.in_ok-open_set.ensures in
    let cut = c.in_err-filled.ensures in
    let failed = c.from_residual-in_err-filled in
    let before =
    keeps_side_both old cleared opened layout.side clears.clears.keeps opens.opens.keeps in
    let same : map_in layout.side opened ≡ map_in layout.side old =
    fun_ext (side_map old opened layout.side before) in
    record {
      moves = rw (err_from_is_err_and failed.result failed.ensures.1).1
          (fill_cut old opened layout
          (is_opened old cleared opened layout clears.clears opens.opens)
          (g.F.Flash.device c.fill_set.new.flash)
          (changes_of_puts c.args.puts.now c.args.forgets) cut.fills);
      behind = IfOk-from_err _ _ failed.ensures.0;
      steps = takes_err _ failed.ensures.0
          (fill_stops old layout.side layout.generation _ cleared clears.steps.done
          clears.clears.keeps.same_size opened opens.steps.done before.same_size
          (g.F.Flash.device c.fill_set.new.flash)
          (subst
          (λ (map : Map). StopsAmong
          (steps_to_fill opened.size (other_of layout.side) (layout.generation + 1) 0
          (moved_words (changes_of_puts c.args.puts.now c.args.forgets) map)) opened
          (g.F.Flash.device c.fill_set.new.flash)) same
          (cut.fills.steps.stopped [] refl opens.opens.holds)));
    }

pub returns-in_err-commit : goal.returns-in_err-commit
returns-in_err-commit g c =
    let old = g.F.Flash.device c.args.flash.now in
    let cleared = g.F.Flash.device c.clear.new.flash in
    let opened = g.F.Flash.device c.open_set.new.flash in
    let filled = g.F.Flash.device c.fill_set.new.flash in
    let layout = c.args.layout.now in
    let clears = c.in_ok-clear.ensures in
    let opens = c.in_ok-open_set.ensures in
    let fills = c.in_ok-filled.ensures in
    let cut = c.in_err-commit.ensures in
    let failed = c.from_residual-in_err-commit in
    let before =
    keeps_side_both old cleared opened layout.side clears.clears.keeps opens.opens.keeps in
    let same : map_in layout.side opened ≡ map_in layout.side old =
    fun_ext (side_map old opened layout.side before) in
    let holds =
    is_filled old opened layout (is_opened old cleared opened layout clears.clears opens.opens)
    filled (changes_of_puts c.args.puts.now c.args.forgets) _ fills.fills fills.each_once in
    record {
      moves = rw (err_from_is_err_and failed.result failed.ensures.1).1
          (commit_cut old filled (g.F.Flash.device c.commit.new.flash) layout _ _ _ holds
          cut.commits);
      behind = IfOk-from_err _ _ failed.ensures.0;
      steps = takes_err _ failed.ensures.0
          (commit_stops old layout.side layout.generation _ cleared clears.steps.done
          clears.clears.keeps.same_size opened opens.steps.done before.same_size filled
          (subst
          (λ (map : Map). Completes
          (steps_to_fill opened.size (other_of layout.side) (layout.generation + 1) 0
          (moved_words (changes_of_puts c.args.puts.now c.args.forgets) map)) opened filled) same
          (fills.fills.steps.taken [] refl opens.opens.holds))
          (fills.fills.keeps.same_size ∙ before.same_size)
          (g.F.Flash.device c.commit.new.flash) cut.steps.cut);
    }

pub returns : goal.returns
returns g c =
    let old = g.F.Flash.device c.args.flash.now in
    let cleared = g.F.Flash.device c.clear.new.flash in
    let opened = g.F.Flash.device c.open_set.new.flash in
    let filled = g.F.Flash.device c.fill_set.new.flash in
    let new = g.F.Flash.device c.commit.new.flash in
    let layout = c.args.layout.now in
    let clears = c.in_ok-clear.ensures in
    let opens = c.in_ok-open_set.ensures in
    let fills = c.in_ok-filled.ensures in
    let done = c.in_ok-commit.ensures in
    let before =
    keeps_side_both old cleared opened layout.side clears.clears.keeps opens.opens.keeps in
    let same : map_in layout.side opened ≡ map_in layout.side old =
    fun_ext (side_map old opened layout.side before) in
    let holds =
    is_filled old opened layout (is_opened old cleared opened layout clears.clears opens.opens)
    filled (changes_of_puts c.args.puts.now c.args.forgets) _ fills.fills fills.each_once in
    record {
      moves = is_moved old filled new layout _ _ _ holds done.commits;
      behind = rw (goes_on_taken _ done.steps.done).same_size fills.behind;
      steps = takes_ok
          (commit_done old layout.side layout.generation _ cleared clears.steps.done
          clears.clears.keeps.same_size opened opens.steps.done before.same_size filled
          (subst
          (λ (map : Map). Completes
          (steps_to_fill opened.size (other_of layout.side) (layout.generation + 1) 0
          (moved_words (changes_of_puts c.args.puts.now c.args.forgets) map)) opened filled) same
          (fills.fills.steps.taken [] refl opens.opens.holds))
          (fills.fills.keeps.same_size ∙ before.same_size) new done.steps.done);
    }

pub fill_set-requires-clause-opened : goal.fill_set-requires-clause-opened
fill_set-requires-clause-opened g c = c.in_ok-open_set.ensures.opens.opened

pub fill_set-requires-clause-first : goal.fill_set-requires-clause-first
fill_set-requires-clause-first g c = c.requires.first

pub fill_set-requires-clause-over : goal.fill_set-requires-clause-over
fill_set-requires-clause-over g c =
    rw (c.in_ok-open_set.ensures.opens.keeps.same_slots
    ∙ c.in_ok-clear.ensures.clears.keeps.same_slots) c.requires.over

pub fill_set-requires-clause-apart : goal.fill_set-requires-clause-apart
fill_set-requires-clause-apart g c = c.requires.apart

pub fill_set-requires-clause-fits : goal.fill_set-requires-clause-fits
fill_set-requires-clause-fits g c =
    let old = g.F.Flash.device c.args.flash.now in
    let opened = g.F.Flash.device c.open_set.new.flash in
    let side = c.args.layout.now.side in
    let before =
    keeps_side_both old (g.F.Flash.device c.clear.new.flash) opened side
    c.in_ok-clear.ensures.clears.keeps c.in_ok-open_set.ensures.opens.keeps in
    let same : map_in side opened ≡ map_in side old = fun_ext (side_map old opened side before) in
    rw (same, before.same_size) c.requires.fits
