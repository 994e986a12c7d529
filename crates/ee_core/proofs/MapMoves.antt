-- What a transfer leaves, from what its steps leave.
use Rattle.ee_core.proofs.Words.{◌≡◌, inl, inr, ℕ, ◌+◌, ◌-◌, List, [], length, refl, subst, ap, ◌∙◌, arith, fun_ext, rules}
use Rattle.ee_core.proofs.Sets.{Device, IsFormed, Word, IsCommitted, IsFilling, KeepsSide, IsLayout, Change, changed_by, live_in, fill_of, other, page_of_slot, set_of, slots_of, Layout, Side, keeps_side_both, other_twice}
use Rattle.ee_core.proofs.Calls.{HasMoved, Holds, IsSameSet, Stays, map_in, AddsPartly, IsDrawnPartly, MovesMapPartly, MovesPartly, IsMarked, ShowsCutMarks, ShowsMarks, IsDrawn, blank_picture, filled_set, is_used, moved_words, picture_of, retired_pages, each_forgotten, Wears, not_blank_in}
use Rattle.ee_core.specs.Transfers.{Filled, FilledPartly, IsNewlyOpened, MapMoved, MapMovedPartly, OtherCleared, OtherCommitted, OtherCommittedPartly, OtherOpened, OtherOpenedPartly, SetMoved}
use Rattle.ee_core.proofs.CutMoves.{filled_partly, marked_partly, retires_partly}
use Rattle.ee_core.proofs.Cuts.{drawn_before}
use Rattle.ee_core.proofs.Drawings.{same_drawn}
use Rattle.ee_core.proofs.LiveMarks.{layout_stays}
use Rattle.ee_core.proofs.MovedSets.{all_retired, commits, filled_up}
use Rattle.ee_core.proofs.MovingFacts.{moved_stays, side_map}
use Rattle.ee_core.proofs.Nothing.{all_forgotten, none_live}
use Rattle.ee_core.proofs.Wears.{wears_still}

-- the other set is opened behind the erases
pub record IsOpened (old new : Device) (layout : Layout) : Type 0 where
  pub keeps : KeepsSide old new layout.side
  pub opened : IsNewlyOpened new layout
  pub holds : Holds new (other layout.side) (layout.generation + 1) []
  pub wear : Wears (not_blank_in (other layout.side) old) old new

-- and filled with the map after the changes
pub record IsFilledWith (old new : Device) (layout : Layout) (changes : List Change)
    (words : List Word) (count : ℕ) : Type 0 where
  pub keeps : KeepsSide old new layout.side
  pub filling : IsFilling new (other layout.side) (layout.generation + 1) count
  pub map_is : (address : ℕ)
      → map_in (other layout.side) new address ≡ changed_by changes (map_in layout.side old) address
  pub as_many : count ≡ length words
  pub each_once : count ≡ live_in (changed_by changes (map_in layout.side old))
  pub holds : Holds new (other layout.side) (layout.generation + 1) words
  pub wear : Wears (not_blank_in (other layout.side) old) old new

module _ (old cleared new : Device) (layout : Layout)
    (clears : OtherCleared old cleared layout.side) where
  pub is_opened : OtherOpened cleared new layout → IsOpened old new layout
  is_opened opens = record {
    keeps = keeps_side_both _ _ _ _ clears.keeps opens.keeps;
    opened = opens.opened;
    holds = opens.holds;
    wear = wears_still _ _ _ _ clears.wear opens.wear;
  }

  pub open_cut : (changes : List Change) (words : List Word) → OtherOpenedPartly cleared new layout
      → MapMovedPartly old new layout changes words MovesMapPartly
  open_cut _ words cut =
      let keeps = keeps_side_both _ _ _ _ clears.keeps cut.keeps in
      record {
        left = λ _. inr (record {
          wear = wears_still _ _ _ _ clears.wear cut.wear;
          new_pages =
              subst
              (λ size. IsDrawnPartly (other layout.side) new blank_picture
              (filled_set size (layout.generation + 1) words)) keeps.same_size
              (filled_partly _ new _ _ (cut.begun words));
          live_pages = same_drawn _ _ _ keeps.same_size keeps.same_set;
        });
        cut = inl keeps;
      }

module _ (old opened : Device) (layout : Layout) (opens : IsOpened old opened layout) where
  -- with nothing
  pub nothing_filled : IsFilledWith old opened layout each_forgotten [] 0
  nothing_filled = record {
    keeps = opens.keeps;
    filling = opens.opened.filling;
    map_is = search (rules, all_forgotten);
    as_many = refl;
    each_once = none_live (slots_of (set_of layout.side old));
    holds = opens.holds;
    wear = opens.wear;
  }

  module _ (new : Device) (changes : List Change) where
    same_map : map_in layout.side opened ≡ map_in layout.side old
    same_map = fun_ext (side_map _ _ _ opens.keeps)

    pub is_filled : (count : ℕ) → let map =
        map_in layout.side opened in Filled opened new layout 0 (moved_words changes map)
        (changed_by changes map) count
        → count ≡ live_in (changed_by changes map)
        → IsFilledWith old new layout changes (moved_words changes (map_in layout.side old)) count
    is_filled count filled once =
        let fills =
        subst
        (λ map. Filled opened new layout 0 (moved_words changes map)
        (changed_by changes map) count) same_map filled in
        record {
          keeps = keeps_side_both _ _ _ _ opens.keeps fills.keeps;
          filling = fills.filling;
          map_is = fills.map_is;
          as_many = omega arith;
          each_once = search same_map;
          holds = fills.adds.new_pages [] refl opens.holds;
          wear = wears_still _ _ _ _ opens.wear fills.wear;
        }

    pub fill_cut : FilledPartly opened new layout 0
        (moved_words changes (map_in layout.side opened))
        → MapMovedPartly old new layout changes (moved_words changes (map_in layout.side old))
        MovesMapPartly
    fill_cut cut =
        let keeps = keeps_side_both _ _ _ _ opens.keeps cut.keeps in
        record {
          left = λ _. inr (record {
            wear = wears_still _ _ _ _ opens.wear cut.wear;
            new_pages =
                subst
                (λ size. IsDrawnPartly (other layout.side) new blank_picture
                (filled_set size (layout.generation + 1)
                (moved_words changes (map_in layout.side old)))) keeps.same_size
                (filled_partly _ new _ _
                ((subst
                (λ map. AddsPartly opened new layout.side (layout.generation + 1) 0
                (moved_words changes map)) same_map cut.begun).new_pages [] refl
                opens.holds));
            live_pages = same_drawn _ _ _ keeps.same_size keeps.same_set;
          });
          cut = inl keeps;
        }

module _ (old filled new : Device) (layout : Layout) (changes : List Change) (words : List Word)
    (count : ℕ) (fills : IsFilledWith old filled layout changes words count) where
  has_moved : IsSameSet layout.side filled new
      → IsCommitted filled new (other layout.side) (layout.generation + 1)
      → HasMoved old new layout.side layout.generation changes
  has_moved same committed = record {
    live = committed.live;
    same_size = search rules;
    map_is = search rules;
    fill_is = search rules;
    pending_is = search rules;
  }

  pub is_moved : OtherCommitted filled new layout → MapMoved old new layout changes words count
  is_moved done = record {
    moved = has_moved done.same_set done.committed;
    as_many = fills.as_many;
    each_once = fills.each_once;
    new_pages = search commits;
    live_pages = search (rules, same_drawn);
    wear = wears_still _ _ _ _ fills.wear done.wear;
  }

  pub commit_cut : OtherCommittedPartly filled new layout
      → MapMovedPartly old new layout changes words MovesMapPartly
  commit_cut cut = record {
    left = λ _. inr (record {
      wear = wears_still _ _ _ _ fills.wear cut.wear;
      new_pages =
          subst
          (λ size. IsDrawnPartly (other layout.side) new blank_picture
          (filled_set size (layout.generation + 1) words)) fills.keeps.same_size
          (cut.begun words fills.holds);
      live_pages =
          same_drawn _ _ _ (cut.same_size ∙ fills.keeps.same_size)
          (cut.same_set ∙ fills.keeps.same_set);
    });
    cut = elim cut.cut [
      | inl keeps ↦ inl (keeps_side_both _ _ _ _ fills.keeps keeps)
      | inr committed ↦ inr (has_moved cut.same_set committed)
    ];
  }

-- a cut before the marks of the set that was live
pub map_cut : (old new : Device) (layout : Layout) (changes : List Change) (words : List Word)
    → MapMovedPartly old new layout changes words MovesMapPartly
    → MapMovedPartly old new layout changes words MovesPartly
map_cut _ new _ _ _ partly = record {
  left = λ on. elim (partly.left on) [
    | inl erasing ↦ inl erasing
    | inr moving ↦ inr (record {
      wear = moving.wear;
      new_pages = moving.new_pages;
      old_pages = drawn_before _ new _ _ moving.live_pages;
    })
  ];
  cut = partly.cut;
}

-- the marks behind that
module _ (old mid new : Device) (layout : Layout) (side : Side) (changes : List Change)
    (words : List Word) (count : ℕ) (formed : IsFormed old)
    (moves : MapMoved old mid layout changes words count) (to : side ≡ other layout.side)
    (stays : Stays mid new side (layout.generation + 1)) where
  stays_there : Stays mid new (other layout.side) (layout.generation + 1)
  stays_there = search rules

  fill : fill_of (slots_of (set_of (other layout.side) mid)) ≡ length words
  fill = search rules

  still : HasMoved old new layout.side layout.generation changes
  still = moved_stays _ _ _ _ _ _ moves.moved stays_there

  pub set_moved : (current : ℕ) → let after : Layout =
      record { side = side; generation = layout.generation + 1; fill = count; current = current }
      in IsLayout mid after
      → ShowsMarks mid new side → IsMarked new side → SetMoved old new layout after changes words
  set_moved _ found shows marked =
      let shown = subst (λ set. ShowsMarks mid new set) to shows in
      record {
        moved = still;
        as_many = moves.as_many;
        layout_is = layout_stays _ _ _ found stays;
        other_set = to;
        marked = search rules;
        new_pages = search (rules, filled_up, stays_there, fill);
        old_pages =
            all_retired _ _ _ new formed moves.moved.live.formed moves.moved.same_size
            stays_there.keeps.same_size moves.live_pages
            (subst (λ set. IsDrawn set new (retired_pages (is_used set mid) (picture_of set mid)))
            (other_twice _) shown.old_pages);
        wear = wears_still _ _ _ _ moves.wear stays.same_wear;
      }

  pub mark_cut : ShowsCutMarks mid new side
      → MapMovedPartly old new layout changes words MovesPartly
  mark_cut shows =
      let shown = subst (λ set. ShowsCutMarks mid new set) to shows in
      record {
        left = λ _. inr (record {
          wear = wears_still _ _ _ _ moves.wear stays.same_wear;
          new_pages =
              subst
              (λ size. IsDrawnPartly (other layout.side) new blank_picture
              (filled_set size (layout.generation + 1) words)) moves.moved.same_size
              (marked_partly _ mid new _ _ _ stays_there.keeps.same_size moves.new_pages
              (ap (λ n. page_of_slot mid.size (n - 1)) fill) shown.live_pages);
          old_pages =
              retires_partly _ _ _ new formed moves.moved.live.formed moves.moved.same_size
              stays_there.keeps.same_size moves.live_pages
              (subst
              (λ set. IsDrawnPartly set new (picture_of set mid)
              (retired_pages (is_used set mid) (picture_of set mid))) (other_twice _)
              shown.old_pages);
        });
        cut = inr still;
      }
