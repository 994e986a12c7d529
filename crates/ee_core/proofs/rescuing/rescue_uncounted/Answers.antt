use Rattle.std.proofs.Common.{◌≡◌, ◌+◌, Some, inl, inr, refl, sym, subst, ◌∙◌}
use Rattle.ee_flash.specs.Device.{Device}
use Rattle.ee_pages.specs.Rescue.{bad_words, rescued_side}
use Rattle.ee_pages.specs.Sets.{other}
use Rattle.ee_core.specs.Rescues.{IsRescued}
use Rattle.ee_core.proofs.Making.{marked_store}
use Rattle.ee_core.proofs.RescuedMaps.{map_has_moved, rescued_state, rescues, values_moved}
use Rattle.ee_core.proofs.Taken.{among_on, cut_taken, goes_on_taken}
use Rattle.ee_core.proofs.rescuing.rescue_uncounted.Goals as goal

pub returns-in-Ok-clause-rescued : goal.returns-in-Ok-clause-rescued
returns-in-Ok-clause-rescued g c =
    let old = g.F.Flash.device c.args.flash in
    let new = g.F.Flash.device c.rescue_set.new.flash in
    let side = c.in-Some.side in
    let generation = c.named_generation-generation.result in
    let is : rescued_side old ≡ Some side = sym c.rescued_side.ensures ∙ c.in-Some.is in
    let ended = c.in-Ok.ensures in
    let done = ended.moves in
    let has = done.moved in
    subst
    (λ (store : Device).
    IsRescued old record { bad_words = bad_words old; live = c.in-Ok.layout.fill } store)
    (sym c.of.ensures) (record {
      side = side;
      generation = generation;
      rescues =
          rescues old side generation is c.named_generation-generation.ensures.generation
          c.named_generation-generation.ensures.proper c.if-generation.false;
      store = marked_store new (other side) (generation + 1) has.live done.marked;
      goes_on = goes_on_taken _ ended.steps.done;
      steps = ended.steps.done;
      state_is = rescued_state old new side generation has;
      map_is = map_has_moved old new side generation has is;
      live_is = has.live.live;
      new_pages = done.new_pages;
      old_pages = done.old_pages;
      wear = done.wear;
      bad_is = refl;
      values_are =
          values_moved old new side generation has is c.in-Ok.layout done.layout_is done.other_set;
    })

pub returns-in-Err-clause-failed : goal.returns-in-Err-clause-failed
returns-in-Err-clause-failed g c =
    let old = g.F.Flash.device c.args.flash in
    let new = g.F.Flash.device c.rescue_set.new.flash in
    let side = c.in-Some.side in
    let generation = c.named_generation-generation.result in
    let is : rescued_side old ≡ Some side = sym c.rescued_side.ensures ∙ c.in-Some.is in
    let ended = c.in-Err.ensures in
    record {
      side = side;
      generation = generation;
      rescues =
          rescues old side generation is c.named_generation-generation.ensures.generation
          c.named_generation-generation.ensures.proper c.if-generation.false;
      cut = cut_taken (among_on c.requires ended.steps.cut);
      steps = among_on c.requires ended.steps.cut;
      words = ended.moves.left c.requires;
      left = elim ended.moves.cut [
        | inl keeps ↦ inl keeps
        | inr has ↦ inr (record {
          legal = (other side, generation + 1, has.live);
          map_is = map_has_moved old new side generation has is;
        })
      ];
    }
