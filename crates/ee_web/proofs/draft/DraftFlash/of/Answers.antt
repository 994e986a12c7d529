use Rattle.std.proofs.Common.{◌∙◌, ◌≡◌, ◌≤◌, ℕ, true, List, [], length, refl, subst, sym, ap, arith}
use Rattle.std.specs.List.{All}
use Rattle.std.proofs.lemmas.List.Elements.{All-nil}
use Rattle.ee_flash.specs.Device.{Device, all_ones}
use Rattle.ee_flash.specs.Endurance.{CanTakeAll}
use Rattle.ee_flash.specs.Laws.{all_completed}
use Rattle.ee_flash.specs.Step.{Step}
use Rattle.ee_web.specs.Draft.{IsFresh, drafted_device}
use Rattle.ee_web.specs.Listing.{IsZeroIfErase}
use Rattle.ee_web.proofs.DraftSteps.{none_listed}
use Rattle.ee_web.proofs.Mirrors.{fresh_device}
use Rattle.ee_web.proofs.draft.DraftFlash.of.Goals as goal

pub invariant_of-result : goal.invariant_of-result
invariant_of-result g c =
    let mirror = c.requires.mirror in
    let is_start = c.requires.start in
    let none = none_listed c.args.listed.now in
    let wear = c.wear_of.ensures in
    let fresh =
    fresh_device c.args.shape c.args.words.now c.args.flags.now c.args.wears.now mirror
    (λ i. let fits = c.type_inv.words i in omega arith)
    (λ i. let fits = c.type_inv.wears i in omega arith) in
    record {
      fresh = subst IsFresh (sym is_start) fresh;
      same_size = ap (λ (device : Device). device.size) is_start;
      same_words = ap (λ (device : Device). device.image) is_start;
      words_length = mirror.words_length;
      flags_length = mirror.flags_length;
      same_list = c.requires.list;
      within = omega arith;
      taken = subst (λ (steps : List Step). CanTakeAll steps g.K.Lent.start) (sym none) tt;
      wear_length = ap length wear ∙ mirror.wears_length;
      wear_fits =
          subst (λ (counts : List ℕ). All (λ count. count ≤ all_ones) counts) (sym wear)
          fresh.formed.wear_fits;
      cuts_fit = omega arith;
      zeros = All-nil IsZeroIfErase;
      full = λ cut. absurd (cut refl);
      further = λ once. absurd (let never : 0 ≡ 1 = once in omega arith);
      whole =
          λ _. (
            wear ∙ sym (ap (λ (device : Device). device.wear) is_start)
                ∙ sym
                (ap (λ (steps : List Step). (all_completed steps g.K.Lent.start).wear) none),
            refl,
          );
    }

pub returns : goal.returns
returns g c =
    let is_start = c.requires.start in
    let none = none_listed c.args.listed.now in
    ap (λ (steps : List Step). drafted_device g.K.Lent.start steps c.wear_of.result.items 0 true)
    none
    ∙ ap (λ (counts : List ℕ). drafted_device g.K.Lent.start [] counts 0 true) c.wear_of.ensures
    ∙ rw is_start refl
