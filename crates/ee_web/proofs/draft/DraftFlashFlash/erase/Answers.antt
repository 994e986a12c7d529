use Rattle.std.proofs.lemmas.Grind.{common_steps}
use Rattle.std.proofs.Common.{arith, ◌≡◌, ◌+◌, slice_set, ◌∙◌, ◌≤◌, ◌<◌, ℕ, List, length, subst, sym, ap}
use Rattle.std.specs.List.{All}
use Rattle.std.proofs.lemmas.List.{length-set}
use Rattle.std.proofs.lemmas.List.Elements.{All-set}
use Rattle.ee_flash.specs.Device.{all_ones}
use Rattle.ee_web.specs.Listing.{steps_of}
use Rattle.ee_web.specs.Draft.{drafted_device}
use Rattle.ee_web.proofs.DraftSteps.{cut_erase_wears, none_cut, erase_done, erase_taken, erase_wear, worn_items, zeros_listed}
use Rattle.ee_web.proofs.draft.DraftFlashFlash.erase.Goals as goal

-- a cut that finds the list full
pub invariant_of-self : goal.invariant_of-self
invariant_of-self g c =
    let draft = c.args.self.now in
    let items = draft.wear.items in
    let worn =
    worn_items items c.deref_mut.result.now c.deref.result.now c.args.page
    c.saturating_add-worn.result c.deref_mut.ensures.value c.deref.ensures.0
    c.saturating_add-worn.ensures in
    record {
      fresh = draft.fresh;
      same_size = draft.same_size;
      same_words = draft.same_words;
      words_length = draft.words_length;
      flags_length = draft.flags_length;
      same_list = draft.same_list;
      within = draft.within;
      taken = draft.taken;
      zeros = draft.zeros;
      wear_length = ap length worn ∙ length-set items c.args.page _ ∙ draft.wear_length;
      wear_fits =
          subst (λ (counts : List ℕ). All (λ count. count ≤ all_ones) counts) (sym worn)
          (All-set (λ count. count ≤ all_ones) items c.args.page _ (omega arith)
          draft.wear_fits);
      cuts_fit = omega arith;
      full = λ cut. c.if-self.true;
      whole =
          λ none. absurd
          (let never : c.saturating_add-self.result ≡ 0 = none in
          omega (arith, c.saturating_add-self.ensures));
      further = λ once.
          let never : draft.cuts ≡ 0 =
          let one : c.saturating_add-self.result ≡ 1 = once in
          omega (arith, c.saturating_add-self.ensures) in
          ∣ cut_erase_wears g.K.Lent.start (steps_of draft.count draft.listed.now) c.args.page items
          _ c.requires (draft.whole never).0 worn ∣₁;
    }

pub invariant_of-self-2 : goal.invariant_of-self-2
invariant_of-self-2 g c =
    let draft = c.args.self.now in
    let start = g.K.Lent.start in
    let room : draft.count < length draft.listed.now =
    omega (arith, draft.within, c.if-self.false) in
    let items = draft.wear.items in
    let worn =
    worn_items items c.deref_mut-2.result.now c.deref.result.now c.args.page
    c.saturating_add-worn.result c.deref_mut-2.ensures.value c.deref.ensures.0
    c.saturating_add-worn.ensures in
    let step = c.erase-step.result in
    let is = c.erase-step.ensures.erases in
    let never = none_cut draft.cuts draft.count draft.listed.now room draft.full in
    record {
      fresh = draft.fresh;
      same_size = draft.same_size;
      same_words = draft.same_words;
      words_length = draft.words_length;
      flags_length = draft.flags_length;
      same_list = draft.same_list;
      within = omega (arith, length-set draft.listed.now draft.count step);
      taken =
          erase_taken start draft.listed.now draft.count room draft.fresh c.args.page step is
          c.requires draft.taken;
      wear_length = ap length worn ∙ length-set items c.args.page _ ∙ draft.wear_length;
      wear_fits =
          subst (λ (counts : List ℕ). All (λ count. count ≤ all_ones) counts) (sym worn)
          (All-set (λ count. count ≤ all_ones) items c.args.page _ (omega arith)
          draft.wear_fits);
      cuts_fit = draft.cuts_fit;
      zeros =
          zeros_listed draft.listed.now draft.count step room c.erase-step.ensures.zero draft.zeros;
      full = λ cut. absurd (cut never);
      further = λ once. absurd (let one : draft.cuts ≡ 1 = once in omega (arith, never));
      whole =
          λ none. let whole = draft.whole none in (
            worn
                ∙ erase_wear start draft.listed.now draft.count room draft.fresh
                c.args.page step is items whole.0,
            whole.1,
          );
    }

pub returns-clause-done : goal.returns-clause-done
returns-clause-done g c =
    let draft = c.args.self.now in
    let start = g.K.Lent.start in
    let room : draft.count < length draft.listed.now =
    omega (arith, draft.within, c.if-self.false) in
    let items = draft.wear.items in
    let worn =
    worn_items items c.deref_mut-2.result.now c.deref.result.now c.args.page
    c.saturating_add-worn.result c.deref_mut-2.ensures.value c.deref.ensures.0
    c.saturating_add-worn.ensures in
    let step = c.erase-step.result in
    let is = c.erase-step.ensures.erases in
    ap
    (λ (counts : List ℕ). drafted_device start
    (steps_of (draft.count + 1) (slice_set draft.listed.now draft.count step)) counts
    draft.cuts draft.on) worn
    ∙ erase_done start draft.listed.now draft.count room draft.fresh c.args.page step is items
    draft.cuts draft.on

pub returns-then-self-clause-cut : goal.returns-then-self-clause-cut
returns-then-self-clause-cut g c = grind (arith, common_steps)
