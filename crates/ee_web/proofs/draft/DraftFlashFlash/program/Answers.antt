use Rattle.std.proofs.lemmas.Grind.{common_steps}
use Rattle.std.proofs.Common.{arith, ◌≡◌, ◌∙◌, ◌<◌, length}
use Rattle.std.proofs.lemmas.List.{length-set}
use Rattle.ee_web.proofs.DraftSteps.{none_cut, program_done, program_taken, program_wear, zero_of_program, zeros_listed}
use Rattle.ee_web.proofs.draft.DraftFlashFlash.program.Goals as goal

pub invariant_of-self-2 : goal.invariant_of-self-2
invariant_of-self-2 g c =
    let draft = c.args.self.now in
    let start = g.K.Lent.start in
    let room : draft.count < length draft.listed.now =
    omega (arith, draft.within, c.if-self.false) in
    let never = none_cut draft.cuts draft.count draft.listed.now room draft.full in
    record {
      fresh = draft.fresh;
      same_size = draft.same_size;
      same_words = draft.same_words;
      words_length = draft.words_length;
      flags_length = draft.flags_length;
      same_list = draft.same_list;
      within =
          omega (
            arith,
            length-set draft.listed.now draft.count
                (record { page = c.args.page; place = c.args.at; value = c.args.value }),
          );
      taken =
          program_taken start draft.listed.now draft.count room draft.fresh c.args.page c.args.at
          c.args.value draft.wear.items draft.cuts draft.on c.requires.page_in_range
          c.requires.place_in_range c.requires.erased c.requires.below_all_ones draft.taken;
      wear_length = draft.wear_length;
      wear_fits = draft.wear_fits;
      cuts_fit = draft.cuts_fit;
      zeros =
          zeros_listed draft.listed.now draft.count
          (record { page = c.args.page; place = c.args.at; value = c.args.value }) room
          (zero_of_program c.args.page c.args.at c.args.value start.size.words
          c.requires.place_in_range draft.fresh.formed.within_limits.few_words) draft.zeros;
      full = λ cut. absurd (cut never);
      further = λ once. absurd (let one : draft.cuts ≡ 1 = once in omega (arith, never));
      whole =
          λ none. let whole = draft.whole none in (
            whole.0
                ∙ program_wear start draft.listed.now draft.count room draft.fresh
                c.args.page c.args.at c.args.value c.requires.place_in_range,
            whole.1,
          );
    }

pub returns-clause-done : goal.returns-clause-done
returns-clause-done g c =
    let draft = c.args.self.now in
    program_done g.K.Lent.start draft.listed.now draft.count
    (omega (arith, draft.within, c.if-self.false)) draft.fresh c.args.page c.args.at
    c.args.value c.requires.place_in_range draft.wear.items draft.cuts draft.on

pub invariant_of-self : goal.invariant_of-self
invariant_of-self g c = grind (arith, common_steps)
