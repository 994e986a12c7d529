use Rattle.std.proofs.Common.{[], ◌≡◌, ◌+◌, ◌-◌, ◌*◌, ◌≤◌, ap, arith, drop, length, refl, subst, sym, take, ◌∙◌}
use Rattle.ee_flash.specs.Runs.{AreReadings, words_from}
use Rattle.ee_flash.specs.Size.{Size}
use Rattle.ee_pages.specs.Loading.{told}
use Rattle.ee_pages.specs.Sets.{set_of, slots_of}
use Rattle.ee_pages.proofs.ToldLists.{run_told, told_none}
use Rattle.ee_pages.proofs.loading.tell_page.Goals as goal

pub runs-init : goal.runs-init
runs-init g c =
    let formed = g.met.F.Flash.formed c.args.flash.now in
    record {
      so_far = sym (told_none [] c.args.entries.now refl);
      from = omega arith;
      within = omega (arith, formed.within_limits.some_words);
    }

pub runs-preserved : goal.runs-preserved
runs-preserved g c =
    let device = g.F.Flash.device c.args.flash.now in
    let slots = slots_of (set_of c.args.side device) in
    let before = c.args.page * (device.size.words - 4) in
    let here = c.first_page.result + c.args.page in
    let from = c.runs.at - 4 in
    let count = length c.run_from-run.result.now in
    let so_far = c.runs.invariant in
    let run = c.run_from-run.ensures in
    let words : c.words-words.result ≡ device.size.words =
    c.words-words.ensures.value ∙ ap (λ (size : Size). size.words) c.shape.ensures in
    let ends : c.runs.at + count ≤ device.size.words = omega (arith, run.within, words) in
    let at : c.runs.at ≡ 4 + from = omega (arith, so_far.from) in
    let next : from + count ≡ c.runs.at + count - 4 = omega (arith, so_far.from) in
    record {
      so_far =
          subst
          (λ n. c.tell_run.new.entries ≡ told (take n (drop before slots)) c.args.entries.now) next
          (run_told device c.args.side c.args.page here (g.met.F.Flash.formed c.args.flash.now)
          c.requires.page_in_range (ap (λ n. n + c.args.page) c.first_page.ensures) from count
          c.args.entries.now c.runs.entries c.tell_run.new.entries (omega (arith, ends, at))
          so_far.so_far
          (c.tell_run.ensures (words_from device here (4 + from) count)
          (subst
          (λ n. AreReadings (g.F.Flash.reads c.args.flash.now) (words_from device here n count)
          c.run_from-run.result.now) at run.readings)));
      from = omega (arith, so_far.from);
      within = ends;
    }
