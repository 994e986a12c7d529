use Rattle.std.proofs.Common.{◌≡◌, ◌≢◌, ◌<◌, ◌≤◌, inl, inr, ℕ, ap, arith, refl, subst}
use Rattle.std.proofs.lemmas.Bool.{cases_lt}
use Rattle.ee_flash.specs.Device.{word_at}
use Rattle.ee_flash.specs.Size.{page_count}
use Rattle.ee_flash.specs.declared.word.Word.TheVariants.{Held}
use Rattle.ee_core.proofs.Startable.{past_device, past_end}
use Rattle.ee_core.proofs.first_start.holds_none.Goals as goal

pub loop-page-preserved : goal.loop-page-preserved
loop-page-preserved g c =
    let device = g.F.Flash.device c.args.flash.now in
    let page = c.loop-page.page in
    let formed = g.met.F.Flash.formed c.args.flash.now in
    let in_range : page < page_count device.size =
    omega (
      arith,
      c.pages-page-end.ensures.value,
      ap (λ size. size.pages) c.shape.ensures,
      c.loop-page-test.true,
    ) in
    let none : (at number : ℕ) → 4 ≤ at → word_at device page at ≢ Held number =
    λ at number behind. elim (cases_lt at device.size.words) [
      | inl within ↦ c.if-page_holds.ensures.no refl at number behind within
      | inr past ↦ past_end device page at number formed in_range (omega arith)
    ] in
    λ k at number h behind. elim (cases_lt k page) [
      | inl earlier ↦ c.loop-page.invariant k at number earlier behind
      | inr last ↦ let e : page ≡ k =
          omega arith in subst (λ n. word_at device n at ≢ Held number) e (none at number behind)
    ]

pub returns-clause-yes : goal.returns-clause-yes
returns-clause-yes g c = λ is page at number behind. elim (cases_lt page c.loop-page.page) [
  | inl below ↦ c.loop-page.invariant page at number below behind
  | inr past ↦ past_device (g.F.Flash.device c.args.flash.now) page at number
      (g.met.F.Flash.formed c.args.flash.now)
      (omega (
        arith,
        past,
        c.loop-page-test.false,
        c.pages-page-end.ensures.value,
        ap (λ size. size.pages) c.shape.ensures,
      ))
]
