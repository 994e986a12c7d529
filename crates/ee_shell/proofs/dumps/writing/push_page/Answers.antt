use Rattle.std.proofs.Common.{rules, ◌≡◌, ◌++◌, refl, subst, sym, ap, ◌∙◌, arith}
use Rattle.ee_flash.specs.Size.{Size}
use Rattle.ee_shell.specs.Dumps.Dump.{word_bytes}
use Rattle.ee_shell.proofs.DumpsLemmas.Growing.{one_word_more, page_written}
use Rattle.ee_shell.proofs.dumps.writing.push_page.Goals as goal

pub returns-in-Torn-clause-fault : goal.returns-in-Torn-clause-fault
returns-in-Torn-clause-fault g c = (
  refl,
  record {
    torn = sym c.word.ensures.value ∙ c.in-Torn.is;
    none_before = c.loop-at.invariant.none_torn;
  },
)

pub loop-at-preserved : goal.loop-at-preserved
loop-at-preserved g c =
    one_word_more c.args.form (g.F.Flash.device c.args.flash.now) c.args.page c.loop-at.at
    c.args.out.now.items c.loop-at.out.items c.push_word.new.out.items c.word.result
    (g.met.F.Flash.formed c.args.flash.now) c.requires
    (omega (arith, c.words-at-end.ensures.value ∙ ap (λ s. s.words) c.shape-shape.ensures))
    c.loop-at.invariant c.word.ensures.value (search rules)
    (subst
    (λ (size : Size). c.push_word.new.out.items
    ≡ c.loop-at.out.items ++ word_bytes c.args.form size c.word.result)
    c.shape-shape.ensures (search rules))

pub returns-clause-whole : goal.returns-clause-whole
returns-clause-whole g c =
    (page_written c.args.form (g.F.Flash.device c.args.flash.now) c.args.page c.loop-at.at
    c.args.out.now.items c.loop-at.out.items (g.met.F.Flash.formed c.args.flash.now) c.requires
    (omega (arith, c.words-at-end.ensures.value ∙ ap (λ s. s.words) c.shape-shape.ensures))
    c.loop-at.invariant).0

pub returns-clause-written : goal.returns-clause-written
returns-clause-written g c =
    (page_written c.args.form (g.F.Flash.device c.args.flash.now) c.args.page c.loop-at.at
    c.args.out.now.items c.loop-at.out.items (g.met.F.Flash.formed c.args.flash.now) c.requires
    (omega (arith, c.words-at-end.ensures.value ∙ ap (λ s. s.words) c.shape-shape.ensures))
    c.loop-at.invariant).1
