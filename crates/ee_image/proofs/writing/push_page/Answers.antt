use Rattle.std.proofs.Common.{◌≡◌, ◌<◌, ◌++◌, ◌∷◌, [], take, ap, ◌∙◌, arith, rules}
use Rattle.ee_text.specs.Line.{IsLonger}
use Rattle.ee_text.proofs.Public.{longer_still, on_err_anyway}
use Rattle.ee_flash.specs.Device.{page_at, wear_at}
use Rattle.ee_image.specs.Text.{page_text}
use Rattle.ee_image.proofs.Growing.{longer, page_ends, page_grows}
use Rattle.ee_image.proofs.writing.push_page.Goals as goal

pub returns-in_err-extend_from_slice-clause-err : goal.returns-in_err-extend_from_slice-clause-err
returns-in_err-extend_from_slice-clause-err g c =
    let device = g.F.Flash.device c.args.flash.now in
    let same : c.extend_from_slice.new.self.items ≡ c.loop-at.out.items = search rules in
    on_err_anyway c.from_residual-in_err-extend_from_slice.result
    (IsLonger c.args.out.now.items c.extend_from_slice.new.self.items)
    (longer c.args.out.now.items c.loop-at.out.items c.extend_from_slice.new.self.items
    (page_text (wear_at device c.args.page) (take c.loop-at.at (page_at device c.args.page)))
    c.loop-at.invariant same)

pub loop-at-preserved : goal.loop-at-preserved
loop-at-preserved g c =
    let device = g.F.Flash.device c.args.flash.now in
    let spaced : c.extend_from_slice.new.self.items ≡ c.loop-at.out.items ++ 32 ∷ [] =
    search rules in
    let within : c.loop-at.at < (g.F.Flash.device c.args.flash.now).size.words = search rules in
    page_grows device c.args.page c.loop-at.at c.args.out.now.items c.loop-at.out.items
    c.extend_from_slice.new.self.items c.push_word.new.out.items c.word.result
    (g.met.F.Flash.formed c.args.flash.now) c.requires within c.loop-at.invariant spaced
    c.word.ensures.value c.in_ok-push_word.ensures.ok

pub returns-in_err-push_word-clause-err : goal.returns-in_err-push_word-clause-err
returns-in_err-push_word-clause-err g c =
    let device = g.F.Flash.device c.args.flash.now in
    let spaced : c.extend_from_slice.new.self.items ≡ c.loop-at.out.items ++ 32 ∷ [] =
    search rules in
    on_err_anyway c.from_residual-in_err-push_word.result
    (IsLonger c.args.out.now.items c.push_word.new.out.items)
    (longer_still c.args.out.now.items c.loop-at.out.items c.push_word.new.out.items
    (page_text (wear_at device c.args.page) (take c.loop-at.at (page_at device c.args.page)))
    c.loop-at.invariant
    (longer c.loop-at.out.items c.extend_from_slice.new.self.items c.push_word.new.out.items
    (32 ∷ []) spaced c.in_err-push_word.ensures.err))

pub returns-in_err-extend_from_slice-2-clause-err
    : goal.returns-in_err-extend_from_slice-2-clause-err
returns-in_err-extend_from_slice-2-clause-err g c =
    let device = g.F.Flash.device c.args.flash.now in
    let same : c.extend_from_slice-2.new.self.items ≡ c.loop-at.out.items = search rules in
    on_err_anyway c.from_residual-in_err-extend_from_slice-2.result
    (IsLonger c.args.out.now.items c.extend_from_slice-2.new.self.items)
    (longer c.args.out.now.items c.loop-at.out.items c.extend_from_slice-2.new.self.items
    (page_text (wear_at device c.args.page) (take c.loop-at.at (page_at device c.args.page)))
    c.loop-at.invariant same)

pub returns-clause-ok : goal.returns-clause-ok
returns-clause-ok g c =
    page_ends (g.F.Flash.device c.args.flash.now) c.args.page c.loop-at.at c.args.out.now.items
    c.loop-at.out.items c.extend_from_slice-2.new.self.items (g.met.F.Flash.formed c.args.flash.now)
    c.requires
    (omega (arith, c.words-at-end.ensures.value ∙ ap (λ s. s.words) c.shape.ensures))
    c.loop-at.invariant c.in_ok-extend_from_slice-2.ensures.items
