use Rattle.std.proofs.Common.{rules}
use Rattle.ee_flash.specs.Size.{size_of}
use Rattle.ee_web.specs.Mirror.{mirror_of}
use Rattle.ee_web.proofs.AnsweredCalls.{settled}
use Rattle.ee_web.proofs.exports.make_call.Goals as goal

pub returns : goal.returns
returns c =
    let drafted = c.draft-drafted in
    let settle = c.settle in
    let old = mirror_of c.args.words.now c.args.flags.now c.args.wears.now in
    let new = mirror_of settle.new.words settle.new.flags settle.new.wears in
    settled (size_of c.args.pages c.args.page_words) c.in-Some.shape c.args.request
    c.in-Some-proper.request old new _ drafted.result.listed.now drafted.result.count
    settle.result drafted.result.answer (search rules) (search rules) drafted.ensures.drafts
    (search rules) (search rules) (search rules) settle.ensures.told settle.ensures.refused
    settle.ensures.played settle.ensures.count
