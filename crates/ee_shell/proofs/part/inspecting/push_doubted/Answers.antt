use Rattle.ee_image_store.proofs.Public.{told_more, told_none}
use Rattle.ee_shell.proofs.PartLemmas.Inspections.{none_doubted}
use Rattle.ee_shell.proofs.part.inspecting.push_doubted.Goals as goal

pub addresses-init : goal.addresses-init
addresses-init g c = told_none _ c.args.out.now.items

pub addresses-preserved : goal.addresses-preserved
addresses-preserved g c =
    told_more c.addresses.address _ c.args.out.now.items c.addresses.out.items
    c.push_if_doubted.new.out.items
    c.addresses.invariant c.in_ok-push_if_doubted.ensures

pub returns-then-torn-eq0 : goal.returns-then-torn-eq0
returns-then-torn-eq0 g c =
    none_doubted c.args.telling c.args.spoken.now c.args.torn c.args.out.now.items c.if-torn-eq0.true
