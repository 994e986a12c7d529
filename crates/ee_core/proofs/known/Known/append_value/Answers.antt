use Rattle.std.proofs.Common.{refl}
use Rattle.ee_core.proofs.Making.{put_proceeds, store_marked}
use Rattle.ee_core.proofs.known.Known.append_value.Goals as goal

pub returns-in_default-clause-writes : goal.returns-in_default-clause-writes
returns-in_default-clause-writes g c =
    let known = c.requires.known in
    let proceeds =
    put_proceeds (g.F.Flash.device c.args.flash.now) c.args.self.now.layout c.args.address
    c.args.value (known.layout c.requires.on) c.requires.on c.requires.free in
    (proceeds, c.in_default.ensures.new, refl)

pub append-requires-clause-marked : goal.append-requires-clause-marked
append-requires-clause-marked g c =
    let known = c.requires.known in
    store_marked _ _ _ known.store c.requires.on (known.layout c.requires.on).live

pub append-requires-clause-proceeds : goal.append-requires-clause-proceeds
append-requires-clause-proceeds g c =
    put_proceeds (g.F.Flash.device c.args.flash.now) c.args.self.now.layout c.args.address
    c.args.value (c.requires.known.layout c.requires.on) c.requires.on c.requires.free
