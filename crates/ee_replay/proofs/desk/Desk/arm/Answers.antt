use Rattle.std.proofs.Common.{ap}
use Rattle.ee_flash.specs.Memory.{Memory, device_of}
use Rattle.ee_replay.specs.Either.{FitsEither}
use Rattle.ee_replay.proofs.Powering.{known_with_fuse}
use Rattle.ee_replay.proofs.desk.Desk.arm.Goals as goal

pub invariant_of-self : goal.invariant_of-self
invariant_of-self g c =
    known_with_fuse FitsEither c.self.inside.known (device_of c.self.inside.flash)
    (device_of c.arm.new.self) c.args.fuse
    (ap (λ (memory : Memory). memory.device) c.arm.ensures) c.self.invariant
