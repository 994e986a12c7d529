use Rattle.std.proofs.Common.{◌≡◌, ap, subst, sym}
use Rattle.ee_flash.specs.Memory.{device_of}
use Rattle.ee_flash.specs.declared.memory.MemFlash.{MemFlash}
use Rattle.ee_core.specs.Known.{Knows}
use Rattle.ee_core.specs.declared.known.Known.{Known}
use Rattle.ee_replay.specs.Either.{FitsEither}
use Rattle.ee_replay.specs.declared.either_lookup.EitherLookup.{EitherLookup}
use Rattle.ee_replay.specs.declared.either_lookup.EitherLookup.TheVariants.{Slots}
use Rattle.ee_replay.proofs.desk.Desk.settle.Goals as goal
use Rattle.ee_replay.proofs.desk.Desk.settle.Goals.{then-measures_now, else-measures_now}

-- who looks through the slots knows what was known of the same device
by_slots : {A : Type 0} (old new : MemFlash A) (known : Known (EitherLookup A)) → new ≡ old
    → Knows (FitsEither {A = A}) (device_of old) known
    → Knows (FitsEither {A = A}) (device_of new)
    record { layout = known.layout; lookup = Slots record {} }
by_slots {A} old new known same knows =
    subst (λ (flash : MemFlash A). Knows (FitsEither {A = A}) (device_of flash)
    record { layout = known.layout; lookup = Slots record {} }) (sym same) (record {
      store = knows.store;
      layout = knows.layout;
      fits = λ on. record {};
    })

pub invariant_of-self-2 : goal.invariant_of-self-2
invariant_of-self-2 g c =
    by_slots c.self.inside.flash _ c.self.inside.known (elim c.if-measures_now.branch [
      | then-measures_now w ↦ ap (λ inside. inside.1.0) w.self-inside-is
      | else-measures_now w ↦ ap (λ inside. inside.1.0) w.self-inside-is
    ]) c.self.invariant
