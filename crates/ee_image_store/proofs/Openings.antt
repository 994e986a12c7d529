-- A command finds no store in an image for one cause at most, but for want of memory, and for none
-- where a store is opened.
use Rattle.std.proofs.Common.{◌≡◌, ◌≢◌, ◌⊎◌, ◌∙◌, ℕ, List, inl, inr, refl, sym, ap, rules}
use Rattle.ee_flash.specs.Device.{Device}
use Rattle.ee_interface.specs.Fault.{fault_of_replay}
use Rattle.ee_interface.specs.declared.fault.Fault.{Fault}
use Rattle.ee_interface.specs.declared.fault.Fault.TheVariants.{Memory}
use Rattle.ee_interface.specs.declared.replay_fault.ReplayFault.{ReplayFault}
use Rattle.ee_interface.specs.declared.replay_fault.ReplayFault.TheVariants as replay
use Rattle.ee_image_store.specs.FileFaults.{IsOpeningFault}
use Rattle.ee_image_store.specs.Opening.{HasStore, IsOpenFault, IsStoreText}
use Rattle.ee_image_store.proofs.OneCause.{one_open_fault, store_is_good}

-- want of memory can come while a store is opened
pub no_memory_to_open : (image : List ℕ) → IsOpeningFault image Memory
no_memory_to_open image = record { cause = replay.Memory; applies = tt; fault_is = refl }

pub memory_or_not : (fault : ReplayFault) → (fault ≡ replay.Memory) ⊎ (fault ≢ replay.Memory)
memory_or_not (replay.Image fault) = inr (λ e. cc e)
memory_or_not (replay.Open fault) = inr (λ e. cc e)
memory_or_not (replay.Script n) = inr (λ e. cc e)
memory_or_not replay.Memory = inl refl
memory_or_not replay.Read = inr (λ e. cc e)

pub opening_named : (image : List ℕ) (why : ReplayFault) (fault cause : Fault)
    → IsOpenFault image why → fault ≡ fault_of_replay why → cause ≢ Memory
    → IsOpeningFault image cause → (fault ≡ cause) ⊎ (fault ≡ Memory)
opening_named image why fault cause unopened told some h =
    elim
    (one_open_fault image h.cause why (λ e. some (h.fault_is ∙ ap fault_of_replay e)) h.applies
    unopened) [
      | inl same ↦ inl (told ∙ ap fault_of_replay same ∙ sym h.fault_is)
      | inr none ↦ inr (told ∙ ap fault_of_replay none)
    ]

pub not_opened : (image : List ℕ) (why : ReplayFault) (fault : Fault) → IsOpenFault image why
    → fault ≡ fault_of_replay why → HasStore image → fault ≡ Memory
not_opened image why fault unopened told store = search (rules, memory_or_not, store_is_good)

pub opening_good : (image : List ℕ) (device : Device) (cause : Fault) → IsStoreText image device
    → cause ≢ Memory → IsOpeningFault image cause → ⊥
opening_good image device cause store some h =
    store_is_good image device h.cause store (λ e. some (h.fault_is ∙ ap fault_of_replay e))
    h.applies
