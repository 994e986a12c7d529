-- The causes that are a command's own, behind those for which no store is opened or the text
-- spells no settings.
use Rattle.std.proofs.Common.{◌≡◌, ◌≢◌, ◌∙◌, ◌⊎◌, List, ℕ, inl, inr, sym}
use Rattle.ee_interface.specs.declared.fault.Fault.{Fault}
use Rattle.ee_interface.specs.declared.fault.Fault.TheVariants.{Memory}
use Rattle.ee_image_store.specs.FileFaults.{IsOpeningFault}
use Rattle.ee_image_store.specs.Opening.{HasStore}
use Rattle.ee_shell.specs.ByName.Applying.{HasSettings}
use Rattle.ee_shell.specs.ByName.Settings.{IsOpenWithSettingsFault, IsSettingsFault}

-- what was told of the opening is told by the command
pub told_first : {Own : Type 0} (image text : List ℕ) (fault : Fault)
    → IsOpenWithSettingsFault image text fault
    → IsOpeningFault image fault ⊎ (HasStore image × IsSettingsFault text fault) ⊎ Own
told_first image text fault (inl h) = inl h
told_first image text fault (inr h) = inr (inl h)

-- and is the cause: the command's own take a store and settings
pub named_first : {Own : Type 0} (image text : List ℕ) (fault cause : Fault)
    → ((other : Fault) → other ≢ Memory → IsOpenWithSettingsFault image text other
    → (fault ≡ other) ⊎ (fault ≡ Memory))
    → (HasStore image → HasSettings text → fault ≡ Memory) → cause ≢ Memory
    → IsOpeningFault image cause ⊎ (HasStore image × IsSettingsFault text cause) ⊎ Own
    → (Own → HasStore image × HasSettings text) → (fault ≡ cause) ⊎ (fault ≡ Memory)
named_first image text fault cause names only some (inl h) takes = names cause some (inl h)
named_first image text fault cause names only some (inr (inl h)) takes = names cause some (inr h)
named_first image text fault cause names only some (inr (inr h)) takes =
    inr (only (takes h).0 (takes h).1)

-- where both were opened only these are left
pub own_left : {Own Answer : Type 0} (image text : List ℕ) (cause : Fault)
    → ((other : Fault) → other ≢ Memory → IsOpenWithSettingsFault image text other → ⊥)
    → cause ≢ Memory
    → IsOpeningFault image cause ⊎ (HasStore image × IsSettingsFault text cause) ⊎ Own
    → (Own → Answer) → Answer
own_left image text cause good some (inl h) own = absurd (good cause some (inl h))
own_left image text cause good some (inr (inl h)) own = absurd (good cause some (inr h))
own_left image text cause good some (inr (inr h)) own = own h

-- of one cause of its own, or want of memory, it tells that cause
pub one_own : {Why : Type 0} (own fault cause : Fault) → (Why × (fault ≡ own)) ⊎ (fault ≡ Memory)
    → cause ≡ own → (fault ≡ cause) ⊎ (fault ≡ Memory)
one_own own fault cause (inl h) is = inl (h.1 ∙ sym is)
one_own own fault cause (inr none) is = inr none
