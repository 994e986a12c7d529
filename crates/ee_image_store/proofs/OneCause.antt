-- An image has one cause at most for which no store is opened.
use Rattle.std.proofs.Common.{◌≡◌, ◌≢◌, ◌⊎◌, inl, inr, ℕ, List, None, Some, true, refl, sym, ap, ◌∙◌, subst, rules}
use Rattle.ee_flash.specs.Device.{Device}
use Rattle.ee_pages.specs.Layout.{IsScanFault}
use Rattle.ee_pages.specs.Sets.{live_of, set_of}
use Rattle.ee_pages.proofs.Public.{legal_is_good, one_scan_fault}
use Rattle.ee_pages.specs.declared.find.ScanFault.{ScanFault}
use Rattle.ee_pages.specs.declared.find.ScanFault.TheVariants.{Unformatted, NoLiveSet, TwoLive, Foreign}
use Rattle.ee_pages.specs.declared.side.Side.{Side}
use Rattle.ee_pages.specs.declared.side.Side.TheVariants.{First, Second}
use Rattle.ee_core.specs.State.{state_of}
use Rattle.ee_core.proofs.Public.{state_in_powered}
use Rattle.ee_image.specs.Text.{at_rest}
use Rattle.ee_image.specs.Fault.{IsImageTextFault}
use Rattle.ee_image.specs.declared.fault.ImageFault.{ImageFault}
use Rattle.ee_image.proofs.Public.{one_device_lem, one_fault_lem, texts_are_good_lem}
use Rattle.ee_interface.specs.declared.replay_fault.ReplayFault.{ReplayFault}
use Rattle.ee_interface.specs.declared.replay_fault.ReplayFault.TheVariants.{Image, Open, Script, Memory, Read}
use Rattle.ee_image_store.specs.Opening.{IsOpenFault, IsStoreText, SpellsDevice}

pub same_at_rest : (text : List ℕ) (device other : Device) → SpellsDevice text device
    → SpellsDevice text other → at_rest device ≡ at_rest other
same_at_rest text device other spelled again =
    one_device_lem device other spelled.formed again.formed (sym spelled.text_is ∙ again.text_is)

-- power makes no state
pub same_state : (device other : Device) → at_rest device ≡ at_rest other
    → state_of device ≡ state_of other
same_state device other same =
    sym (state_in_powered 0 (Some 0) (Some None) true device (live_of device)) ∙ ap state_of same
    ∙ state_in_powered 0 (Some 0) (Some None) true other (live_of other)

same_set : (side : Side) (device : Device) → set_of side (at_rest device) ≡ set_of side device
same_set First device = refl
same_set Second device = refl

rested : (device : Device) (fault : ScanFault) → IsScanFault device fault
    → IsScanFault (at_rest device) fault
rested device Unformatted h = h
rested device NoLiveSet h = h
rested device TwoLive h = h
rested device (Foreign page at) h = search (rules, same_set)

unrested : (device : Device) (fault : ScanFault) → IsScanFault (at_rest device) fault
    → IsScanFault device fault
unrested device Unformatted h = h
unrested device NoLiveSet h = h
unrested device TwoLive h = h
unrested device (Foreign page at) h = search (rules, same_set)

-- two devices with one text have the same faults
moved_fault : (text : List ℕ) (device other : Device) (fault : ScanFault) → SpellsDevice text device
    → SpellsDevice text other → IsScanFault device fault → IsScanFault other fault
moved_fault text device other fault spelled again h =
    let same = same_at_rest text device other spelled again in
    unrested other fault (subst (λ d. IsScanFault d fault) same (rested device fault h))

pub is_no_text : (text : List ℕ) (device : Device) (fault : ImageFault) → SpellsDevice text device
    → IsImageTextFault text fault → ⊥
is_no_text text device fault spelled bad =
    texts_are_good_lem device fault spelled.formed
    (subst (λ t. IsImageTextFault t fault) spelled.text_is bad)

-- a text from which a store is opened has no cause against it
pub store_is_good : (text : List ℕ) (device : Device) (cause : ReplayFault)
    → IsStoreText text device → cause ≢ Memory → IsOpenFault text cause → ⊥
store_is_good text device (Image fault) store some bad =
    is_no_text text device fault store.spelled bad
store_is_good text device (Open fault) store some bad =
    legal_is_good device fault store.legal
    (moved_fault text bad.0 device fault bad.1 store.spelled bad.2)
store_is_good text device (Script n) store some bad = bad
store_is_good text device Memory store some bad = some refl
store_is_good text device Read store some bad = bad

pub one_open_fault : (text : List ℕ) (cause fault : ReplayFault) → cause ≢ Memory
    → IsOpenFault text cause → IsOpenFault text fault → (fault ≡ cause) ⊎ (fault ≡ Memory)
one_open_fault text cause Memory some h i = inr refl
one_open_fault text Memory fault some h i = absurd (some refl)
one_open_fault text cause (Script n) some h i = absurd i
one_open_fault text cause Read some h i = absurd i
one_open_fault text (Script n) fault some h i = absurd h
one_open_fault text Read fault some h i = absurd h
one_open_fault text (Image cause) (Image fault) some h i =
    inl (ap Image (one_fault_lem text fault cause i h))
one_open_fault text (Image cause) (Open fault) some h i = absurd (is_no_text text i.0 cause i.1 h)
one_open_fault text (Open cause) (Image fault) some h i = absurd (is_no_text text h.0 fault h.1 i)
one_open_fault text (Open cause) (Open fault) some h i =
    inl (ap Open (one_scan_fault h.0 fault cause (moved_fault text i.0 h.0 fault i.1 h.1 i.2) h.2))
