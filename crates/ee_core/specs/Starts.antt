-- The call to make whenever a device is switched on: it opens a store, and makes the first one.
use Rattle.std.specs.Prelude.{◌≡◌, ◌≢◌, ◌≤◌, ◌⊎◌, ℕ, true, Some, None, Result, Ok, Err, zero, suc}
use Rattle.std.specs.List.{All}
use Rattle.ee_flash.specs.Device.{Device, IsOn, word_at}
use Rattle.ee_flash.specs.Size.{header_words}
use Rattle.ee_flash.specs.declared.word.Word.TheVariants.{Held}
use Rattle.ee_pages.specs.Layout.{IsLayout, IsScanFault, IsUnformatted}
use Rattle.ee_pages.specs.Legal.{IsLegal}
use Rattle.ee_pages.specs.Page.{is_blank}
use Rattle.ee_pages.specs.Sets.{committed_generation, set_of}
use Rattle.ee_pages.specs.declared.find.Layout.{Layout}
use Rattle.ee_pages.specs.declared.side.Side.{Side}
use Rattle.ee_pages.specs.declared.side.Side.TheVariants.{First}
use Rattle.ee_core.specs.Cuts.{ErasesPartly}
use Rattle.ee_core.specs.Finished.{IsMarked}
use Rattle.ee_core.specs.Points.{with_power_on}
use Rattle.ee_core.specs.Openings.{FormatsPartly, IsCutFormat, IsCutOpening, IsFormatted, Opens, not_blank_pages}
use Rattle.ee_core.specs.State.{Wears, formatted_state, state_of}
use Rattle.ee_core.specs.declared.opening.OpenFault.{OpenFault}
use Rattle.ee_core.specs.declared.opening.OpenFault.TheVariants.{Scan, Cut}

-- no word behind a page's header is held, whatever it would spell: each slot of both
-- sets is erased or torn
abbrev pub HoldsNone : Device → Type 0
HoldsNone device = (page at number : ℕ) → header_words ≤ at → word_at device page at ≢ Held number

-- No set is committed, as a scan says by `Unformatted` or `NoLiveSet`, and no slot of either holds
-- a word: no value was ever stored, or none is left.
pub record IsStartable (device : Device) : Type 0 where
  pub uncommitted : (side : Side) → committed_generation (set_of side device) ≡ None
  pub none_held : HoldsNone device

-- a legal image of a store with nothing in it, as a format leaves it
pub record IsNew (device : Device) : Type 0 where
  pub legal : IsLegal device
  pub state_is : state_of device ≡ formatted_state

-- it can be started, or was
abbrev pub IsStarting : Device → Type 0
IsStarting device = IsStartable device ⊎ IsNew device

-- a startable device is formatted, and every other one is opened
abbrev pub Starts : Device → Device → Type 0
Starts old new = (IsStartable old × IsFormatted old new) ⊎ Opens old new

-- power was cut in the first format: it can be started still, or was
pub record IsCutStart (old new : Device) : Type 0 where
  pub was_startable : IsStartable old
  pub cut : IsCutFormat old new
  pub starting : IsStarting new

-- Why there is no store: the image is neither legal nor startable, and nothing changed; or power
-- was cut, in the first format or in setting a mark.
abbrev pub StartFails : Device → OpenFault → Device → Type 0
StartFails old (Scan fault) new = (¬ IsStartable old) × IsScanFault old fault × (new ≡ old)
StartFails old Cut new = IsCutStart old new ⊎ IsCutOpening old new

-- ---- the format that both make

-- each page that was not blank was erased, once, and no other; a device that can be started stays
-- one
pub record AllErased (old new : Device) : Type 0 where
  pub blank : All (λ page. is_blank page ≡ true) new.image
  pub startable : IsStartable old → IsStartable new
  pub wear : Wears (not_blank_pages old) old new

-- or power was cut in one of these erases
pub record AllErasedPartly (old new : Device) : Type 0 where
  pub partly : IsOn old → ErasesPartly 0 old.image old new
  pub startable : IsStartable old → IsStartable new

-- they end so
abbrev pub ErasesAll : {T E : Type 0} → Result T E → Device → Device → Type 0
ErasesAll (Ok done) old new = AllErased old new
ErasesAll (Err cut) old new = AllErasedPartly old new

-- the device is formatted, and this is its layout
pub record FormatWritten (old new : Device) (layout : Layout) : Type 0 where
  pub layout_is : IsLayout new layout
  pub first : layout.side ≡ First
  pub marked : IsMarked new First
  pub formatted : IsFormatted old new

-- or power was cut on the way: a device that could be started can be still, or was
pub record FormatWrittenPartly (old new : Device) : Type 0 where
  pub words : IsOn old → ErasesPartly 0 old.image old new ⊎ FormatsPartly old new
  pub starting : IsOn old → IsStartable old → IsStarting new

-- the format ends so
abbrev pub WritesFormat : {E : Type 0} → Result Layout E → Device → Device → Type 0
WritesFormat (Ok layout) old new = FormatWritten old new layout
WritesFormat (Err cut) old new = FormatWrittenPartly old new

-- ---- starts, one after another

-- so many starts, one after another, in each of which power was cut and then came back
abbrev pub AreCutStarts : ℕ → Device → Device → Type 0
AreCutStarts zero old new = new ≡ old
AreCutStarts (suc more) old new =
    (between : Device) × StartFails old Cut between × AreCutStarts more (with_power_on between) new

-- what a start of the device may answer: a store with nothing in it, or, where a cut is left, a cut
pub record StartsEmpty (device : Device) : Type 0 where
  pub store : (new : Device) → Starts device new → state_of new ≡ formatted_state
  pub no_fault : (fault : OpenFault) (new : Device) → StartFails device fault new → fault ≡ Cut

-- A device with no word programmed gets an empty store, however often power is cut in
-- starting it: each start that is cut takes one of the cuts that are left, and the one that
-- isn't gives the store.
abbrev pub StartsEnd : Type 0
StartsEnd =
    (starts : ℕ) (old new : Device) → IsUnformatted old → AreCutStarts starts old new
    → StartsEmpty new × ((left : ℕ) → old.cuts_left ≡ Some left → starts ≤ left)
