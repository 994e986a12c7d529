-- What `--json inspect` tells: the findings of `inspect`, as a document.
use Rattle.std.specs.Prelude.{◌≡◌, ℕ, List, [], ◌∷◌, ◌++◌, Some, None, Result, Ok, Err, MatchResult, codes, decimal}
use Rattle.ee_flash.specs.Device.{Device}
use Rattle.ee_pages.specs.Layout.{IsLayout, IsScanFault}
use Rattle.ee_pages.specs.declared.find.Layout.{Layout}
use Rattle.ee_pages.specs.declared.find.ScanFault.{ScanFault}
use Rattle.ee_image_store.specs.Opening.{SpellsDevice}
use Rattle.ee_commands.specs.Json.{array, document, member, quoted}
use Rattle.ee_shell.specs.declared.part.inspecting.Usage.{Usage}
use Rattle.ee_shell.specs.declared.part.inspecting.Telling.TheVariants.{Items}
use Rattle.ee_shell.specs.Part.Inspecting.{all_doubts, all_torn, live_slots, scan_words, usage_in}

-- of a live set: how it is used, the torn words, and the addresses in doubt
abbrev pub live_document : Usage → List ℕ → List ℕ → List ℕ
live_document usage torn doubts =
    document
    (member (codes "scan") (quoted (codes "ok")) ∷ member (codes "set") (decimal usage.set)
    ∷ member (codes "generation") (decimal usage.generation)
    ∷ member (codes "fill") (decimal usage.fill)
    ∷ member (codes "room") (decimal usage.room)
    ∷ member (codes "live") (decimal usage.live)
    ∷ member (codes "pending") (decimal usage.pending)
    ∷ member (codes "superseded") (decimal usage.superseded)
    ∷ member (codes "torn") (decimal usage.torn)
    ∷ member (codes "torn_words") (array torn)
    ∷ member (codes "in_doubt") (array doubts) ∷ [])

-- without one: why, and the torn words
abbrev pub fault_document : ScanFault → List ℕ → List ℕ
fault_document fault torn =
    document
    (member (codes "scan") (quoted (scan_words fault)) ∷ member (codes "torn_words") (array torn)
    ∷ [])

-- the document of a device of which a scan finds this
abbrev pub found_document : Device → Result Layout ScanFault → List ℕ
found_document device (Ok layout) =
    live_document (usage_in device layout) (all_torn Items device (Some layout.side))
    (all_doubts Items (live_slots device layout))
found_document device (Err fault) = fault_document fault (all_torn Items device None)

-- a scan finds a live set or a fault, one of them
pub record AreFindingsIn (device : Device) (document : List ℕ) : Type 0 where
  pub found : Result Layout ScanFault
  pub is_found : MatchResult found (IsLayout device) (IsScanFault device)
  pub document_is : document ≡ found_document device found

-- the document of the image that a text spells
pub record IsInspectedDocument (text document : List ℕ) : Type 0 where
  pub device : Device
  pub spelled : SpellsDevice text device
  pub findings : AreFindingsIn device document

-- ---- for the functions within

-- what stands before the torn words of a live set's document: its slots, and what they are used for
abbrev pub slots_members : Usage → List ℕ
slots_members usage =
    codes ",\"set\":" ++ (decimal usage.set
    ++ (codes ",\"generation\":" ++ (decimal usage.generation
    ++ (codes ",\"fill\":" ++ (decimal usage.fill
    ++ (codes ",\"room\":" ++ decimal usage.room))))))

abbrev pub parts_members : Usage → List ℕ
parts_members usage =
    codes ",\"live\":" ++ (decimal usage.live
    ++ (codes ",\"pending\":" ++ (decimal usage.pending
    ++ (codes ",\"superseded\":" ++ (decimal usage.superseded
    ++ (codes ",\"torn\":" ++ decimal usage.torn))))))
