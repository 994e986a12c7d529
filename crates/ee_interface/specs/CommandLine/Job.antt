-- The commands of the program, and the words that spell them.
use Rattle.std.specs.Prelude.{◌≡◌, ◌≢◌, ◌<◌, ◌≤◌, ◌+◌, ◌%◌, ◌^◌, ◌⊎◌, ℕ, List, [], ◌∷◌, map, codes, decimal}
use Rattle.std.specs.Prelude.{Bool, true, false, Option, Some, None, IfSome, option_map, Ok}
use Rattle.std.specs.Int.{to_be_bytes, w32}
use Rattle.std.specs.Borrow.{Bor}
use Rattle.hex.specs.Hex.{decode_of}
use Rattle.ee_flash.specs.Size.{IsWithinLimits, Size, size_of}
use Rattle.ee_interface.specs.CommandLine.Form.{dump_length}
use Rattle.ee_interface.specs.declared.command_line.form.Form.{Form}
use Rattle.ee_interface.specs.declared.command_line.form.Form.TheVariants.{Words, Pairs, Coded}
use Rattle.ee_interface.specs.declared.command_line.jobs.Job.{Job}
use Rattle.ee_interface.specs.declared.command_line.jobs.Job.TheVariants as job

-- a row of the table of commands, with its size, its paths, the name and the value of a setting
pub data Row : Type 0 where
  Try : Size → Row
  Format : Size → List ℕ → Row
  Import : Form → Size → List ℕ → List ℕ → Row
  Export : Form → List ℕ → List ℕ → Row
  ImportHex : Form → Size → ℕ → List ℕ → List ℕ → Row
  ExportHex : Form → Bool → List ℕ → ℕ → List ℕ → Row
  ImportXcube : Size → List ℕ → List ℕ → Row
  Inspect : List ℕ → Row
  Run : Bool → List ℕ → List ℕ → Row
  Get : List ℕ → List ℕ → List ℕ → Row
  Set : List ℕ → List ℕ → List ℕ → ℕ → Row
  Unset : List ℕ → List ℕ → List ℕ → Row
  Apply : List ℕ → List ℕ → List ℕ → Row
  Verify : List ℕ → List ℕ → List ℕ → Row
  Header : Bool → List ℕ → Row
  Plan : List ℕ → List ℕ → Row
  Check : List ℕ → List ℕ → List ℕ → Row
  Wear : List ℕ → Option (List ℕ) → Row
  States : List ℕ → Row
  Clean : List ℕ → Row
  Rescue : List ℕ → Row
  ForgetAll : Bool → List ℕ → Row
  Stale : List ℕ → List ℕ → Row
  Tidy : List ℕ → List ℕ → Row
  Listing : List ℕ → Option (List ℕ) → Row
  Sizing : ℕ → List ℕ → ℕ → ℕ → Row
  Help : Row
  Version : Row

-- the row of a job: its words as texts
abbrev pub row_of : Job → Row
row_of (job.Try size) = Try size
row_of (job.Format size image) = Format size image.now
row_of (job.Import form size dump image) = Import form size dump.now image.now
row_of (job.Export form image dump) = Export form image.now dump.now
row_of (job.ImportHex form size base dump image) = ImportHex form size base dump.now image.now
row_of (job.ExportHex form fill image base dump) = ExportHex form fill image.now base dump.now
row_of (job.ImportXcube size dump image) = ImportXcube size dump.now image.now
row_of (job.Inspect image) = Inspect image.now
row_of (job.Run indexed image script) = Run indexed image.now script.now
row_of (job.Get image settings name) = Get image.now settings.now name.now
row_of (job.Set image settings name value) = Set image.now settings.now name.now value
row_of (job.Unset image settings name) = Unset image.now settings.now name.now
row_of (job.Apply image settings values) = Apply image.now settings.now values.now
row_of (job.Verify image settings values) = Verify image.now settings.now values.now
row_of (job.Header rust settings) = Header rust settings.now
row_of (job.Plan image script) = Plan image.now script.now
row_of (job.Check image script certificate) = Check image.now script.now certificate.now
row_of (job.Wear image before) = Wear image.now (option_map (λ path. path.now) before)
row_of (job.States image) = States image.now
row_of (job.Clean image) = Clean image.now
row_of (job.Rescue image) = Rescue image.now
row_of (job.ForgetAll force image) = ForgetAll force image.now
row_of (job.Stale image settings) = Stale image.now settings.now
row_of (job.Tidy image settings) = Tidy image.now settings.now
row_of (job.List image settings) = Listing image.now (option_map (λ path. path.now) settings)
row_of (job.Size words script cycles runs) = Sizing words script.now cycles runs
row_of job.Help = Help
row_of job.Version = Version

-- the texts of the words
abbrev pub texts_of : List (Bor (List ℕ)) → List (List ℕ)
texts_of words = map (λ word. word.now) words

-- how many words a page can have
abbrev pub ArePageWords : ℕ → Type 0
ArePageWords words = (5 ≤ words) × (words ≤ 512)

-- one at least, and of 32 bits
abbrev pub IsCount : ℕ → Type 0
IsCount count = (1 ≤ count) × (count < 2 ^ 32)

-- an address of 32 bits at which a word of flash begins
unfoldable pub IsBase : ℕ → Type 0
IsBase base = (base < 2 ^ 32) × (base % 8 ≡ 0)

-- a part of this size that begins there ends within the addresses of 32 bits
unfoldable pub EndsWithin : Form → Size → ℕ → Type 0
EndsWithin form size base = base + dump_length form size ≤ 2 ^ 32

-- eight hexadecimal digits in either case: the four bytes of the base, the greatest first
unfoldable pub HasBase : List ℕ → ℕ → Type 0
HasBase word base = decode_of word ≡ Ok (to_be_bytes w32 base)

-- a word that is the flag of no form
abbrev pub IsNoForm : List ℕ → Type 0
IsNoForm word = word ≢ codes "--pairs" × word ≢ codes "--coded"

-- its size is within the limits, its value has 32 bits, its base is one, from which a part that is
-- imported ends within 32 bits, an image to export is not named as a form's flag, nor as Intel HEX
-- `--fill`, one to run on is not named `--indexed`, one to forget all of is not named `--force`,
-- settings to tell are not named `--rust`, and cycles and runs are counts
abbrev pub IsRow : Row → Type 0
IsRow (Try size) = IsWithinLimits size
IsRow (Format size image) = IsWithinLimits size
IsRow (Import form size dump image) = IsWithinLimits size
IsRow (Export form image dump) = IsNoForm image
IsRow (ImportHex form size base dump image) =
    IsWithinLimits size × IsBase base × EndsWithin form size base
IsRow (ExportHex form fill image base dump) =
    IsNoForm image × image ≢ codes "--fill" × IsBase base
IsRow (ImportXcube size dump image) = IsWithinLimits size
IsRow (Inspect image) = Unit {0}
IsRow (Run indexed image script) = image ≢ codes "--indexed"
IsRow (Get image settings name) = Unit {0}
IsRow (Set image settings name value) = value < 2 ^ 32
IsRow (Unset image settings name) = Unit {0}
IsRow (Apply image settings values) = Unit {0}
IsRow (Verify image settings values) = Unit {0}
IsRow (Header rust settings) = settings ≢ codes "--rust"
IsRow (Plan image script) = Unit {0}
IsRow (Check image script certificate) = Unit {0}
IsRow (Wear image before) = Unit {0}
IsRow (States image) = Unit {0}
IsRow (Clean image) = Unit {0}
IsRow (Rescue image) = Unit {0}
IsRow (ForgetAll force image) = image ≢ codes "--force"
IsRow (Stale image settings) = Unit {0}
IsRow (Tidy image settings) = Unit {0}
IsRow (Listing image settings) = Unit {0}
IsRow (Sizing words script cycles runs) = ArePageWords words × IsCount cycles × IsCount runs
IsRow Help = Unit {0}
IsRow Version = Unit {0}

-- a command that has no flag
abbrev pub IsPlain : List ℕ → Type 0
IsPlain command =
    command ≢ codes "run" × command ≢ codes "header" × command ≢ codes "export"
    × command ≢ codes "export-hex"
    × command ≢ codes "import" × command ≢ codes "import-hex" × command ≢ codes "forget-all"

-- a flag, if it is given, before other words
abbrev pub with_flag : Bool → List ℕ → List (List ℕ) → List (List ℕ)
with_flag false flag words = words
with_flag true flag words = flag ∷ words

-- these words begin with no such flag
abbrev pub HaveNoFlag : List ℕ → List (List ℕ) → Type 0
HaveNoFlag flag [] = Unit {0}
HaveNoFlag flag (word ∷ words) = word ≢ flag

-- the flag of a form, which words have none of, before other words
abbrev pub with_form : Form → List (List ℕ) → List (List ℕ)
with_form Words words = words
with_form Pairs words = codes "--pairs" ∷ words
with_form Coded words = codes "--coded" ∷ words

-- these words begin with the flag of no form
abbrev pub HaveNoForm : List (List ℕ) → Type 0
HaveNoForm [] = Unit {0}
HaveNoForm (word ∷ words) = IsNoForm word

-- the words say this row; no words say `try 1 6`
abbrev pub AreWordsOf : List (List ℕ) → Row → Type 0
AreWordsOf words (Try size) = (words ≡ codes "try" ∷ decimal size.pages ∷ decimal size.words ∷ [])
    ⊎ ((words ≡ []) × (size ≡ size_of 1 6))
AreWordsOf words (Format size image) =
    words ≡ codes "format" ∷ decimal size.pages ∷ decimal size.words ∷ image ∷ []
AreWordsOf words (Import form size dump image) =
    words
    ≡ codes "import"
    ∷ with_form form
    (decimal size.pages ∷ decimal size.words ∷ dump ∷ image ∷ [])
AreWordsOf words (Export form image dump) =
    words ≡ codes "export" ∷ with_form form (image ∷ dump ∷ [])
AreWordsOf words (ImportHex form size base dump image) = (digits : List ℕ) × HasBase digits base
    × (words
    ≡ codes "import-hex"
    ∷ with_form form
    (decimal size.pages ∷ decimal size.words ∷ digits ∷ dump ∷ image ∷ []))
AreWordsOf words (ExportHex form fill image base dump) = (digits : List ℕ) × HasBase digits base
    × (words
    ≡ codes "export-hex"
    ∷ with_form form
    (with_flag fill (codes "--fill") (image ∷ digits ∷ dump ∷ [])))
AreWordsOf words (ImportXcube size dump image) =
    words
    ≡ codes "import-xcube" ∷ decimal size.pages ∷ decimal size.words ∷ dump ∷ image ∷ []
AreWordsOf words (Inspect image) = words ≡ codes "inspect" ∷ image ∷ []
AreWordsOf words (Run indexed image script) =
    words ≡ codes "run" ∷ with_flag indexed (codes "--indexed") (image ∷ script ∷ [])
AreWordsOf words (Get image settings name) = words ≡ codes "get" ∷ image ∷ settings ∷ name ∷ []
AreWordsOf words (Set image settings name value) =
    words ≡ codes "set" ∷ image ∷ settings ∷ name ∷ decimal value ∷ []
AreWordsOf words (Unset image settings name) = words ≡ codes "unset" ∷ image ∷ settings ∷ name ∷ []
AreWordsOf words (Apply image settings values) =
    words ≡ codes "apply" ∷ image ∷ settings ∷ values ∷ []
AreWordsOf words (Verify image settings values) =
    words ≡ codes "verify" ∷ image ∷ settings ∷ values ∷ []
AreWordsOf words (Header rust settings) =
    words ≡ codes "header" ∷ with_flag rust (codes "--rust") (settings ∷ [])
AreWordsOf words (Plan image script) = words ≡ codes "plan" ∷ image ∷ script ∷ []
AreWordsOf words (Check image script certificate) =
    words ≡ codes "check" ∷ image ∷ script ∷ certificate ∷ []
AreWordsOf words (Wear image None) = words ≡ codes "wear" ∷ image ∷ []
AreWordsOf words (Wear image (Some before)) = words ≡ codes "wear" ∷ image ∷ before ∷ []
AreWordsOf words (States image) = words ≡ codes "states" ∷ image ∷ []
AreWordsOf words (Clean image) = words ≡ codes "clean" ∷ image ∷ []
AreWordsOf words (Rescue image) = words ≡ codes "rescue" ∷ image ∷ []
AreWordsOf words (ForgetAll force image) =
    words ≡ codes "forget-all" ∷ with_flag force (codes "--force") (image ∷ [])
AreWordsOf words (Stale image settings) = words ≡ codes "stale" ∷ image ∷ settings ∷ []
AreWordsOf words (Tidy image settings) = words ≡ codes "tidy" ∷ image ∷ settings ∷ []
AreWordsOf words (Listing image None) = words ≡ codes "list" ∷ image ∷ []
AreWordsOf words (Listing image (Some settings)) = words ≡ codes "list" ∷ image ∷ settings ∷ []
AreWordsOf words (Sizing page_size script cycles runs) =
    words ≡ codes "size" ∷ decimal page_size ∷ script ∷ decimal cycles ∷ decimal runs ∷ []
AreWordsOf words Help =
    (words ≡ codes "--help" ∷ []) ⊎ (words ≡ codes "-h" ∷ []) ⊎ (words ≡ codes "help" ∷ [])
AreWordsOf words Version = words ≡ codes "--version" ∷ []

-- a job that is given is a row, which the words say
abbrev pub SpellsGiven : List (List ℕ) → Option Job → Type 0
SpellsGiven words given = IfSome given (λ job. IsRow (row_of job) × AreWordsOf words (row_of job))

-- a row that the words say is given
abbrev pub GivesSpelled : List (List ℕ) → Option Job → Type 0
GivesSpelled words given =
    (row : Row) → IsRow row → AreWordsOf words row → option_map row_of given ≡ Some row
