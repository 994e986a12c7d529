-- What the words behind a command are to be, and why words are no command line, or none of a script.
use Rattle.std.specs.Prelude.{◌≡◌, ◌<◌, ◌≤◌, ◌+◌, ◌&&◌, ◌==◌, ◌⊎◌, ℕ, nat_le, Bool, false, if◌then◌else◌, Option, Some, None, IfSome, List, [], ◌∷◌, codes, decimal, length}
use Rattle.std.specs.List.{list_all}
use Rattle.ee_interface.specs.CommandLine.Job.{HasBase, IsBase}
use Rattle.ee_interface.specs.declared.command_line.operands.Operand.{Operand}
use Rattle.ee_interface.specs.declared.command_line.operands.Operand.TheVariants.{Pages, PageWords, Base, Value, Cycles, Runs, Image, Before, Dump, Script, Certificate, Settings, Name, Values, Address, Stored, Step, Tear}
use Rattle.ee_interface.specs.declared.command_line.operands.WordFault.{WordFault}
use Rattle.ee_interface.specs.declared.command_line.operands.WordFault.TheVariants.{ZeroInFront, OutOfRange, NoNumber, NoBase, NoTear}
use Rattle.ee_interface.specs.declared.command_line.operands.WordsCause.{WordsCause}
use Rattle.ee_interface.specs.declared.command_line.operands.WordsCause.TheVariants.{NoCommand, Missing, Surplus, Wrong, NoRow}

-- ---- a word

-- the range of a number
abbrev pub least_number : Operand → ℕ
least_number Pages = 1
least_number PageWords = 5
least_number Cycles = 1
least_number Runs = 1
least_number Address = 1
least_number Step = 1
least_number _ = 0

-- none where no number is wanted
abbrev pub most_number : Operand → Option ℕ
most_number Pages = Some 64
most_number PageWords = Some 512
most_number Value = Some 4294967295
most_number Stored = Some 4294967295
most_number Cycles = Some 4294967295
most_number Runs = Some 4294967295
most_number Address = Some 65534
most_number Step = Some 18446744073709551615
most_number _ = None

-- the word spells a number of this range
abbrev pub IsNumberIn : ℕ → ℕ → List ℕ → Type 0
IsNumberIn least most word = (n : ℕ) × (least ≤ n) × (n ≤ most) × (word ≡ decimal n)

-- the letter of a tear
abbrev pub IsTear : List ℕ → Type 0
IsTear word =
    (word ≡ codes "n") ⊎ (word ≡ codes "d") ⊎ (word ≡ codes "t") ⊎ (word ≡ codes "m")

-- the word is what it is to be: a base, a tear, a number, or any text
abbrev pub IsSpelling : Operand → List ℕ → Type 0
IsSpelling Base word = (base : ℕ) × IsBase base × HasBase word base
IsSpelling Tear word = IsTear word
IsSpelling operand word =
    IfSome (most_number operand) (λ most. IsNumberIn (least_number operand) most word)

abbrev pub is_decimal_digit : ℕ → Bool
is_decimal_digit byte = nat_le 48 byte && nat_le byte 57

-- it is digits alone, one or more
abbrev pub are_digits : List ℕ → Bool
are_digits [] = false
are_digits (byte ∷ bytes) = list_all is_decimal_digit (byte ∷ bytes)

-- a zero stands in front of others
abbrev pub is_zero_led : List ℕ → Bool
is_zero_led [] = false
is_zero_led (byte ∷ []) = false
is_zero_led (byte ∷ next ∷ bytes) = byte == 48

-- why a word is no number of its range
abbrev pub number_fault : List ℕ → WordFault
number_fault word =
    if are_digits word then (if is_zero_led word then ZeroInFront else OutOfRange) else NoNumber

abbrev pub word_fault : Operand → List ℕ → WordFault
word_fault Base word = NoBase
word_fault Tear word = NoTear
word_fault _ word = number_fault word

-- ---- the words

-- the first of the words behind so many that isn't what it is to be, is missing, or is one too many
abbrev pub IsFirstWrong : List Operand → List (List ℕ) → ℕ → WordsCause → Type 0
IsFirstWrong [] [] before cause = cause ≡ NoRow
IsFirstWrong [] (word ∷ words) before cause = cause ≡ Surplus before
IsFirstWrong (operand ∷ operands) [] before cause = cause ≡ Missing operand
IsFirstWrong (operand ∷ operands) (word ∷ words) before cause =
    (IsSpelling operand word × IsFirstWrong operands words (before + 1) cause)
    ⊎ ((IsSpelling operand word → ⊥) × (cause ≡ Wrong before operand (word_fault operand word)))

-- a command on settings or on dumps
unfoldable pub IsOtherName : List ℕ → Type 0
IsOtherName name =
    (name ≡ codes "get") ⊎ (name ≡ codes "unset") ⊎ (name ≡ codes "set") ⊎ (name ≡ codes "apply")
    ⊎ (name ≡ codes "verify") ⊎ (name ≡ codes "stale") ⊎ (name ≡ codes "tidy")
    ⊎ (name ≡ codes "import") ⊎ (name ≡ codes "import-hex") ⊎ (name ≡ codes "export")
    ⊎ (name ≡ codes "export-hex") ⊎ (name ≡ codes "import-xcube")

-- a command that takes words has this name
unfoldable pub IsCommandName : List ℕ → Type 0
IsCommandName name =
    (name ≡ codes "try") ⊎ (name ≡ codes "format") ⊎ (name ≡ codes "run") ⊎ (name ≡ codes "list")
    ⊎ (name ≡ codes "header") ⊎ (name ≡ codes "plan") ⊎ (name ≡ codes "check")
    ⊎ (name ≡ codes "size") ⊎ (name ≡ codes "inspect") ⊎ (name ≡ codes "wear")
    ⊎ (name ≡ codes "states") ⊎ (name ≡ codes "clean") ⊎ (name ≡ codes "rescue")
    ⊎ (name ≡ codes "forget-all") ⊎ IsOtherName name

-- what the words behind it, and behind its flag, are to be
unfoldable pub AreOtherOperandsOf : List ℕ → List Operand → Type 0
AreOtherOperandsOf name operands =
    ((name ≡ codes "get") × (operands ≡ Image ∷ Settings ∷ Name ∷ []))
    ⊎ ((name ≡ codes "unset") × (operands ≡ Image ∷ Settings ∷ Name ∷ []))
    ⊎ ((name ≡ codes "set") × (operands ≡ Image ∷ Settings ∷ Name ∷ Value ∷ []))
    ⊎ ((name ≡ codes "apply") × (operands ≡ Image ∷ Settings ∷ Values ∷ []))
    ⊎ ((name ≡ codes "verify") × (operands ≡ Image ∷ Settings ∷ Values ∷ []))
    ⊎ ((name ≡ codes "stale") × (operands ≡ Image ∷ Settings ∷ []))
    ⊎ ((name ≡ codes "tidy") × (operands ≡ Image ∷ Settings ∷ []))
    ⊎ ((name ≡ codes "import") × (operands ≡ Pages ∷ PageWords ∷ Dump ∷ Image ∷ []))
    ⊎ ((name ≡ codes "import-hex") × (operands ≡ Pages ∷ PageWords ∷ Base ∷ Dump ∷ Image ∷ []))
    ⊎ ((name ≡ codes "export") × (operands ≡ Image ∷ Dump ∷ []))
    ⊎ ((name ≡ codes "export-hex") × (operands ≡ Image ∷ Base ∷ Dump ∷ []))
    ⊎ ((name ≡ codes "import-xcube") × (operands ≡ Pages ∷ PageWords ∷ Dump ∷ Image ∷ []))

-- the same of each command, with so many words; the last of two commands may be left out
unfoldable pub AreOperandsOf : List ℕ → ℕ → List Operand → Type 0
AreOperandsOf name count operands =
    ((name ≡ codes "inspect") × (operands ≡ Image ∷ []))
    ⊎ ((name ≡ codes "states") × (operands ≡ Image ∷ []))
    ⊎ ((name ≡ codes "clean") × (operands ≡ Image ∷ []))
    ⊎ ((name ≡ codes "rescue") × (operands ≡ Image ∷ []))
    ⊎ ((name ≡ codes "forget-all") × (operands ≡ Image ∷ []))
    ⊎ ((name ≡ codes "list") × (1 < count) × (operands ≡ Image ∷ Settings ∷ []))
    ⊎ ((name ≡ codes "wear") × (1 < count) × (operands ≡ Image ∷ Before ∷ []))
    ⊎ ((name ≡ codes "list") × (count ≤ 1) × (operands ≡ Image ∷ []))
    ⊎ ((name ≡ codes "wear") × (count ≤ 1) × (operands ≡ Image ∷ []))
    ⊎ ((name ≡ codes "header") × (operands ≡ Settings ∷ []))
    ⊎ ((name ≡ codes "try") × (operands ≡ Pages ∷ PageWords ∷ []))
    ⊎ ((name ≡ codes "format") × (operands ≡ Pages ∷ PageWords ∷ Image ∷ []))
    ⊎ ((name ≡ codes "size") × (operands ≡ PageWords ∷ Script ∷ Cycles ∷ Runs ∷ []))
    ⊎ ((name ≡ codes "run") × (operands ≡ Image ∷ Script ∷ []))
    ⊎ ((name ≡ codes "plan") × (operands ≡ Image ∷ Script ∷ []))
    ⊎ ((name ≡ codes "check") × (operands ≡ Image ∷ Script ∷ Certificate ∷ []))
    ⊎ AreOtherOperandsOf name operands

-- the flag of a form
abbrev pub IsFormFlag : List ℕ → Type 0
IsFormFlag word = (word ≡ codes "--pairs") ⊎ (word ≡ codes "--coded")

-- a flag of the command
abbrev pub IsFlagOf : List ℕ → List ℕ → Type 0
IsFlagOf name word =
    ((name ≡ codes "import") × IsFormFlag word)
    ⊎ ((name ≡ codes "export") × IsFormFlag word)
    ⊎ ((name ≡ codes "import-hex") × IsFormFlag word)
    ⊎ ((name ≡ codes "export-hex") × IsFormFlag word)
    ⊎ ((name ≡ codes "export-hex") × (word ≡ codes "--fill"))
    ⊎ ((name ≡ codes "run") × (word ≡ codes "--indexed"))
    ⊎ ((name ≡ codes "header") × (word ≡ codes "--rust"))
    ⊎ ((name ≡ codes "forget-all") × (word ≡ codes "--force"))

-- behind the name stand these words; behind the flag, if it is the first, stand the others, and
-- before them stand so many words in all
abbrev pub AreBehindFlag : List ℕ → List (List ℕ) → ℕ → List (List ℕ) → Type 0
AreBehindFlag name [] before others = (before ≡ 1) × (others ≡ [])
AreBehindFlag name (word ∷ words) before others =
    (IsFlagOf name word × (before ≡ 2) × (others ≡ words))
    ⊎ ((IsFlagOf name word → ⊥) × (before ≡ 1) × (others ≡ word ∷ words))

-- why the words are no command line
abbrev pub IsWordsCause : List (List ℕ) → WordsCause → Type 0
IsWordsCause [] cause = cause ≡ NoCommand
IsWordsCause (name ∷ words) cause =
    ((IsCommandName name → ⊥) × (cause ≡ NoCommand))
    ⊎ ((before : ℕ) × (others : List (List ℕ)) × (operands : List Operand)
    × AreBehindFlag name words before others × AreOperandsOf name (length others) operands
    × IsFirstWrong operands others before cause)

-- ---- a line of a script

-- the letter of a command
abbrev pub IsLetter : List ℕ → Type 0
IsLetter letter =
    (letter ≡ codes "w") ⊎ (letter ≡ codes "r") ⊎ (letter ≡ codes "f") ⊎ (letter ≡ codes "c")
    ⊎ (letter ≡ codes "x") ⊎ (letter ≡ codes "p")

-- what the words behind it are to be
abbrev pub AreLineOperandsOf : List ℕ → List Operand → Type 0
AreLineOperandsOf letter operands =
    ((letter ≡ codes "w") × (operands ≡ Address ∷ Stored ∷ []))
    ⊎ ((letter ≡ codes "r") × (operands ≡ Address ∷ []))
    ⊎ ((letter ≡ codes "f") × (operands ≡ Address ∷ []))
    ⊎ ((letter ≡ codes "x") × (operands ≡ Step ∷ Tear ∷ []))
    ⊎ ((letter ≡ codes "c") × (operands ≡ []))
    ⊎ ((letter ≡ codes "p") × (operands ≡ []))

-- why the words are no command of a script
abbrev pub IsLineCause : List (List ℕ) → WordsCause → Type 0
IsLineCause [] cause = cause ≡ NoCommand
IsLineCause (letter ∷ words) cause =
    ((IsLetter letter → ⊥) × (cause ≡ NoCommand))
    ⊎ ((operands : List Operand) × AreLineOperandsOf letter operands
    × IsFirstWrong operands words 1 cause)
