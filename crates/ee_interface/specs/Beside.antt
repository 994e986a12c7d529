-- What stands beside the words of each fault's line.
use Rattle.std.specs.Prelude.{◌≡◌, ℕ, List, [], ◌++◌, codes, decimal}
use Rattle.ee_interface.specs.declared.fault.File.TheVariants.{Settings, Values}
use Rattle.ee_interface.specs.declared.fault.Fault.{Fault}
use Rattle.ee_interface.specs.declared.fault.Fault.TheVariants.{CannotRead, TooLong, BadLine, BadShape, Foreign, BadName, BadField, BadRange, SameAddress, OutOfRange, NotFitting, NotRising, WrongFrom, NotForced, Backwards, DumpOfCoded, LowPair, Misplaced, TornWord, Uncoded, BadValue, UnknownValue, ValueOutOfRange, FullAt, SpentAt}
use Rattle.ee_interface.specs.declared.beside.Beside.{Beside}
use Rattle.ee_interface.specs.declared.beside.Beside.TheVariants.{Nothing, File, Entry, Number, Numbers}
use Rattle.ee_interface.specs.Fault.{file_name, cause}

-- what stands before or behind the words of a line
abbrev pub beside_text : Beside → List ℕ
beside_text Nothing = []
beside_text (File file) = file_name file
beside_text (Entry file entry) = file_name file ++ codes " entry " ++ decimal entry
beside_text (Number number) = decimal number
beside_text (Numbers first second) = decimal first ++ codes " " ++ decimal second

-- what stands before the words of a fault's line
abbrev pub before : Fault → Beside
before (TooLong file) = File file
before (BadLine file line) = File file
before (BadShape file) = File file
before (BadName entry) = Entry Settings entry
before (BadField entry) = Entry Settings entry
before (BadRange entry) = Entry Settings entry
before (SameAddress entry) = Entry Settings entry
before (BadValue entry) = Entry Values entry
before (UnknownValue entry) = Entry Values entry
before (ValueOutOfRange entry min max) = Entry Values entry
before (FullAt entry) = Entry Values entry
before (SpentAt entry) = Entry Values entry
before fault = Nothing

-- what stands behind them
abbrev pub behind : Fault → Beside
behind (CannotRead file) = File file
behind (BadLine file line) = Number line
behind (NotFitting change) = Number change
behind (NotRising stretch) = Number stretch
behind (WrongFrom stretch) = Number stretch
behind (NotForced stretch) = Number stretch
behind (Backwards page) = Number page
behind (Foreign page at) = Numbers page at
behind (LowPair page at) = Numbers page at
behind (Misplaced page at) = Numbers page at
behind (TornWord page at) = Numbers page at
behind (Uncoded page at) = Numbers page at
behind (DumpOfCoded pages words) = Numbers pages words
behind (OutOfRange min max) = Numbers min max
behind (ValueOutOfRange entry min max) = Numbers min max
behind fault = Nothing

-- these words make the line, between what stands before and behind them
unfoldable pub AreLineWords : Fault → List ℕ → Type 0
AreLineWords fault words =
    beside_text (before fault) ++ words ++ beside_text (behind fault) ≡ cause fault
