-- What the parts of the writer give.
use Rattle.std.specs.Prelude.{◌≡◌, ◌≢◌, ◌<◌, ℕ, List, ◌++◌}
use Rattle.std.specs.Int.{to_le_bytes, w64}
use Rattle.ee_flash.specs.Device.{Device, word_at}
use Rattle.ee_flash.specs.declared.word.Word.TheVariants.{Torn}
use Rattle.ee_interface.specs.declared.command_line.form.Form.{Form}
use Rattle.ee_interface.specs.declared.command_line.form.Form.TheVariants.{Words, Pairs, Coded}
use Rattle.ee_shell.specs.declared.dumps.fault.WriteFault.{WriteFault}
use Rattle.ee_shell.specs.declared.dumps.fault.WriteFault.TheVariants.{Memory, TornWord, Uncoded}

-- the bytes of a number, of which a pair has another beside it
abbrev pub number_bytes : Form → ℕ → ℕ → List ℕ
number_bytes Words number check = to_le_bytes w64 number
number_bytes Coded number check = to_le_bytes w64 number
number_bytes Pairs number check = to_le_bytes w64 number ++ to_le_bytes w64 check

-- the word there is the first of its page that is torn
pub record IsTornPage (device : Device) (page at : ℕ) : Type 0 where
  pub torn : word_at device page at ≡ Torn
  pub none_before : (k : ℕ) → k < at → word_at device page k ≢ Torn

-- why the words of a page are not written
abbrev pub IsTornPageFault : Device → ℕ → WriteFault → Type 0
IsTornPageFault device page (TornWord torn_page at) = (torn_page ≡ page) × IsTornPage device page at
IsTornPageFault device page (Uncoded uncoded_page at) = ⊥
IsTornPageFault device page Memory = Unit {0}
