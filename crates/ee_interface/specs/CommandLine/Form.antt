-- How many bytes a part's words have.
use Rattle.std.specs.Prelude.{ℕ, ◌*◌}
use Rattle.ee_flash.specs.Size.{Size, page_count}
use Rattle.ee_interface.specs.declared.command_line.form.Form.{Form}
use Rattle.ee_interface.specs.declared.command_line.form.Form.TheVariants.{Words, Pairs, Coded}

-- how many bytes a word has
abbrev pub word_length : Form → ℕ
word_length Words = 8
word_length Pairs = 16
word_length Coded = 8

-- as many bytes as the words of both sets have
abbrev pub dump_length : Form → Size → ℕ
dump_length form size = word_length form * (page_count size * size.words)
