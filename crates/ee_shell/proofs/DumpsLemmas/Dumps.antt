-- Devices and their dumps.
use Rattle.std.proofs.Common.{rules, ◌≡◌, ◌≢◌, ◌⊎◌, ℕ, ◌*◌, ◌<◌, ◌≤◌, None, true, List, [], ◌∷◌, length, get_or, replicate, refl, sym, ap, ◌∙◌, subst, arith, inl, inr, length-append}
use Rattle.std.specs.List.{All, flat_map}
use Rattle.std.proofs.lemmas.List.{length-map, length-replicate}
use Rattle.std.proofs.lemmas.List.Elements.{All-append, All-head, All-nil, All-replicate, All-tail}
use Rattle.ee_flash.specs.Cells.{HasLengths, device_from}
use Rattle.ee_flash.specs.Device.{Device, IsBelowAllOnes, IsFormed, all_ones, blank_device}
use Rattle.ee_flash.specs.Formed.{IsFormed-pages_of}
use Rattle.ee_flash.specs.Memory.{Memory, unused_memory}
use Rattle.ee_flash.specs.Pages.{pages_of}
use Rattle.ee_flash.specs.Size.{IsWithinLimits, Size, page_count}
use Rattle.ee_flash.specs.declared.word.Word.{Word}
use Rattle.ee_flash.specs.declared.word.Word.TheVariants.{Erased, Torn}
use Rattle.ee_flash.proofs.Public.{joined_pages, pages_join}
use Rattle.ee_shell.specs.Dumps.Pair.{AreWordsOfPairs}
use Rattle.ee_shell.specs.Dumps.Dump.{IsCodable, IsDump, IsFirstTorn, IsImport, IsSpelledBy, IsWholePage, plain_bytes, word_bytes, device_words}
use Rattle.ee_nor.specs.Coded.Coded.{coded_word}
use Rattle.ee_shell.specs.Dumps.Code.{AreWordsOfCodes}
use Rattle.ee_interface.specs.CommandLine.Form.{dump_length, word_length}
use Rattle.ee_shell.specs.Dumps.Fault.{HasLowPair, HasUncoded, IsWriteFault}
use Rattle.ee_shell.specs.declared.dumps.fault.WriteFault.{WriteFault}
use Rattle.ee_shell.specs.declared.dumps.fault.WriteFault.TheVariants.{Memory as NoMemory, TornWord, Uncoded}
use Rattle.ee_shell.specs.declared.dumps.places.Sought.TheVariants as look
use Rattle.ee_shell.proofs.DumpsLemmas.Sought.{none_sought, one_sought}
use Rattle.ee_shell.specs.Dumps.Laws.{unworn_device}
use Rattle.ee_shell.specs.Dumps.Reading.{AreCells, AreSpelledBy, AreWhole}
use Rattle.ee_interface.specs.declared.command_line.form.Form.{Form}
use Rattle.ee_interface.specs.declared.command_line.form.Form.TheVariants.{Words, Pairs, Coded}
use Rattle.ee_shell.proofs.DumpsLemmas.Pairs.{bytes_of_whole, length-pairs, no_low_pair, one_row_of_words, pairs_of_words}
use Rattle.ee_shell.proofs.DumpsLemmas.Codes.{bytes_of_whole_codes, codes_of_words, has_code, length-codes, one_row_of_codes, words_have_codes}
use Rattle.ee_shell.proofs.DumpsLemmas.Torn.{first_or_whole, in_pages, in_words, no_torn, one_first, whole_pages, whole_words}
use Rattle.ee_shell.proofs.DumpsLemmas.Words.{length-words, words_are_bytes, words_injective, words_of_bytes}

-- ---- the words of a device

length_of_pages : (words : ℕ) (pages : List (List Word)) → All (λ page. length page ≡ words) pages
    → length (flat_map (λ page. page) pages) ≡ length pages * words
length_of_pages words [] each = omega arith
length_of_pages words (page ∷ pages) each =
    omega (
      arith,
      length-append page (flat_map (λ page. page) pages),
      All-head (λ (p : List Word). length p ≡ words) page pages each,
      length_of_pages words pages
          (All-tail (λ (p : List Word). length p ≡ words) page pages each),
    )

below_of_pages : (pages : List (List Word)) → All (All IsBelowAllOnes) pages
    → All IsBelowAllOnes (flat_map (λ page. page) pages)
below_of_pages [] each = All-nil IsBelowAllOnes
below_of_pages (page ∷ pages) each =
    All-append IsBelowAllOnes page (flat_map (λ page. page) pages)
    (All-head (All IsBelowAllOnes) page pages each)
    (below_of_pages pages (All-tail (All IsBelowAllOnes) page pages each))

whole_of : (form : Form) (device : Device) (dump : List ℕ) → IsFormed device
    → IsDump form device dump → AreWhole (device_words device)
whole_of form device dump formed is = record {
  none_torn = whole_words device is.whole;
  below_all_ones = below_of_pages device.image formed.below_all_ones;
}

many_words : (device : Device) → IsFormed device
    → length (device_words device) ≡ page_count device.size * device.size.words
many_words device formed =
    length_of_pages device.size.words device.image formed.page_lengths
    ∙ ap (λ (n : ℕ). n * device.size.words) formed.image_length

-- the length of a dump
pub dumps_are_read_lem : (form : Form) (device : Device) (dump : List ℕ) → IsFormed device
    → IsDump form device dump → length dump ≡ dump_length form device.size
dumps_are_read_lem form device dump formed is =
    ap length is.bytes_are
    ∙ length-words form device.size (device_words device) (whole_words device is.whole)
    ∙ ap (λ (n : ℕ). word_length form * n) (many_words device formed)

-- and it is made of bytes
pub dumps_are_bytes : (form : Form) (device : Device) (dump : List ℕ) → IsDump form device dump
    → (i : ℕ) → get_or dump i 0 < 256
dumps_are_bytes form device dump is i =
    subst (λ (l : List ℕ). get_or l i 0 < 256) (sym is.bytes_are)
    (words_are_bytes form device.size (device_words device) i)

-- and bytes that made a device are as long, and have no pair that sums to less than all ones
pairs_length : (device : Device) (dump : List ℕ) → IsFormed device
    → AreWordsOfPairs dump (device_words device) → length dump ≡ dump_length Pairs device.size
pairs_length device dump formed are = search (rules, length_of_pages, length-pairs, length-map)

codes_length : (device : Device) (dump : List ℕ) → IsFormed device
    → AreWordsOfCodes device.size dump (device_words device)
    → length dump ≡ dump_length Coded device.size
codes_length device dump formed are =
    ap length are.bytes_are ∙ length-codes are.numbers
    ∙ ap (λ (n : ℕ). 8 * n)
    (sym (length-map are.numbers (coded_word device.size)) ∙ ap length (sym are.words_are)
    ∙ many_words device formed)

pub imports_are_read : (form : Form) (size : Size) (dump : List ℕ) (device : Device)
    → IsFormed device → IsImport form size dump device
    → (length dump ≡ dump_length form size)
    × ((page at : ℕ) → HasLowPair form size dump page at → ⊥)
imports_are_read Words size dump device formed made = (
  dumps_are_read_lem Words device dump formed made.dump_is
      ∙ ap (λ (d : Device). dump_length Words d.size) made.never_used,
  λ page at has. has,
)
imports_are_read Coded size dump device formed made = (
  codes_length device dump formed made.dump_is
      ∙ ap (λ (d : Device). dump_length Coded d.size) made.never_used,
  λ page at has. has,
)
imports_are_read Pairs size dump device formed made = (
  pairs_length device dump formed made.dump_is
      ∙ ap (λ (d : Device). dump_length Pairs d.size) made.never_used,
  λ page at has. no_low_pair size dump (device_words device) page at made.dump_is has.1,
)

-- the bytes of a dump spell its words
codes_of : (device : Device) → IsCodable Coded device → All has_code (device_words device)
codes_of device coded = in_words has_code refl device coded

spelled_by : (form : Form) (device : Device) (dump : List ℕ) → IsFormed device
    → IsDump form device dump → IsSpelledBy form dump device
spelled_by Words device dump formed is = is
spelled_by Pairs device dump formed is =
    subst (λ (l : List ℕ). IsSpelledBy Pairs l device) (sym is.bytes_are)
    (pairs_of_words (device_words device) (whole_of Pairs device dump formed is))
spelled_by Coded device dump formed is =
    subst (λ (l : List ℕ). IsSpelledBy Coded l device) (sym is.bytes_are)
    (codes_of_words device.size (device_words device) formed.within_limits
    (whole_of Coded device dump formed is) (codes_of device is.codable))

-- two devices of one size with the same words have the same pages
one_image : (device other : Device) → IsFormed device → IsFormed other → device.size ≡ other.size
    → device_words device ≡ device_words other → device.image ≡ other.image
one_image device other formed right size words =
    sym (joined_pages device.size device.image formed.image_length formed.page_lengths)
    ∙ ap (λ s. pages_of s (device_words device)) size
    ∙ ap (pages_of other.size) words
    ∙ joined_pages other.size other.image right.image_length right.page_lengths

-- bytes spell one row of words
same_words : (form : Form) (device other : Device) (dump : List ℕ) → IsFormed device
    → IsFormed other → device.size ≡ other.size → IsSpelledBy form dump device
    → IsSpelledBy form dump other → device_words device ≡ device_words other
same_words Words device other dump formed right size spelled suits =
    words_injective (device_words device) (device_words other)
    (whole_of Words device dump formed spelled) (whole_of Words other dump right suits)
    (sym spelled.bytes_are ∙ suits.bytes_are)
same_words Pairs device other dump formed right size spelled suits =
    one_row_of_words dump (device_words device) (device_words other) spelled suits
same_words Coded device other dump formed right size spelled suits =
    one_row_of_codes device.size dump (device_words device) (device_words other) spelled
    (subst (λ (s : Size). AreWordsOfCodes s dump (device_words other)) (sym size) suits)

-- bytes make one device
pub imports_agree : (form : Form) (size : Size) (dump : List ℕ) (device other : Device)
    → IsFormed device → IsFormed other → IsImport form size dump device
    → IsImport form size dump other → device ≡ other
imports_agree form size dump device other formed right made also =
    let sizes : device.size ≡ other.size =
    ap (λ (d : Device). d.size) made.never_used
    ∙ sym (ap (λ (d : Device). d.size) also.never_used) in
    made.never_used
    ∙ ap (λ (pages : List (List Word)). record (blank_device size) { image = pages })
    (one_image device other formed right sizes
    (same_words form device other dump formed right sizes made.dump_is also.dump_is))
    ∙ sym also.never_used

-- ---- the laws

import_again : (form : Form) (device other : Device) (dump : List ℕ) → IsFormed device
    → IsDump form device dump → IsFormed other → IsImport form device.size dump other
    → other ≡ unworn_device device
import_again form device other dump formed is right import =
    let size : device.size ≡ other.size =
    sym (ap (λ (d : Device). d.size) import.never_used) in
    let words : device_words device ≡ device_words other =
    same_words form device other dump formed right size (spelled_by form device dump formed is)
    import.dump_is in
    import.never_used
    ∙ ap (λ (pages : List (List Word)). record (blank_device device.size) { image = pages })
    (sym (one_image device other formed right size words))

none_low : (form : Form) (device : Device) (dump : List ℕ) → IsFormed device
    → IsDump form device dump → (page at : ℕ) → HasLowPair form device.size dump page at → ⊥
none_low Words device dump formed is page at has = has
none_low Coded device dump formed is page at has = has
none_low Pairs device dump formed is page at has =
    no_low_pair device.size dump (device_words device) page at (spelled_by Pairs device dump formed is) has.1

pub import_of_export_lem : (form : Form) (device other : Device) (dump : List ℕ) → IsFormed device
    → IsDump form device dump
    → (IsFormed other → IsImport form device.size dump other → other ≡ unworn_device device)
    × ((page at : ℕ) → HasLowPair form device.size dump page at → ⊥)
import_of_export_lem form device other dump formed is =
    (import_again form device other dump formed is, none_low form device dump formed is)

pub whole_import_lem : (form : Form) (size : Size) (dump : List ℕ) (device : Device)
    → IsFormed device → IsImport form size dump device → ((page : ℕ) → IsWholePage device page)
    → IsDump form device dump
whole_import_lem Words size dump device formed import whole = import.dump_is
whole_import_lem Coded size dump device formed import whole = record {
  whole = whole;
  codable =
      in_pages has_code refl device
      (words_have_codes device.size dump (device_words device) import.dump_is);
  bytes_are =
      bytes_of_whole_codes device.size dump (device_words device) import.dump_is
      (whole_words device whole);
}
whole_import_lem Pairs size dump device formed import whole = record {
  whole = whole;
  codable = tt;
  bytes_are = bytes_of_whole dump (device_words device) import.dump_is (whole_words device whole);
}

pub one_device_lem : (form : Form) (device other : Device) (dump : List ℕ) → IsFormed device
    → IsFormed other → device.size ≡ other.size → device.wear ≡ other.wear → IsDump form device dump
    → IsDump form other dump
    → other ≡ record device {
      cuts = other.cuts;
      cuts_left = other.cuts_left;
      fuse = other.fuse;
      on = other.on;
    }
one_device_lem form device other dump formed right size wear is suits =
    let words : device_words device ≡ device_words other =
    same_words form device other dump formed right size (spelled_by form device dump formed is)
    (spelled_by form other dump right suits) in
    let image = one_image device other formed right size words in
    search (rules, image)

-- words as a device that was never used
spelled_cells : (form : Form) (size : Size) (dump : List ℕ) (words : List Word) (device : Device)
    → device.size ≡ size → AreSpelledBy form size dump words → device_words device ≡ words
    → IsSpelledBy form dump device
spelled_cells Words size dump words device same are join = record {
  codable = tt;
  whole = whole_pages device (subst (All (λ word. word ≢ Torn)) (sym join) are.0.none_torn);
  bytes_are = sym are.1 ∙ ap (flat_map plain_bytes) (sym join);
}
spelled_cells Pairs size dump words device same are join =
    subst (λ (ws : List Word). AreWordsOfPairs dump ws) (sym join) are
spelled_cells Coded size dump words device same are join =
    subst (λ (s : Size). AreWordsOfCodes s dump (device_words device)) (sym same)
    (subst (λ (ws : List Word). AreWordsOfCodes size dump ws) (sym join) are)

pub import_of_words : (form : Form) (size : Size) (dump : List ℕ) (words : List Word)
    → length words ≡ page_count size * size.words → AreSpelledBy form size dump words
    → IsImport form size dump (device_from size words (replicate (page_count size) 0))
import_of_words form size dump words many are =
    let device : Device = device_from size words (replicate (page_count size) 0) in
    record {
      never_used = refl;
      dump_is = spelled_cells form size dump words device refl are (pages_join size words many);
    }

formed_of_words : (size : Size) (words : List Word) → IsWithinLimits size → AreWhole words
    → length words ≡ page_count size * size.words
    → IsFormed (device_from size words (replicate (page_count size) 0))
formed_of_words size words limits whole many =
    IsFormed-pages_of size words (replicate (page_count size) 0) 0 None true limits many
    whole.below_all_ones (length-replicate (page_count size) 0)
    (All-replicate (λ (count : ℕ). count ≤ all_ones) (page_count size) 0 (omega arith))
    (omega arith)

pub export_of_import_lem : (size : Size) (dump : List ℕ) → IsWithinLimits size
    → All (λ byte. byte < 256) dump → length dump ≡ dump_length Words size
    → (device : Device) × IsFormed device × IsImport Words size dump device
export_of_import_lem size dump limits small long =
    let found = words_of_bytes (page_count size * size.words) dump small long in
    let are = found.1 in (
      device_from size found.0 (replicate (page_count size) 0),
      formed_of_words size found.0 limits are.whole are.as_many,
      import_of_words Words size dump found.0 are.as_many (are.whole, are.bytes_are),
    )

pub dump_or_torn_lem : (form : Form) (device : Device) → IsCodable form device
    → ((dump : List ℕ) × IsDump form device dump)
    ⊎ ((page : ℕ) × (at : ℕ) × IsFirstTorn device page at)
dump_or_torn_lem form device codable =
    elim (first_or_whole device) [
      | inl first ↦ inr first
      | inr whole ↦ inl (
        flat_map (word_bytes form device.size) (device_words device),
        record { whole = whole; codable = codable; bytes_are = refl },
      )
    ]

-- the words that were read, as the device in memory
pub read_device : (form : Form) (size : Size) (dump : List ℕ) (words : List Word) (wear : List ℕ)
    (memory : Memory)
    → AreCells form size dump words → wear ≡ replicate (page_count size) 0
    → memory ≡ unused_memory (device_from size words wear) → IsImport form size dump memory.device
read_device form size dump words wear memory are none is =
    subst (λ (m : Memory). IsImport form size dump m.device)
    (sym (is ∙ ap (λ (w : List ℕ). unused_memory (device_from size words w)) none))
    (import_of_words form size dump words are.as_many are.spelled)

-- and words that were read are those of a device
pub have_lengths : (form : Form) (size : Size) (dump : List ℕ) (words : List Word) (wear : List ℕ)
    → AreCells form size dump words → wear ≡ replicate (page_count size) 0
    → HasLengths size words wear
have_lengths form size dump words wear are none = record {
  cells_length = are.as_many;
  wear_length = ap length none ∙ length-replicate (page_count size) 0;
}

-- ---- why a device has no dump

one_uncoded : (form : Form) (device : Device) (page at other place : ℕ)
    → HasUncoded form device page at → HasUncoded form device other place
    → Uncoded other place ≡ Uncoded page at
one_uncoded Words device page at other place first second = absurd first
one_uncoded Pairs device page at other place first second = absurd first
one_uncoded Coded device page at other place first second =
    let same = one_sought look.Uncoded device page at other place first second in
    ap (λ (p : ℕ). Uncoded p place) same.0 ∙ ap (Uncoded page) same.1

-- there is one cause at most but for want of memory
pub one_write_cause : (form : Form) (device : Device) (cause fault : WriteFault)
    → cause ≢ NoMemory → IsWriteFault form device cause → IsWriteFault form device fault
    → (fault ≡ cause) ⊎ (fault ≡ NoMemory)
one_write_cause form device cause NoMemory some h i = inr refl
one_write_cause form device NoMemory fault some h i = absurd (some refl)
one_write_cause form device (TornWord page at) (TornWord other place) some h i =
    let same = one_first device page at other place h i in
    inl (ap (λ (p : ℕ). TornWord p place) same.0 ∙ ap (TornWord page) same.1)
one_write_cause form device (TornWord page at) (Uncoded other place) some h i =
    absurd (i.0 page at h.torn)
one_write_cause form device (Uncoded page at) (TornWord other place) some h i =
    absurd (h.0 other place i.torn)
one_write_cause form device (Uncoded page at) (Uncoded other place) some h i =
    inl (one_uncoded form device page at other place h.1 i.1)

none_uncoded : (form : Form) (device : Device) (page at : ℕ) → IsCodable form device
    → HasUncoded form device page at → ⊥
none_uncoded Words device page at codable has = has
none_uncoded Pairs device page at codable has = has
none_uncoded Coded device page at codable has =
    none_sought look.Uncoded device page at codable has

-- and none but that where there is a dump
pub write_has_none : (form : Form) (device : Device) (dump : List ℕ) (cause : WriteFault)
    → IsDump form device dump → IsWriteFault form device cause → cause ≡ NoMemory
write_has_none form device dump (TornWord page at) is first =
    absurd (no_torn form device dump page at is first)
write_has_none form device dump (Uncoded page at) is first =
    absurd (none_uncoded form device page at is.codable first.1)
write_has_none form device dump NoMemory is lack = refl
