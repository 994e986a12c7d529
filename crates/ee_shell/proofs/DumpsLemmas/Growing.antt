-- Words that are read one by one, and a dump that grows by words and by pages.
use Rattle.std.proofs.Common.{◌≡◌, ◌≢◌, ℕ, ◌+◌, ◌*◌, ◌/◌, ◌<◌, ◌≤◌, List, [], ◌∷◌, ◌++◌, length, get_or, take, drop, sym, ap, ◌∙◌, subst, arith, inl, inr, below_more, length-append}
use Rattle.std.specs.List.{flat_map}
use Rattle.std.specs.Simd.{first_chunks}
use Rattle.std.proofs.Math.Seq.{take-add}
use Rattle.std.proofs.lemmas.Bool.{cases_lt}
use Rattle.std.proofs.lemmas.List.{flat_map_more, get_or_past, take_all, take_more}
use Rattle.std.proofs.lemmas.List.Concat.{flat_map-append}
use Rattle.ee_flash.specs.Device.{Device, IsBelowAllOnes, IsFormed, page_at, word_at}
use Rattle.ee_flash.specs.Size.{page_count}
use Rattle.ee_flash.specs.declared.word.Word.{Word}
use Rattle.ee_flash.specs.declared.word.Word.TheVariants.{Erased, Torn}
use Rattle.ee_shell.specs.Dumps.Dump.{IsCodable, IsDump, IsFirstTorn, IsWholePage, plain_bytes, word_bytes}
use Rattle.ee_shell.specs.Dumps.Reading.{AreWhole}
use Rattle.ee_interface.specs.declared.command_line.form.Form.{Form}
use Rattle.ee_interface.specs.declared.command_line.form.Form.TheVariants.{Words}
use Rattle.ee_shell.specs.Dumps.Fault.{IsWriteFault}
use Rattle.ee_shell.specs.Dumps.Writing.{IsTornPageFault, IsTornPage}
use Rattle.ee_shell.specs.declared.dumps.fault.WriteFault.{WriteFault}
use Rattle.ee_shell.specs.declared.dumps.fault.WriteFault.TheVariants.{Memory, TornWord, Uncoded}
use Rattle.ee_flash.proofs.Public.{length-page_at}
use Rattle.ee_shell.proofs.DumpsLemmas.Words.{chunk_at, erased_whole, length-first_chunks, one_whole_more}

-- ---- reading

-- the words so far are those of the bytes so far
pub record AreRead (dump : List ℕ) (count : ℕ) (words : List Word) : Type 0 where
  pub as_many : length words ≡ count
  pub whole : AreWhole words
  pub bytes_are : flat_map plain_bytes words ≡ take (8 * count) dump

pub one_read_more : (dump : List ℕ) (chunks : List (List ℕ)) (n : ℕ) (words new : List Word)
    (word : Word)
    → chunks ≡ first_chunks 8 (length dump / 8) dump → AreRead dump n words → n < length chunks
    → plain_bytes word ≡ get_or chunks n [] → word ≢ Torn → IsBelowAllOnes word
    → new ≡ words ++ word ∷ [] → AreRead dump (n + 1) new
one_read_more dump chunks n words new word are read within spelled sound below pushed =
    let count : ℕ = length dump / 8 in
    let less : n < count = omega (arith, ap length are, length-first_chunks count dump) in
    let eight : plain_bytes word ≡ take 8 (drop (8 * n) dump) =
    spelled ∙ ap (λ (l : List (List ℕ)). get_or l n []) are ∙ chunk_at count dump n [] less in
    subst (AreRead dump (n + 1)) (sym pushed) record {
      as_many = omega (arith, length-append words (word ∷ []), read.as_many);
      whole = one_whole_more words word read.whole sound below;
      bytes_are =
          sym (flat_map_more plain_bytes [] words word)
          ∙ ap (λ l. l ++ plain_bytes word) read.bytes_are
          ∙ ap (λ l. take (8 * n) dump ++ l) eight
          ∙ sym (take-add (8 * n) 8 dump) ∙ ap (λ (k : ℕ). take k dump) (omega arith);
    }

-- ---- writing a page

-- the words of the page so far are written, and none was torn
pub record IsPageFront (form : Form) (device : Device) (page at : ℕ) (old out : List ℕ)
    : Type 0 where
  pub written : out ≡ old ++ flat_map (word_bytes form device.size) (take at (page_at device page))
  pub none_torn : (k : ℕ) → k < at → word_at device page k ≢ Torn

pub one_word_more : (form : Form) (device : Device) (page at : ℕ) (old out new : List ℕ)
    (word : Word)
    → IsFormed device → page < page_count device.size → at < device.size.words
    → IsPageFront form device page at old out → word ≡ word_at device page at → word ≢ Torn
    → new ≡ out ++ word_bytes form device.size word → IsPageFront form device page (at + 1) old new
one_word_more form device page at old out new word formed in_range within front is sound pushed =
    let words : List Word = page_at device page in
    let more : take (at + 1) words ≡ take at words ++ word ∷ [] =
    take_more words at Erased (omega (arith, length-page_at device page formed in_range))
    ∙ ap (λ (w : Word). take at words ++ w ∷ []) (sym is) in
    record {
      written =
          pushed ∙ ap (λ l. l ++ word_bytes form device.size word) front.written
          ∙ flat_map_more (word_bytes form device.size) old (take at words) word
          ∙ ap (λ (l : List Word). old ++ flat_map (word_bytes form device.size) l) (sym more);
      none_torn =
          below_more (λ k. word_at device page k ≢ Torn) at front.none_torn
          (subst (λ (w : Word). w ≢ Torn) is sound);
    }

pub page_written : (form : Form) (device : Device) (page at : ℕ) (old out : List ℕ)
    → IsFormed device → page < page_count device.size → device.size.words ≤ at
    → IsPageFront form device page at old out
    → IsWholePage device page × (out ≡ old ++ flat_map (word_bytes form device.size) (page_at device page))
page_written form device page at old out formed in_range all front =
    let past : length (page_at device page) ≤ at =
    omega (arith, length-page_at device page formed in_range) in (
      λ k. elim (cases_lt k at) [
        | inl early ↦ front.none_torn k early
        | inr late ↦
            λ e. erased_whole (sym (get_or_past (page_at device page) k Erased (omega arith)) ∙ e)
      ],
      front.written
          ∙ ap (λ (l : List Word). old ++ flat_map (word_bytes form device.size) l)
          (take_all at (page_at device page) past),
    )

-- ---- writing a device

-- the pages so far are written, and no word of them is torn
pub record IsDumpFront (form : Form) (device : Device) (page : ℕ) (dump : List ℕ) : Type 0 where
  pub written : dump ≡ flat_map (word_bytes form device.size) (flat_map (λ page. page) (take page device.image))
  pub whole : (k : ℕ) → k < page → IsWholePage device k

pub one_page_more : (form : Form) (device : Device) (page : ℕ) (dump new : List ℕ) → IsFormed device
    → page < page_count device.size → IsDumpFront form device page dump → IsWholePage device page
    → new ≡ dump ++ flat_map (word_bytes form device.size) (page_at device page)
    → IsDumpFront form device (page + 1) new
one_page_more form device page dump new formed in_range front sound written =
    let pages : List (List Word) = device.image in
    let more : take (page + 1) pages ≡ take page pages ++ page_at device page ∷ [] =
    take_more pages page [] (omega (arith, formed.image_length)) in
    let words : flat_map (λ p. p) (take (page + 1) pages)
    ≡ flat_map (λ p. p) (take page pages) ++ page_at device page =
    ap (flat_map (λ p. p)) more
    ∙ sym (flat_map_more (λ p. p) [] (take page pages) (page_at device page)) in
    record {
      written =
          written ∙ ap (λ l. l ++ flat_map (word_bytes form device.size) (page_at device page)) front.written
          ∙ sym
          (flat_map-append (word_bytes form device.size) (flat_map (λ p. p) (take page pages))
          (page_at device page))
          ∙ ap (flat_map (word_bytes form device.size)) (sym words);
      whole = λ k less. elim (cases_lt k page) [
        | inl early ↦ front.whole k early
        | inr late ↦ let same : page ≡ k = omega arith in subst (IsWholePage device) same sound
      ];
    }

-- no word of them all is torn
pub all_whole : (form : Form) (device : Device) (page : ℕ) (dump : List ℕ) → IsFormed device
    → page_count device.size ≤ page → IsDumpFront form device page dump → (k : ℕ)
    → IsWholePage device k
all_whole form device page dump formed all front = λ k.
    elim (cases_lt k page) [
      | inl less ↦ front.whole k less
      | inr past ↦
          λ at e. erased_whole
          (sym
          (ap (λ (words : List Word). get_or words at Erased)
          (get_or_past device.image k [] (omega (arith, formed.image_length))))
          ∙ e)
    ]

pub all_written : (form : Form) (device : Device) (page : ℕ) (dump : List ℕ) → IsFormed device
    → page_count device.size ≤ page → IsDumpFront form device page dump → IsCodable form device
    → IsDump form device dump
all_written form device page dump formed all front codable = record {
  whole = all_whole form device page dump formed all front;
  codable = codable;
  bytes_are =
      front.written
      ∙ ap
      (λ (pages : List (List Word)).
      flat_map (word_bytes form device.size) (flat_map (λ p. p) pages))
      (take_all page device.image (omega (arith, formed.image_length)));
}

first_torn : (form : Form) (device : Device) (page torn_page at : ℕ) (dump : List ℕ)
    → IsDumpFront form device page dump → torn_page ≡ page → IsTornPage device page at
    → IsFirstTorn device torn_page at
first_torn form device page torn_page at dump front same torn =
    subst (λ p. IsFirstTorn device p at) (sym same)
    record { torn = torn.torn; whole_before = front.whole; none_before = torn.none_before }

-- a page that is not written has the first torn word, where those before it are written
pub write_fault : (form : Form) (device : Device) (page : ℕ) (dump : List ℕ) (fault : WriteFault)
    → IsDumpFront form device page dump → IsTornPageFault device page fault
    → IsWriteFault form device fault
write_fault form device page dump (TornWord torn_page at) front torn =
    first_torn form device page torn_page at dump front torn.0 torn.1
write_fault form device page dump (Uncoded uncoded_page at) front none = absurd none
write_fault form device page dump Memory front lack = tt
