-- What a reader of a text answers.
use Rattle.std.proofs.Common.{◌≡◌, ◌⊎◌, ℕ, ◌*◌, ◌≤◌, None, true, List, [], ◌∷◌, ◌++◌, length, refl, sym, ap, ◌∙◌, subst, arith, inl, inr, length-append}
use Rattle.std.specs.List.{All, flat_map}
use Rattle.std.proofs.lemmas.List.{append-nil}
use Rattle.std.proofs.lemmas.List.Elements.{All-append, All-cons, All-nil}
use Rattle.std.proofs.Math.Nat.{suc-mul}
use Rattle.ee_flash.specs.Size.{Size, IsWithinLimits, page_count}
use Rattle.ee_flash.specs.Device.{Device, IsBelowAllOnes, IsFormed, all_ones}
use Rattle.ee_flash.specs.Cells.{HasLengths, device_from}
use Rattle.ee_flash.specs.declared.word.Word.TheVariants.{Erased}
use Rattle.ee_flash.specs.Formed.{IsFormed-pages_of}
use Rattle.ee_flash.specs.Memory.{Memory as Kept, unused_memory}
use Rattle.ee_flash.specs.Pages.{pages_of}
use Rattle.ee_flash.proofs.Public.{joined_pages}
use Rattle.ee_flash.specs.declared.word.Word.{Word}
use Rattle.ee_text.specs.Line.{line_of}
use Rattle.ee_image.specs.Text.{image_text, page_lines, size_text, at_rest, ArePages}
use Rattle.ee_image.specs.Fault.{BeginsWithSize, IsImageFault, IsImageTextFault}
use Rattle.ee_image.specs.Reading.{ArePagesRead, IsPagesFault}
use Rattle.ee_image.specs.declared.fault.ImageFault.{ImageFault}
use Rattle.ee_image.specs.declared.fault.ImageFault.TheVariants.{TooLong, BadLine, BadShape, Memory}
use Rattle.ee_image.proofs.Texts.{one_device_lem, one_fault_lem, texts_are_good_lem}

-- ---- pages that were read, as the cells of a device

lengths_of : (words : ℕ) (pages : List (List Word)) (wears : List ℕ) → ArePages words pages wears
    → All (λ page. length page ≡ words) pages
lengths_of words [] wears proper = All-nil (λ page. length page ≡ words)
lengths_of words (page ∷ pages) [] proper = absurd proper
lengths_of words (page ∷ pages) (wear ∷ wears) proper =
    All-cons (λ (p : List Word). length p ≡ words) page pages proper.0.as_long
    (lengths_of words pages wears proper.1)

cells_below : (words : ℕ) (pages : List (List Word)) (wears : List ℕ) → ArePages words pages wears
    → All IsBelowAllOnes (flat_map (λ page. page) pages)
cells_below words [] wears proper = All-nil IsBelowAllOnes
cells_below words (page ∷ pages) [] proper = absurd proper
cells_below words (page ∷ pages) (wear ∷ wears) proper =
    All-append IsBelowAllOnes page (flat_map (λ page. page) pages) proper.0.below_all_ones
    (cells_below words pages wears proper.1)

cells_length : (words : ℕ) (pages : List (List Word)) (wears : List ℕ) → ArePages words pages wears
    → length (flat_map (λ page. page) pages) ≡ length pages * words
cells_length words [] wears proper = omega arith
cells_length words (page ∷ pages) [] proper = absurd proper
cells_length words (page ∷ pages) (wear ∷ wears) proper =
    omega (
      arith,
      length-append page (flat_map (λ page. page) pages),
      proper.0.as_long,
      cells_length words pages wears proper.1,
      suc-mul (length pages) words,
    )

wears_length : (words : ℕ) (pages : List (List Word)) (wears : List ℕ) → ArePages words pages wears
    → length wears ≡ length pages
wears_length words [] [] proper = refl
wears_length words [] (wear ∷ wears) proper = absurd proper
wears_length words (page ∷ pages) [] proper = absurd proper
wears_length words (page ∷ pages) (wear ∷ wears) proper =
    let same = wears_length words pages wears proper.1 in omega arith

wears_fit : (words : ℕ) (pages : List (List Word)) (wears : List ℕ) → ArePages words pages wears
    → All (λ count. count ≤ all_ones) wears
wears_fit words [] [] proper = All-nil (λ count. count ≤ all_ones)
wears_fit words [] (wear ∷ wears) proper = absurd proper
wears_fit words (page ∷ pages) [] proper = absurd proper
wears_fit words (page ∷ pages) (wear ∷ wears) proper =
    All-cons (λ (count : ℕ). count ≤ all_ones) wear wears proper.0.wear_fits
    (wears_fit words pages wears proper.1)

-- what was read are the cells of a device
pub record AreCells (size : Size) (cells : List Word) (wears : List ℕ) : Type 0 where
  pub lengths : HasLengths size cells wears
  pub below_all_ones : All IsBelowAllOnes cells
  pub wear_fits : All (λ count. count ≤ all_ones) wears

pub are_cells : (size : Size) (text rest : List ℕ) (cells : List Word) (wears : List ℕ)
    → ArePagesRead size.words (page_count size) text rest cells wears → AreCells size cells wears
are_cells size text rest cells wears read =
    let filled = cells_length size.words read.pages wears read.proper in
    let count : length read.pages * size.words ≡ page_count size * size.words =
    ap (λ n. n * size.words) read.count_is in
    record {
      lengths = record {
        cells_length = ap length read.cells_are ∙ filled ∙ count;
        wear_length = wears_length size.words read.pages wears read.proper ∙ read.count_is;
      };
      below_all_ones =
          subst (All IsBelowAllOnes) (sym read.cells_are)
          (cells_below size.words read.pages wears read.proper);
      wear_fits = wears_fit size.words read.pages wears read.proper;
    }

-- ---- a text that was read

-- the text is this device's, which is at rest
pub record IsDevice (text : List ℕ) (device : Device) : Type 0 where
  pub formed : IsFormed device
  pub text_is : text ≡ image_text device
  pub rests : device ≡ at_rest device

pub device_read : (text rest : List ℕ) (size : Size) (cells : List Word) (wears : List ℕ)
    → BeginsWithSize text size rest → IsWithinLimits size
    → ArePagesRead size.words (page_count size) rest [] cells wears
    → IsDevice text (device_from size cells wears)
device_read text rest size cells wears begins limits read =
    let kept = are_cells size rest [] cells wears read in
    let pages : pages_of size cells ≡ read.pages =
    ap (pages_of size) read.cells_are
    ∙ joined_pages size read.pages read.count_is
    (lengths_of size.words read.pages wears read.proper) in
    let lines : rest ≡ page_lines (pages_of size cells) wears =
    read.text_is ∙ append-nil (page_lines read.pages wears)
    ∙ ap (λ l. page_lines l wears) (sym pages) in
    record {
      formed =
          IsFormed-pages_of size cells wears 0 None true limits kept.lengths.cells_length
          kept.below_all_ones kept.lengths.wear_length kept.wear_fits (omega arith);
      text_is = begins.text_is ∙ ap (λ l. line_of (size_text size) ++ l) lines;
      rests = refl;
    }

-- the device in memory is that one
pub kept_device : (text : List ℕ) (kept : Kept) (device : Device) → IsDevice text device
    → kept ≡ unused_memory device → IsDevice text kept.device
kept_device text kept device is same =
    subst (λ (memory : Kept). IsDevice text memory.device) (sym same) is

pub same_device : (text : List ℕ) (device other : Device) → IsDevice text device → IsFormed other
    → text ≡ image_text other → device ≡ at_rest other
same_device text device other is formed spelled =
    is.rests ∙ one_device_lem device other is.formed formed (sym is.text_is ∙ spelled)

pub no_fault : (text : List ℕ) (device : Device) (fault : ImageFault) → IsDevice text device
    → IsImageTextFault text fault → ⊥
no_fault text device fault is bad =
    texts_are_good_lem device fault is.formed (subst (λ l. IsImageTextFault l fault) is.text_is bad)

-- ---- a text that was refused

-- a device's text is refused for want of memory alone
pub only_memory : (text : List ℕ) (fault : ImageFault) (device : Device) → IsImageFault text fault
    → IsFormed device → text ≡ image_text device → fault ≡ Memory
only_memory text fault device (inl bad) formed spelled =
    absurd
    (texts_are_good_lem device fault formed (subst (λ l. IsImageTextFault l fault) spelled bad))
only_memory text fault device (inr lack) formed spelled = lack.1

-- and each fault is named
pub is_named : (text : List ℕ) (given fault : ImageFault) → IsImageFault text given
    → IsImageTextFault text fault → (given ≡ fault) ⊎ (given ≡ Memory)
is_named text given fault (inl bad) other = inl (one_fault_lem text given fault bad other)
is_named text given fault (inr lack) other = inr lack.1

-- what is wrong behind the first line
pub fault_behind : (text rest : List ℕ) (size : Size) (fault : ImageFault) → length text ≤ 4194304
    → BeginsWithSize text size rest → IsWithinLimits size → IsPagesFault size rest fault
    → IsImageFault text fault
fault_behind text rest size TooLong fits begins limits wrong = absurd wrong
fault_behind text rest size (BadLine n) fits begins limits bad =
    inl (
      fits,
      inr record {
        size = size;
        rest = rest;
        begins = begins;
        within_limits = limits;
        bad = bad;
      },
    )
fault_behind text rest size BadShape fits begins limits wrong = absurd wrong
fault_behind text rest size Memory fits begins limits lack = inr (fits, refl)
