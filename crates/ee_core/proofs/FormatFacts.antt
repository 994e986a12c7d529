-- What formatting does: it erases what is not blank, and then commits the first set.
use Rattle.ee_core.proofs.Words.{◌≡◌, ℕ, ◌+◌, ◌<◌, ◌≤◌, true, false, [], length, replicate, refl, ap, ◌∙◌, arith, All, get_or-replicate, get_or-set_other, get_or-set_same, length-replicate, All-from_get_or, rules}
use Rattle.ee_core.proofs.Sets.{Device, IsFormed, IsOn, page_at, page_count, with_page_erased, Erased, is_blank, is_written, blank_page}
use Rattle.ee_core.proofs.Calls.{IsSameBut, Wears}
use Rattle.ee_core.proofs.ErasedPages.{blank_wears, written_wears}
use Rattle.ee_core.proofs.NotBlank.{named}
use Rattle.ee_core.proofs.Wears.{page_wears}
use Rattle.ee_flash.specs.Taking.{Completes}
use Rattle.ee_core.proofs.Taken.{completes_none, completes_one, erase_words}
use Rattle.ee_flash.specs.Step.{Erase}

-- a page is blank now, and the others are as they were
pub record BlanksPage (mid new : Device) (page : ℕ) : Type 0 where
  pub others : IsSameBut page mid new
  pub blank : is_blank (page_at new page) ≡ true
  pub wear : Wears (named page (page_at mid page)) mid new
  pub steps : Completes (erase_words (page_at mid page) page) mid new

pub blank_already : (device : Device) (page : ℕ) → is_blank (page_at device page) ≡ true
    → BlanksPage device device page
blank_already device page blank = record {
  others = λ k apart. refl;
  blank = blank;
  wear = blank_wears page (page_at device page) _ blank;
  steps = rw blank (completes_none device);
}

pub blanks_page : (page : ℕ) (mid new : Device) → IsFormed mid → page < page_count mid.size
    → is_blank (page_at mid page) ≡ false → IsOn mid → new ≡ with_page_erased page mid
    → BlanksPage mid new page
blanks_page page mid new formed h written on done =
    let words = replicate mid.size.words Erased in
    let there =
    ap (λ device. page_at device page) done
    ∙ get_or-set_same mid.image page words [] (omega arith) in
    record {
      others =
          λ k apart.
          ap (λ device. page_at device k) done ∙ get_or-set_other mid.image page k words [] apart;
      blank =
          ap is_blank there
          ∙ blank_page _ _ (length-replicate mid.size.words Erased)
          (λ k below. ap is_written (get_or-replicate mid.size.words k Erased Erased below));
      wear = written_wears _ (page_at mid page) _ _ written
          (page_wears _ _ _ (omega arith) (ap (λ device. device.wear) done));
      steps = rw written (completes_one (Erase page) mid on done);
    }

-- one page more is blank
pub blank_more : (page : ℕ) (mid new : Device)
    → ((k : ℕ) → k < page → is_blank (page_at mid k) ≡ true) → BlanksPage mid new page → (k : ℕ)
    → k < page + 1 → is_blank (page_at new k) ≡ true
blank_more page _ new before blanks k h = search rules

pub all_blank : (device : Device) (pages : ℕ) → length device.image ≤ pages
    → ((k : ℕ) → k < pages → is_blank (page_at device k) ≡ true)
    → All (λ page. is_blank page ≡ true) device.image
all_blank _ _ h each =
    All-from_get_or (λ page. is_blank page ≡ true) _ [] (λ k in_range. each k (omega arith))
