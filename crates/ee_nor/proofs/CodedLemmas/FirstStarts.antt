-- A flash on which a first start was cut.
use Rattle.std.proofs.Common.{◌≡◌, set, inl, inr, ℕ, ◌≤◌, drop, List, [], Some, true, false, length, refl, sym, ◌∙◌, arith}
use Rattle.std.proofs.lemmas.Bool.{cases_Bool, cases_eq, cases_lt}
use Rattle.std.proofs.lemmas.List.{get_or-set_other, get_or-set_same, length-set, set_past}
use Rattle.ee_flash.specs.Device.{all_ones}
use Rattle.ee_nor.specs.Coded.EccNor.{EccDevice, EccNumber, EraseEcc, ProgramEcc, ecc_at, ecc_in, ecc_page, whole_number}
use Rattle.ee_nor.specs.Coded.Wiping.{NewStaysNew, is_ecc_blank, is_ecc_written}
use Rattle.ee_nor.proofs.CodedLemmas.Wipes.{blank_from, not_blank_from, reads_erased}

erased_unwritten : (number : EccNumber) → number.reading ≡ Some all_ones
    → is_ecc_written number ≡ false
erased_unwritten number is = rw is refl

-- what was blank behind a place is so where what reads as erased does so still
blank_stays : (old new : List EccNumber) (from : ℕ) → length new ≡ length old
    → ((at : ℕ) → from ≤ at → (ecc_in old at).reading ≡ Some all_ones
    → (ecc_in new at).reading ≡ Some all_ones)
    → is_ecc_blank (drop from old) ≡ true → is_ecc_blank (drop from new) ≡ true
blank_stays old new from long keeps blank =
    blank_from new from (length new) refl (λ at behind h.
    elim (cases_Bool (is_ecc_written (ecc_in old at))) [
      | inl written ↦
          let no : true ≡ false =
          sym blank ∙ not_blank_from old from at behind (omega (arith, h, long)) written in
          cc
      | inr erased ↦ erased_unwritten (ecc_in new at)
          (keeps at behind (reads_erased (ecc_in old at).reading erased))
    ])

-- a page is blank behind a place as it was, with other numbers in one that keep what reads as erased
page_stays : (old new : EccDevice) (page : ℕ) (numbers : List EccNumber)
    → new.image ≡ set old.image page numbers → length numbers ≡ length (ecc_page old page)
    → (other from : ℕ)
    → (other ≡ page → (at : ℕ) → from ≤ at
    → (ecc_in (ecc_page old page) at).reading ≡ Some all_ones
    → (ecc_in numbers at).reading ≡ Some all_ones)
    → is_ecc_blank (drop from (ecc_page old other)) ≡ true
    → is_ecc_blank (drop from (ecc_page new other)) ≡ true
page_stays old new page numbers is long other from keeps blank =
    rw is (elim (cases_eq other page) [
      | inl same ↦ elim (cases_lt page (length old.image)) [
        | inl within ↦ rw (same, get_or-set_same old.image page numbers [] within)
            (blank_stays (ecc_page old page) numbers from long (keeps same) (rw same at blank))
        | inr past ↦ rw (set_past old.image page numbers past) blank
      ]
      | inr apart ↦ rw (get_or-set_other old.image page other numbers [] apart) blank
    ])

pub new_stays_new : NewStaysNew
new_stays_new (ProgramEcc page at number) old new first cut may =
    let numbers = set (ecc_page old page) at (ecc_at new page at) in
    let zero_page = first.0 in
    let early = first.1 in
    let stays = page_stays old new page numbers cut.image.1
    (length-set (ecc_page old page) at (ecc_at new page at)) in
    record {
      first = stays 0 2
          (λ same other behind erased.
          rw (get_or-set_other (ecc_page old page) at other (ecc_at new page at)
          (whole_number all_ones) (omega (arith, behind, early))) erased)
          may.first;
      others = λ other h. stays other 0
          (λ same. absurd (omega (arith, h, same, zero_page)))
          (may.others other h);
    }
new_stays_new (EraseEcc page) old new first cut may =
    let left = cut.image.0 in
    let stays = page_stays old new page (ecc_page new page) cut.image.1 left.as_long in
    record {
      first = stays 0 2 (λ same at behind. left.keeps_erased at) may.first;
      others = λ other h. stays other 0 (λ same at behind. left.keeps_erased at) (may.others other h);
    }
