-- Words that were not programmed are erased: those of blank pages.
use Rattle.std.proofs.Common.{◌≡◌, inl, inr, ℕ, true, false, List, [], length, get_or, refl, sym, ap, ◌∙◌}
use Rattle.std.specs.List.{All}
use Rattle.std.specs.Prelude.{not}
use Rattle.std.proofs.lemmas.Bool.{cases_Bool, cases_lt}
use Rattle.std.proofs.lemmas.List.{get_or_past}
use Rattle.std.proofs.lemmas.List.Elements.{All-get_or}
use Rattle.std.proofs.lemmas.List.Folds.{list_any_at}
use Rattle.ee_flash.specs.declared.word.Word.{Word}
use Rattle.ee_flash.specs.declared.word.Word.TheVariants.{Erased, Held, Torn}
use Rattle.ee_pages.specs.Page.{is_blank, is_written, word_in}
use Rattle.ee_pages.specs.Sets.{word_of}

pub erased_word : (word : Word) → is_written word ≡ false → word ≡ Erased
erased_word Erased e = refl
erased_word (Held number) e = absurd (cc e)
erased_word Torn e = absurd (cc e)

pub blank_word : (words : List Word) (at : ℕ) → is_blank words ≡ true → word_in words at ≡ Erased
blank_word words at blank = elim (cases_lt at (length words)) [
  | inr past ↦ get_or_past words at Erased past
  | inl within ↦ elim (cases_Bool (is_written (word_in words at))) [
    | inr unwritten ↦ erased_word (word_in words at) unwritten
    | inl written ↦
        let no : true ≡ false =
        sym blank ∙ ap not (list_any_at is_written words at Erased within written) in
        cc no
  ]
]

pub blank_set : (pages : List (List Word)) (page at : ℕ) → All (λ page. is_blank page ≡ true) pages
    → word_of pages page at ≡ Erased
blank_set pages page at blank = elim (cases_lt page (length pages)) [
  | inr past ↦ ap (λ words. word_in words at) (get_or_past pages page [] past)
  | inl within ↦ blank_word (get_or pages page []) at
      (All-get_or (λ page. is_blank page ≡ true) pages page [] within blank)
]
