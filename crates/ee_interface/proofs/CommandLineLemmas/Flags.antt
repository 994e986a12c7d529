-- What words are no flag, and how many there are behind a command that has none.
use Rattle.std.proofs.Common.{[], ◌∷◌, ◌≡◌, ◌≢◌, ◌≤◌, ℕ, Bool, List, length, get_or, ap, arith, inl, refl, rules, subst, sym, codes, decimal}
use Rattle.ee_flash.specs.Size.{IsWithinLimits, Size}
use Rattle.ee_text.specs.Field.{Lacks}
use Rattle.ee_text.proofs.Public.{Lacks-decimal, Lacks-parts}
use Rattle.ee_interface.specs.CommandLine.Job.{AreWordsOf, HaveNoForm, IsNoForm, IsPlain, IsRow, Row, with_flag, with_form}
use Rattle.ee_interface.specs.declared.command_line.form.Form.{Form}
use Rattle.ee_interface.specs.declared.command_line.form.Form.TheVariants.{Words, Pairs, Coded}

pub size_is_no_form : (size : Size) → IsWithinLimits size → IsNoForm (decimal size.pages)
size_is_no_form size within =
    let lacks = Lacks-decimal 45 size.pages (inl (omega arith)) (omega (arith, within)) in (
      λ is. (Lacks-parts 45 45 (codes "-pairs") (subst (Lacks 45) is lacks)).0 refl,
      λ is. (Lacks-parts 45 45 (codes "-coded") (subst (Lacks 45) is lacks)).0 refl,
    )

pub short : (command : List ℕ) (others : List (List ℕ)) (row : Row) → IsPlain command
    → AreWordsOf (command ∷ others) row → length others ≤ 4
short command others row plain spelled = search rules

-- the words behind `header`
pub header_words : (words : List (List ℕ)) (row : Row) → IsRow row
    → AreWordsOf (codes "header" ∷ words) row
    → (rust : Bool) × (settings : List ℕ) × (settings ≢ codes "--rust")
    × (words ≡ with_flag rust (codes "--rust") (settings ∷ []))
header_words words row fits spelled = search rules

apart : codes "--pairs" ≢ codes "--coded"
apart is = absurd (omega (arith, ap (λ (l : List ℕ). get_or l 2 0) is))

-- words that begin with no form, behind one, or behind none
pub one_form : (form other : Form) (words others : List (List ℕ)) → HaveNoForm words
    → HaveNoForm others → with_form form words ≡ with_form other others
    → (form ≡ other) × (words ≡ others)
one_form Words Words words others none bare is = (refl, is)
one_form Words Pairs words others none bare is = absurd ((subst HaveNoForm is none).0 refl)
one_form Words Coded words others none bare is = absurd ((subst HaveNoForm is none).1 refl)
one_form Pairs Words words others none bare is = absurd ((subst HaveNoForm (sym is) bare).0 refl)
one_form Pairs Pairs words others none bare is = (refl, cc is)
one_form Pairs Coded words others none bare is = absurd (apart (cc is))
one_form Coded Words words others none bare is = absurd ((subst HaveNoForm (sym is) bare).1 refl)
one_form Coded Pairs words others none bare is = absurd (apart (sym (cc is)))
one_form Coded Coded words others none bare is = (refl, cc is)
