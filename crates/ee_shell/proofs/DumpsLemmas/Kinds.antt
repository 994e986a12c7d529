-- The marks of a dump tell one kind at most.
use Rattle.std.proofs.Common.{◌≡◌, ◌⊎◌, inl, inr, ℕ, List, refl, sym, ap, ◌∙◌, subst}
use Rattle.ee_flash.specs.Size.{Size, size_of}
use Rattle.ee_nor.specs.Coded.Code.{payload_in}
use Rattle.ee_nor.specs.Coded.Coded.{mark_payload}
use Rattle.ee_nor.specs.Coded.Shapes.{IsMarkOf}
use Rattle.ee_nor.proofs.CodedLemmas.Marks.{mark_fits, shapes_differ}
use Rattle.ee_nor.proofs.CodedLemmas.Near.{coded_payload}
use Rattle.ee_interface.specs.declared.command_line.form.Form.{Form}
use Rattle.ee_shell.specs.Dumps.Kind.{HasMark, IsAsked, IsOfOtherKind, Tells, TellsOther, first_half, bytes_number, second_half}
use Rattle.ee_shell.specs.declared.dumps.kind.Marking.{Marking}
use Rattle.ee_shell.specs.declared.dumps.kind.Marking.TheVariants.{Words, Pairs, Coded}

-- a number is the mark of one shape
pub one_shape : (number : ℕ) (size other : Size) → IsMarkOf number size → IsMarkOf number other
    → other ≡ size
one_shape number size other mark mark_too =
    shapes_differ size other mark.within_limits mark_too.within_limits
    (sym (coded_payload (mark_payload other) (mark_fits other mark_too.within_limits))
    ∙ ap payload_in (sym mark_too.is_mark ∙ mark.is_mark)
    ∙ coded_payload (mark_payload size) (mark_fits size mark.within_limits))

pub one_told : (set : List ℕ) (told other : Marking) → Tells set told → Tells set other → other ≡ told
one_told set Words Words first second = refl
one_told set Words Pairs first second = absurd (second.0 first)
one_told set Words (Coded pages words) first second = absurd (second.0 first)
one_told set Pairs Words first second = absurd (first.0 second)
one_told set Pairs Pairs first second = refl
one_told set Pairs (Coded pages words) first second = absurd (second.1 first.1)
one_told set (Coded pages words) Words first second = absurd (first.0 second)
one_told set (Coded pages words) Pairs first second = absurd (first.1 second.1)
one_told set (Coded pages words) (Coded others many) first second =
    let same = one_shape _ (size_of pages words) (size_of others many) first.2 second.2 in
    ap (λ (s : Size). Coded s.pages s.words) same

-- a set without a mark of any kind tells none
pub none_told : (set : List ℕ) → ¬ HasMark set Words → ¬ HasMark set Pairs
    → ((size : Size) → ¬ IsMarkOf (bytes_number set 1) size) → (told : Marking) → ¬ Tells set told
none_told set words pairs codes Words tells = words tells
none_told set words pairs codes Pairs tells = pairs tells.1
none_told set words pairs codes (Coded pages many) tells = codes (size_of pages many) tells.2

-- and one that tells what is asked tells no other
pub asked_alone : (asked : Form) (size : Size) (set : List ℕ) (told : Marking) → Tells set told
    → IsAsked asked size told → (other : Marking) → ¬ TellsOther asked size set other
asked_alone asked size set told tells is other others =
    others.1 (subst (IsAsked asked size) (sym (one_told set told other tells others.0)) is)

pub silent_asks : (asked : Form) (size : Size) (set : List ℕ)
    → ((told : Marking) → ¬ Tells set told) → (other : Marking)
    → ¬ TellsOther asked size set other
silent_asks asked size set none other others = none other others.0

-- a dump tells one other kind
pub one_kind : (asked : Form) (size : Size) (dump : List ℕ) (told other : Marking)
    → IsOfOtherKind asked size dump told → IsOfOtherKind asked size dump other → other ≡ told
one_kind asked size dump told other (inl first) (inl second) =
    one_told (first_half dump) told other first.0 second.0
one_kind asked size dump told other (inl first) (inr second) = absurd (second.0 told first)
one_kind asked size dump told other (inr first) (inl second) = absurd (first.0 other second)
one_kind asked size dump told other (inr first) (inr second) =
    one_told (second_half dump) told other first.1.0 second.1.0
