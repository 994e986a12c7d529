-- The lines of a certificate's text: none has a line feed in it, so each is told from what follows.
use Rattle.std.proofs.Common.{◌≡◌, ◌≢◌, ℕ, ◌++◌, List, refl, sym, ◌∙◌, arith, inl, codes, rules}
use Rattle.std.specs.Fmt.{decimal}
use Rattle.ee_text.specs.Field.{Lacks}
use Rattle.ee_text.specs.Line.{IsLine, line_of}
use Rattle.ee_text.proofs.Public.{Lacks-append, Lacks-decimal}
use Rattle.ee_text.proofs.Public as feeds
use Rattle.ee_check.specs.declared.certificate.Stretch.{Stretch}
use Rattle.ee_check.specs.Text.{heading, stretch_text, ending, IsNumber, IsStretch, NoFirstLine, NoStretch}

number_lacks : (n : ℕ) → IsNumber n → Lacks 10 (decimal n)
number_lacks n fits = Lacks-decimal 10 n (inl (omega arith)) fits

pub heading_is_line : (slots fill live writes : ℕ) → IsNumber slots → IsNumber fill → IsNumber live
    → IsNumber writes → IsLine (heading slots fill live writes)
heading_is_line slots fill live writes a b c d = search (rules, Lacks-append, number_lacks)

pub spelling_is_line : (stretch : Stretch) → IsStretch stretch → IsLine (stretch_text stretch)
spelling_is_line stretch proper = search (rules, Lacks-append, number_lacks)

pub ending_is_line : (count : ℕ) → IsNumber count → IsLine (ending count)
ending_is_line count fits =
    Lacks-append 10 (codes "transfers ") (decimal count) refl (number_lacks count fits)

-- a first line that is none
pub other_heading : (text line rest : List ℕ) → text ≡ line_of line ++ rest → IsLine line
    → ((slots fill live writes : ℕ) → IsNumber slots → IsNumber fill → IsNumber live
    → IsNumber writes → line ≢ heading slots fill live writes)
    → NoFirstLine text
other_heading text line rest parts is_line other claim more proper e =
    let same =
    feeds.first_line line (heading claim.slots claim.fill claim.live claim.writes) rest more
    is_line
    (heading_is_line claim.slots claim.fill claim.live claim.writes proper.slots proper.fill
    proper.live proper.writes) (sym parts ∙ e) in
    other claim.slots claim.fill claim.live claim.writes proper.slots proper.fill proper.live
    proper.writes same.0

-- a first line that is no stretch's
pub other_stretch : (text line rest : List ℕ) → text ≡ line_of line ++ rest → IsLine line
    → ((stretch : Stretch) → IsStretch stretch → line ≢ stretch_text stretch) → NoStretch text
other_stretch text line rest parts is_line other stretch more proper e =
    other stretch proper
    (feeds.first_line line (stretch_text stretch) rest more is_line
    (spelling_is_line stretch proper) (sym parts ∙ e)).0

-- a first line that isn't the last one of a certificate
pub other_ending : (text line rest : List ℕ) (count : ℕ) → text ≡ line_of line ++ rest → IsLine line
    → IsNumber count → line ≢ ending count → (more : List ℕ) → text ≢ line_of (ending count) ++ more
other_ending text line rest count parts is_line fits other more e =
    other
    (feeds.first_line line (ending count) rest more is_line (ending_is_line count fits)
    (sym parts ∙ e)).0
