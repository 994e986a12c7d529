-- The text of a certificate: its header, a line for each stretch, and how many those are.
use Rattle.std.specs.Prelude.{◌≡◌, ◌≢◌, ◌⊎◌, ℕ, ◌+◌, ◌^◌, ◌<◌, List, [], ◌∷◌, ◌++◌, length, flat_map, decimal, codes}
use Rattle.ee_text.specs.Field.{joined_fields}
use Rattle.ee_text.specs.Line.{line_of}
use Rattle.ee_check.specs.declared.certificate.Stretch.{Stretch}
use Rattle.ee_check.specs.declared.reading.TextFault.{TextFault}
use Rattle.ee_check.specs.declared.reading.TextFault.TheVariants.{BadText, Memory}
use Rattle.ee_check.specs.Certificate.{Claim}

-- what the first line says
abbrev pub heading : ℕ → ℕ → ℕ → ℕ → List ℕ
heading slots fill live writes = joined_fields
    (codes "slots" ∷ decimal slots ∷ codes "fill" ∷ decimal fill ∷ codes "live" ∷ decimal live
    ∷ codes "writes" ∷ decimal writes ∷ [])

-- what a stretch's line says
abbrev pub stretch_text : Stretch → List ℕ
stretch_text stretch =
    joined_fields (codes "to" ∷ decimal stretch.to ∷ codes "from" ∷ decimal stretch.from ∷ [])

-- what the last line says
abbrev pub ending : ℕ → List ℕ
ending count = joined_fields (codes "transfers" ∷ decimal count ∷ [])

-- the lines of a claim: the first, those of the stretches, the last
abbrev pub first_line : Claim → List ℕ
first_line claim = line_of (heading claim.slots claim.fill claim.live claim.writes)

abbrev pub stretch_lines : List Stretch → List ℕ
stretch_lines stretches = flat_map (λ stretch. line_of (stretch_text stretch)) stretches

abbrev pub last_line : List Stretch → List ℕ
last_line stretches = line_of (ending (length stretches))

-- the text of a claim
abbrev pub text_of : Claim → List ℕ
text_of claim = first_line claim ++ (stretch_lines claim.stretches ++ last_line claim.stretches)

-- what a text can say: numbers of 64 bits
abbrev pub IsNumber : ℕ → Type 0
IsNumber n = n < 2 ^ 64

-- the numbers of a stretch
pub record IsStretch (stretch : Stretch) : Type 0 where
  pub to : IsNumber stretch.to
  pub from : IsNumber stretch.from

abbrev pub AreStretches : List Stretch → Type 0
AreStretches [] = Unit {0}
AreStretches (stretch ∷ stretches) = IsStretch stretch × AreStretches stretches

-- the numbers of a claim
pub record IsClaim (claim : Claim) : Type 0 where
  pub slots : IsNumber claim.slots
  pub fill : IsNumber claim.fill
  pub live : IsNumber claim.live
  pub writes : IsNumber claim.writes
  pub count : IsNumber (length claim.stretches)
  pub stretches : AreStretches claim.stretches

-- the text is that of the claim
pub record IsText (text : List ℕ) (claim : Claim) : Type 0 where
  pub proper : IsClaim claim
  pub text_is : text ≡ text_of claim

-- no good first line stands at the front of the text
abbrev pub NoFirstLine : List ℕ → Type 0
NoFirstLine text = (claim : Claim) (more : List ℕ) → IsClaim claim → text ≢ first_line claim ++ more

-- no stretch's line does
abbrev pub NoStretch : List ℕ → Type 0
NoStretch text =
    (stretch : Stretch) (more : List ℕ) → IsStretch stretch
    → text ≢ line_of (stretch_text stretch) ++ more

-- after the first line and the lines of these stretches comes neither a stretch's
-- line nor the last line
pub record BreaksOff (text : List ℕ) (n : ℕ) : Type 0 where
  pub claim : Claim
  pub rest : List ℕ
  pub proper : IsClaim claim
  pub text_is : text ≡ first_line claim ++ (stretch_lines claim.stretches ++ rest)
  pub no_stretch : NoStretch rest
  pub not_last : (more : List ℕ) → rest ≢ last_line claim.stretches ++ more
  pub number : n ≡ length claim.stretches + 2

-- after the last line the text goes on
pub record TextGoesOn (text : List ℕ) (n : ℕ) : Type 0 where
  pub claim : Claim
  pub rest : List ℕ
  pub proper : IsClaim claim
  pub text_is : text ≡ text_of claim ++ rest
  pub goes_on : rest ≢ []
  pub number : n ≡ length claim.stretches + 3

-- Line n is the first bad one. A line that isn't ended by a line feed is bad, and so is
-- one that is missing.
abbrev pub IsFirstBadCertificateLine : List ℕ → ℕ → Type 0
IsFirstBadCertificateLine text n =
    (NoFirstLine text × (n ≡ 1)) ⊎ (BreaksOff text n ⊎ TextGoesOn text n)

-- why a text isn't read
abbrev pub IsCertificateTextFault : List ℕ → TextFault → Type 0
IsCertificateTextFault text (BadText n) = IsFirstBadCertificateLine text n
IsCertificateTextFault text Memory = Unit {0}

-- why what is left behind the lines of so many stretches isn't the last line alone
abbrev pub IsEndingFault : List ℕ → ℕ → TextFault → Type 0
IsEndingFault text count (BadText n) =
    (((more : List ℕ) → text ≢ line_of (ending count) ++ more) × (n ≡ count + 2))
    ⊎ ((rest : List ℕ) × (text ≡ line_of (ending count) ++ rest) × (rest ≢ []) × (n ≡ count + 3))
IsEndingFault text count Memory = ⊥
