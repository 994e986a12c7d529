-- A text is the text of one claim at most, or has one first bad line, and not both.
use Rattle.std.proofs.Common.{◌≡◌, ◌⊎◌, ℕ, ◌+◌, ◌++◌, List, [], ◌∷◌, length, get_or, refl, sym, ◌∙◌, ap, arith, append_assoc, inl, inr, rules}
use Rattle.std.proofs.lemmas.Grind.{common_steps}
use Rattle.std.specs.Fmt.{decimal}
use Rattle.std.proofs.lemmas.Fmt.{decimal_injective}
use Rattle.std.proofs.lemmas.List.{append-nil, append_cancel_left}
use Rattle.ee_text.specs.Line.{IsLine, line_of}
use Rattle.ee_text.proofs.Public.{first_place, Lacks-decimal}
use Rattle.ee_text.proofs.Public as feeds
use Rattle.ee_check.specs.declared.certificate.Stretch.{Stretch}
use Rattle.ee_check.specs.declared.reading.TextFault.{TextFault}
use Rattle.ee_check.specs.declared.reading.TextFault.TheVariants.{BadText, Memory}
use Rattle.ee_check.specs.Certificate.{Claim}
use Rattle.ee_check.specs.Text.{heading, stretch_text, ending, first_line, stretch_lines, last_line, text_of, IsNumber, IsStretch, AreStretches, IsClaim, IsText, NoFirstLine, NoStretch, BreaksOff, TextGoesOn, IsFirstBadCertificateLine, IsCertificateTextFault, IsEndingFault}
use Rattle.ee_check.proofs.Lines.{heading_is_line, spelling_is_line}
use Rattle.ee_check.proofs.Bounds.{same_claim}
use Rattle.ee_check.proofs.Tight.{same_stretch}

-- ---- two lines are never spelled alike

-- a number before a space
number_before : (m n : ℕ) (x y : List ℕ) → IsNumber m → IsNumber n
    → decimal m ++ 32 ∷ x ≡ decimal n ++ 32 ∷ y → (m ≡ n) × (x ≡ y)
number_before m n x y fits suits e =
    let parts =
    first_place 32 (decimal m) (decimal n) x y (Lacks-decimal 32 m (inl (omega arith)) fits)
    (Lacks-decimal 32 n (inl (omega arith)) suits) e in
    (decimal_injective m n fits suits parts.0, parts.1)

spelling_injective : (s t : Stretch) → IsStretch s → IsStretch t → stretch_text s ≡ stretch_text t
    → s ≡ t
spelling_injective s t proper other e =
    search (rules, number_before, append_cancel_left, decimal_injective, same_stretch)

-- a claim without its stretches
headings : Claim → Claim → Type 0
headings c d = (c.slots ≡ d.slots) × (c.fill ≡ d.fill) × (c.live ≡ d.live) × (c.writes ≡ d.writes)

heading_injective : (c d : Claim) → IsClaim c → IsClaim d
    → heading c.slots c.fill c.live c.writes ≡ heading d.slots d.fill d.live d.writes → headings c d
unfolding headings
heading_injective c d proper other e =
    search (rules, number_before, append_cancel_left, decimal_injective)

-- the last line is no stretch's
last_is_no_stretch : (count : ℕ) (rest : List ℕ) → NoStretch (line_of (ending count) ++ rest)
last_is_no_stretch count rest stretch more proper e = omega (arith, ap (λ l. get_or l 1 0) e)

-- ---- the front of a text: its first line, and the stretches' lines

pub record IsFront (text : List ℕ) (claim : Claim) (tail : List ℕ) : Type 0 where
  pub proper : IsClaim claim
  pub text_is : text ≡ first_line claim ++ (stretch_lines claim.stretches ++ tail)
  pub no_stretch : NoStretch tail

same_stretches : (s t : List Stretch) (x y : List ℕ) → AreStretches s → AreStretches t → NoStretch x
    → NoStretch y → stretch_lines s ++ x ≡ stretch_lines t ++ y → (s ≡ t) × (x ≡ y)
same_stretches [] [] x y proper other no_x no_y e = (refl, e)
same_stretches [] (b ∷ t) x y proper other no_x no_y e = grind (arith, common_steps)
same_stretches (a ∷ s) [] x y proper other no_x no_y e = grind (arith, common_steps)
same_stretches (a ∷ s) (b ∷ t) x y proper other no_x no_y e =
    let lines : line_of (stretch_text a) ++ (stretch_lines s ++ x)
    ≡ line_of (stretch_text b) ++ (stretch_lines t ++ y) =
    sym (append_assoc (line_of (stretch_text a)) (stretch_lines s) x) ∙ e
    ∙ append_assoc (line_of (stretch_text b)) (stretch_lines t) y in
    let first =
    feeds.first_line (stretch_text a) (stretch_text b) (stretch_lines s ++ x)
    (stretch_lines t ++ y) (spelling_is_line a proper.0) (spelling_is_line b other.0)
    lines in
    let stretch : a ≡ b = spelling_injective a b proper.0 other.0 first.0 in
    let rest = same_stretches s t x y proper.1 other.1 no_x no_y first.1 in
    (ap (λ z. z ∷ s) stretch ∙ ap (λ l. b ∷ l) rest.0, rest.1)

stretch_lines-append : (s : List Stretch) (stretch : Stretch)
    → stretch_lines (s ++ stretch ∷ []) ≡ stretch_lines s ++ line_of (stretch_text stretch)
stretch_lines-append [] stretch = append-nil (line_of (stretch_text stretch))
stretch_lines-append (a ∷ s) stretch = grind (arith, common_steps, (stretch_lines-append s stretch))

AreStretches-append : (s : List Stretch) (stretch : Stretch) → AreStretches s → IsStretch stretch
    → AreStretches (s ++ stretch ∷ [])
AreStretches-append [] stretch proper one = (one, tt)
AreStretches-append (a ∷ s) stretch proper one =
    (proper.0, AreStretches-append s stretch proper.1 one)

-- one stretch more is read
pub one_read : (text : List ℕ) (old new : List Stretch) (stretch : Stretch) (rest more : List ℕ)
    → text ≡ stretch_lines old ++ rest → AreStretches old
    → IsStretch stretch × (rest ≡ line_of (stretch_text stretch) ++ more)
    → new ≡ old ++ stretch ∷ [] → (text ≡ stretch_lines new ++ more) × AreStretches new
one_read text old new stretch rest more lines proper found pushed =
    grind (arith, common_steps, stretch_lines-append, AreStretches-append)

claim_is_line : (claim : Claim) → IsClaim claim
    → IsLine (heading claim.slots claim.fill claim.live claim.writes)
claim_is_line claim proper =
    heading_is_line claim.slots claim.fill claim.live claim.writes proper.slots proper.fill
    proper.live proper.writes

one_front : (text : List ℕ) (c d : Claim) (x y : List ℕ) → IsFront text c x → IsFront text d y
    → (c ≡ d) × (x ≡ y)
unfolding headings
one_front text c d x y front other =
    let first =
    feeds.first_line (heading c.slots c.fill c.live c.writes)
    (heading d.slots d.fill d.live d.writes) (stretch_lines c.stretches ++ x)
    (stretch_lines d.stretches ++ y)
    (claim_is_line c front.proper) (claim_is_line d other.proper)
    (sym front.text_is ∙ other.text_is) in
    let head = heading_injective c d front.proper other.proper first.0 in
    let rest =
    same_stretches c.stretches d.stretches x y front.proper.stretches other.proper.stretches
    front.no_stretch other.no_stretch first.1 in
    (same_claim c d head.0 head.1 head.2 head.3 rest.0, rest.1)

front_has_first : (text : List ℕ) (claim : Claim) (tail : List ℕ) → IsFront text claim tail
    → NoFirstLine text → ⊥
front_has_first text claim tail front none =
    none claim (stretch_lines claim.stretches ++ tail) front.proper front.text_is

front_of_text : (text : List ℕ) (claim : Claim) → IsText text claim
    → IsFront text claim (last_line claim.stretches)
front_of_text text claim is = search (rules, append-nil, last_is_no_stretch)

front_of_break : (text : List ℕ) (n : ℕ) (breaks : BreaksOff text n)
    → IsFront text breaks.claim breaks.rest
front_of_break text n breaks =
    record { proper = breaks.proper; text_is = breaks.text_is; no_stretch = breaks.no_stretch }

-- a whole text, and more
text_and_more : (claim : Claim) (rest : List ℕ)
    → text_of claim ++ rest
    ≡ first_line claim ++ (stretch_lines claim.stretches ++ (last_line claim.stretches ++ rest))
text_and_more claim rest = grind (arith, common_steps)

front_of_more : (text : List ℕ) (n : ℕ) (more : TextGoesOn text n)
    → IsFront text more.claim (last_line more.claim.stretches ++ more.rest)
front_of_more text n more = search (rules, text_and_more, last_is_no_stretch)

-- ---- texts and bad lines

pub one_text_lem : (text : List ℕ) (claim other : Claim) → IsText text claim → IsText text other
    → claim ≡ other
one_text_lem text claim other is too = (one_front text claim other (last_line claim.stretches)
    (last_line other.stretches) (front_of_text text claim is) (front_of_text text other too)).0

pub texts_are_good_lem : (text : List ℕ) (claim : Claim) (n : ℕ) → IsText text claim
    → IsFirstBadCertificateLine text n → ⊥
texts_are_good_lem text claim n is (inl none) =
    front_has_first text claim (last_line claim.stretches) (front_of_text text claim is) none.0
texts_are_good_lem text claim n is (inr (inl breaks)) =
    let same =
    one_front text claim breaks.claim (last_line claim.stretches) breaks.rest
    (front_of_text text claim is) (front_of_break text n breaks) in
    breaks.not_last []
    (sym same.1 ∙ ap (λ c. last_line c.stretches) same.0
    ∙ sym (append-nil (last_line breaks.claim.stretches)))
texts_are_good_lem text claim n is (inr (inr more)) =
    let same =
    one_front text claim more.claim (last_line claim.stretches)
    (last_line more.claim.stretches ++ more.rest) (front_of_text text claim is)
    (front_of_more text n more) in
    more.goes_on (append_cancel_left (last_line more.claim.stretches) more.rest []
    (sym same.1 ∙ ap (λ c. last_line c.stretches) same.0
    ∙ sym (append-nil (last_line more.claim.stretches))))

breaks_or_goes : (text : List ℕ) (m n : ℕ) → BreaksOff text m → TextGoesOn text n → ⊥
breaks_or_goes text m n breaks more =
    let same =
    one_front text breaks.claim more.claim breaks.rest
    (last_line more.claim.stretches ++ more.rest) (front_of_break text m breaks)
    (front_of_more text n more) in
    breaks.not_last more.rest (same.1 ∙ ap (λ c. last_line c.stretches ++ more.rest) (sym same.0))

pub one_first_bad_line_lem : (text : List ℕ) (m n : ℕ) → IsFirstBadCertificateLine text m
    → IsFirstBadCertificateLine text n → m ≡ n
one_first_bad_line_lem text m n (inl none) (inl too) = none.1 ∙ sym too.1
one_first_bad_line_lem text m n (inl none) (inr (inl breaks)) =
    absurd (front_has_first text breaks.claim breaks.rest (front_of_break text n breaks) none.0)
one_first_bad_line_lem text m n (inl none) (inr (inr more)) =
    grind (arith, common_steps, front_has_first, front_of_more)
one_first_bad_line_lem text m n (inr (inl breaks)) (inl none) =
    absurd (front_has_first text breaks.claim breaks.rest (front_of_break text m breaks) none.0)
one_first_bad_line_lem text m n (inr (inl breaks)) (inr (inl too)) =
    let same =
    one_front text breaks.claim too.claim breaks.rest too.rest (front_of_break text m breaks)
    (front_of_break text n too) in
    breaks.number ∙ ap (λ c. length c.stretches + 2) same.0 ∙ sym too.number
one_first_bad_line_lem text m n (inr (inl breaks)) (inr (inr more)) =
    absurd (breaks_or_goes text m n breaks more)
one_first_bad_line_lem text m n (inr (inr more)) (inl none) =
    grind (arith, common_steps, front_has_first, front_of_more)
one_first_bad_line_lem text m n (inr (inr more)) (inr (inl breaks)) =
    absurd (breaks_or_goes text n m breaks more)
one_first_bad_line_lem text m n (inr (inr more)) (inr (inr too)) =
    let same =
    one_front text more.claim too.claim (last_line more.claim.stretches ++ more.rest)
    (last_line too.claim.stretches ++ too.rest) (front_of_more text m more)
    (front_of_more text n too) in
    more.number ∙ ap (λ c. length c.stretches + 3) same.0 ∙ sym too.number

-- ---- what a reader answers

pub front_read : (text rest tail : List ℕ) (claim : Claim) → IsClaim claim
    → text ≡ first_line claim ++ rest → rest ≡ stretch_lines claim.stretches ++ tail
    → NoStretch tail → IsFront text claim tail
front_read text rest tail claim proper head lines none = search rules

pub text_read : (text tail : List ℕ) (claim : Claim) → IsFront text claim tail
    → tail ≡ last_line claim.stretches → IsText text claim
text_read text tail claim front last = search rules

-- what is wrong behind the front
pub fault_behind : (text : List ℕ) (claim : Claim) (tail : List ℕ) (count : ℕ) (fault : TextFault)
    → IsFront text claim tail → count ≡ length claim.stretches → IsEndingFault tail count fault
    → IsCertificateTextFault text fault
fault_behind text claim tail count fault h1 h2 h3 = search (rules, text_and_more)

-- every text is read
pub text_answered : (text : List ℕ) (fault : TextFault) (claim : Claim)
    → IsCertificateTextFault text fault → IsText text claim → fault ≡ Memory
text_answered text fault claim h1 h2 = search (rules, texts_are_good_lem)

-- and every bad line is named
pub bad_line_answered : (text : List ℕ) (fault : TextFault) (n : ℕ)
    → IsCertificateTextFault text fault → IsFirstBadCertificateLine text n
    → (fault ≡ BadText n) ⊎ (fault ≡ Memory)
bad_line_answered text (BadText m) n bad line =
    inl (ap BadText (one_first_bad_line_lem text m n bad line))
bad_line_answered text Memory n bad line = inr refl
