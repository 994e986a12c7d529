-- A text is read in one way.
use Rattle.std.proofs.Common.{◌≡◌, ℕ, ◌+◌, ◌<◌, ◌^◌, ◌++◌, List, [], ◌∷◌, length, refl, rules, sym, ◌∙◌, ap, arith, append_assoc, length-append, inl}
use Rattle.std.specs.Fmt.{decimal}
use Rattle.std.specs.List.{AllByRecursion}
use Rattle.std.proofs.lemmas.Fmt.{decimal_injective}
use Rattle.std.proofs.lemmas.List.{append-nil}
use Rattle.ee_codec.specs.Words.{IsAddress, IsValue}
use Rattle.ee_flash.specs.declared.fuse.Fuse.{Fuse}
use Rattle.ee_flash.specs.declared.fuse.Tear.{Tear}
use Rattle.ee_text.specs.Line.{line_of}
use Rattle.ee_text.proofs.Public.{first_place, Lacks-decimal, first_line}
use Rattle.ee_interface.specs.declared.script.command.Command.{Command}
use Rattle.ee_interface.specs.Script.Command.{IsCommand, letter, command_text}
use Rattle.ee_interface.specs.Script.Script.{script, NoLine, NoLineOf, IsScript, IsFirstBadCommandLine, IsFirstBadLineOf}
use Rattle.ee_interface.proofs.ScriptLemmas.Spelling.{Lacks-spelling}

-- ---- two commands are never spelled alike

write_injective : (a v b w : ℕ) → IsAddress a × IsValue v → IsAddress b × IsValue w
    → decimal a ++ 32 ∷ decimal v ≡ decimal b ++ 32 ∷ decimal w → (a ≡ b) × (v ≡ w)
write_injective a v b w h k e =
    let parts =
    first_place 32 (decimal a) (decimal b) (decimal v) (decimal w)
    (Lacks-decimal 32 a (inl (omega arith)) (omega arith))
    (Lacks-decimal 32 b (inl (omega arith)) (omega arith)) e in (
      decimal_injective a b (omega arith) (omega arith) parts.0,
      decimal_injective v w (omega arith) (omega arith) parts.1,
    )

letter_injective : (s t : Tear) → letter s ≡ letter t → s ≡ t
letter_injective s t e = grind arith

pub same_fuse : (f g : Fuse) → f.after ≡ g.after → f.tear ≡ g.tear → f ≡ g
same_fuse f g after tear = search rules

arm_injective : (m n : ℕ) (s t : Tear) → m + 1 < 2 ^ 64 → n + 1 < 2 ^ 64
    → decimal (m + 1) ++ 32 ∷ letter s ≡ decimal (n + 1) ++ 32 ∷ letter t → (m ≡ n) × (s ≡ t)
arm_injective m n s t h k e =
    let parts =
    first_place 32 (decimal (m + 1)) (decimal (n + 1)) (letter s) (letter t)
    (Lacks-decimal 32 (m + 1) (inl (omega arith)) h)
    (Lacks-decimal 32 (n + 1) (inl (omega arith)) k) e in
    (omega (arith, decimal_injective (m + 1) (n + 1) h k parts.0), letter_injective s t parts.1)

pub spelling_injective : (c d : Command) → IsCommand c → IsCommand d
    → command_text c ≡ command_text d → c ≡ d
spelling_injective c d h k e = search (rules, write_injective, decimal_injective, arm_injective)

-- ---- the good lines at the front of a text

-- nothing has no line
pub no_line_in_nothing : NoLine []
no_line_in_nothing command more proper e =
    omega (
      arith,
      ap length e,
      length-append (line_of (command_text command)) more,
      length-append (command_text command) (10 ∷ []),
    )

-- the lines in front of what is no good line are determined, whichever commands are good
module _ (IsGood : Command → Type 0)
    (proper : (command : Command) → IsGood command → IsCommand command) where
  none_in_nothing : NoLineOf IsGood []
  none_in_nothing command more is = no_line_in_nothing command more (proper command is)

  good_front : (cs ds : List Command) (x y : List ℕ) → AllByRecursion IsGood cs
      → AllByRecursion IsGood ds → NoLineOf IsGood x → NoLineOf IsGood y
      → script cs ++ x ≡ script ds ++ y → (cs ≡ ds) × (x ≡ y)
  good_front [] [] x y h k no_x no_y e = (refl, e)
  good_front [] (d ∷ ds) x y h k no_x no_y e =
      absurd
      (no_x d (script ds ++ y) k.0 (e ∙ append_assoc (line_of (command_text d)) (script ds) y))
  good_front (c ∷ cs) [] x y h k no_x no_y e =
      absurd
      (no_y c (script cs ++ x) h.0
      (sym e ∙ append_assoc (line_of (command_text c)) (script cs) x))
  good_front (c ∷ cs) (d ∷ ds) x y h k no_x no_y e =
      let lines : line_of (command_text c) ++ (script cs ++ x)
      ≡ line_of (command_text d) ++ (script ds ++ y) =
      sym (append_assoc (line_of (command_text c)) (script cs) x) ∙ e
      ∙ append_assoc (line_of (command_text d)) (script ds) y in
      let first = first_line (command_text c) (command_text d) (script cs ++ x) (script ds ++ y)
      (Lacks-spelling c (proper c h.0)) (Lacks-spelling d (proper d k.0)) lines in
      let command : c ≡ d = spelling_injective c d (proper c h.0) (proper d k.0) first.0 in
      let rest = good_front cs ds x y h.1 k.1 no_x no_y first.1 in
      let commands = rest.0 in
      (cc, rest.1)

  pub one_reading : (text : List ℕ) (commands others : List Command)
      → AllByRecursion IsGood commands → text ≡ script commands → AllByRecursion IsGood others
      → text ≡ script others → commands ≡ others
  one_reading text commands others good is good_too is_too =
      (good_front commands others [] [] good good_too none_in_nothing none_in_nothing
      (append-nil (script commands) ∙ sym is ∙ is_too ∙ sym (append-nil (script others)))).0

  pub one_bad_line : (text : List ℕ) (m n : ℕ) → IsFirstBadLineOf IsGood text m
      → IsFirstBadLineOf IsGood text n → m ≡ n
  one_bad_line text m n first second = search (rules, good_front)

  pub no_bad_line : (text : List ℕ) (commands : List Command) (n : ℕ)
      → AllByRecursion IsGood commands → text ≡ script commands → IsFirstBadLineOf IsGood text n → ⊥
  no_bad_line text commands n good whole bad =
      let same = good_front commands bad.good [] bad.rest good bad.proper none_in_nothing bad.bad
      (append-nil (script commands) ∙ sym whole ∙ bad.text_is) in
      bad.goes_on (sym same.1)

pub one_script_lem : (text : List ℕ) (commands others : List Command) → IsScript text commands
    → IsScript text others → commands ≡ others
one_script_lem text commands others first second = search (rules, one_reading)

pub one_first_bad_line_lem : (text : List ℕ) (m n : ℕ) → IsFirstBadCommandLine text m
    → IsFirstBadCommandLine text n → m ≡ n
one_first_bad_line_lem = one_bad_line IsCommand (λ command is. is)

pub scripts_are_good_lem : (text : List ℕ) (commands : List Command) (n : ℕ)
    → IsScript text commands → IsFirstBadCommandLine text n → ⊥
scripts_are_good_lem text commands n whole =
    no_bad_line IsCommand (λ command is. is) text commands n whole.proper whole.text_is
