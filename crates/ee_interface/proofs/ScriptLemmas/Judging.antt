-- Every text is a script or has a first bad line: whether a good line stands at its front can be
-- found out, since there are only so many addresses, values and steps.
use Rattle.std.proofs.Common.{◌≡◌, ◌⊎◌, ◌∙◌, ◌+◌, ◌<◌, ◌≤◌, ◌^◌, ◌++◌, ℕ, zero, suc, List, [], ◌∷◌, length, inl, inr, refl, sym, ap, arith, append_assoc, rules}
use Rattle.std.proofs.lemmas.Grind.{common_steps}
use Rattle.std.proofs.lemmas.Bool.{cases_lt}
use Rattle.ee_flash.specs.declared.fuse.Fuse.{Fuse}
use Rattle.ee_flash.specs.declared.fuse.Tear.{Tear}
use Rattle.ee_flash.specs.declared.fuse.Tear.TheVariants.{Nothing, Done, Torn, Mixed}
use Rattle.ee_text.specs.Line.{line_of}
use Rattle.ee_text.proofs.Public.{begins_so, some_below}
use Rattle.ee_interface.specs.declared.script.command.Command.{Command}
use Rattle.ee_interface.specs.declared.script.command.Command.TheVariants.{Write, Read, Forget, Clean, Arm, PowerOn}
use Rattle.ee_interface.specs.Script.Command.{IsCommand, command_text}
use Rattle.ee_interface.specs.Script.Script.{script, NoLine, IsScript, IsFirstBadCommandLine}

-- ---- the line at the front

-- the line of this command stands at the front
record BeginsWith (text : List ℕ) (command : Command) : Type 0 where
  proper : IsCommand command
  more : List ℕ
  text_is : text ≡ line_of (command_text command) ++ more

below : (n bound : ℕ) → (n < bound) ⊎ ¬ (n < bound)
below n bound =
    elim (cases_lt n bound) [ inl less ↦ inl less | inr more ↦ inr (λ less. omega arith) ]

both : {P Q : Type 0} → P ⊎ ¬ P → Q ⊎ ¬ Q → (P × Q) ⊎ ¬ (P × Q)
both h1 h2 = search rules

proper_or_not : (command : Command) → IsCommand command ⊎ ¬ IsCommand command
proper_or_not (Write address value) =
    both (both (below 0 address) (below address 65535)) (below value (2 ^ 32))
proper_or_not (Read address) = both (below 0 address) (below address 65535)
proper_or_not (Forget address) = both (below 0 address) (below address 65535)
proper_or_not Clean = inl tt
proper_or_not (Arm fuse) = below (fuse.after + 1) (2 ^ 64)
proper_or_not PowerOn = inl tt

stands : (text : List ℕ) (command : Command)
    → BeginsWith text command ⊎ (BeginsWith text command → ⊥)
stands text command = elim (proper_or_not command) [
  | inr improper ↦ inr (λ begins. improper begins.proper)
  | inl proper ↦ elim (begins_so (line_of (command_text command)) text) [
    | inl more ↦ inl record { proper = proper; more = more.0; text_is = more.1 }
    | inr none ↦ inr (λ begins. none begins.more begins.text_is)
  ]
]

some_value : (text : List ℕ) (address : ℕ)
    → ((value : ℕ) × BeginsWith text (Write address value))
    ⊎ (((value : ℕ) × BeginsWith text (Write address value)) → ⊥)
some_value text address =
    elim
    (some_below (λ value. BeginsWith text (Write address value))
    (λ value. stands text (Write address value)) (2 ^ 32)) [
      | inl one ↦ inl (one.0, one.2)
      | inr none ↦ inr (λ begins. none begins.0 begins.1.proper.1 begins.1)
    ]

-- the fuse of this step and tear
fuse_of : ℕ → Tear → Fuse
fuse_of after tear = record { after = after; tear = tear }

-- whether some tear follows this step
SomeTear : List ℕ → ℕ → Type 0
SomeTear text after = (tear : Tear) × BeginsWith text (Arm (fuse_of after tear))

no_tear : (text : List ℕ) (after : ℕ) → (BeginsWith text (Arm (fuse_of after Nothing)) → ⊥)
    → (BeginsWith text (Arm (fuse_of after Done)) → ⊥)
    → (BeginsWith text (Arm (fuse_of after Torn)) → ⊥)
    → (BeginsWith text (Arm (fuse_of after Mixed)) → ⊥) → (tear : Tear)
    → BeginsWith text (Arm (fuse_of after tear)) → ⊥
no_tear text after h1 h2 h3 h4 tear = search rules

some_tear : (text : List ℕ) (after : ℕ) → SomeTear text after ⊎ (SomeTear text after → ⊥)
unfolding SomeTear
some_tear text after = elim (stands text (Arm (fuse_of after Nothing))) [
  | inl begins ↦ inl (Nothing, begins)
  | inr nothing ↦ elim (stands text (Arm (fuse_of after Done))) [
    | inl begins ↦ inl (Done, begins)
    | inr done ↦ elim (stands text (Arm (fuse_of after Torn))) [
      | inl begins ↦ inl (Torn, begins)
      | inr torn ↦ elim (stands text (Arm (fuse_of after Mixed))) [
        | inl begins ↦ inl (Mixed, begins)
        | inr mixed ↦ inr (λ some. no_tear text after nothing done torn mixed some.0 some.1)
      ]
    ]
  ]
]

-- whether the line of a cut to come stands at the front, and which
SomeArm : List ℕ → Type 0
SomeArm text = (fuse : Fuse) × BeginsWith text (Arm fuse)

some_arm : (text : List ℕ) → SomeArm text ⊎ (SomeArm text → ⊥)
unfolding SomeArm SomeTear fuse_of
some_arm text = elim (some_below (SomeTear text) (some_tear text) (2 ^ 64)) [
  | inl one ↦ inl (fuse_of one.0 one.2.0, one.2.1)
  | inr none ↦ inr (λ some. none some.0.after (omega (arith, some.1.proper)) (some.0.tear, some.1))
]

-- no line of a write, of a read, of a forgetting, of a cut to come, of a command that is one letter
no_line : (text : List ℕ)
    → ((address : ℕ) → address < 65535 → ((value : ℕ) × BeginsWith text (Write address value)) → ⊥)
    → ((address : ℕ) → address < 65535 → BeginsWith text (Read address) → ⊥)
    → ((address : ℕ) → address < 65535 → BeginsWith text (Forget address) → ⊥) → (SomeArm text → ⊥)
    → (BeginsWith text Clean → ⊥) → (BeginsWith text PowerOn → ⊥) → NoLine text
unfolding SomeArm
no_line text writes reads forgets arms clean power (Write address value) more proper e =
    writes address proper.0.1 (value, record { proper = proper; more = more; text_is = e })
no_line text writes reads forgets arms clean power (Read address) more proper e =
    reads address proper.1 record { proper = proper; more = more; text_is = e }
no_line text writes reads forgets arms clean power (Forget address) more proper e =
    forgets address proper.1 record { proper = proper; more = more; text_is = e }
no_line text writes reads forgets arms clean power Clean more proper e =
    clean record { proper = proper; more = more; text_is = e }
no_line text writes reads forgets arms clean power (Arm fuse) more proper e =
    arms (fuse, record { proper = proper; more = more; text_is = e })
no_line text writes reads forgets arms clean power PowerOn more proper e =
    power record { proper = proper; more = more; text_is = e }

-- where none of the lines with an address stands at the front, whether another does
other_at_front : (text : List ℕ)
    → ((address : ℕ) → address < 65535 → ((value : ℕ) × BeginsWith text (Write address value)) → ⊥)
    → ((address : ℕ) → address < 65535 → BeginsWith text (Read address) → ⊥)
    → ((address : ℕ) → address < 65535 → BeginsWith text (Forget address) → ⊥)
    → ((command : Command) × BeginsWith text command) ⊎ NoLine text
unfolding SomeArm
other_at_front text writes reads forgets = elim (some_arm text) [
  | inl arm ↦ inl (Arm arm.0, arm.1)
  | inr arms ↦ elim (stands text Clean) [
    | inl clean ↦ inl (Clean, clean)
    | inr clean ↦ elim (stands text PowerOn) [
      | inl power ↦ inl (PowerOn, power)
      | inr power ↦ inr (no_line text writes reads forgets arms clean power)
    ]
  ]
]

-- whether a good line stands at the front, and which
at_front : (text : List ℕ) → ((command : Command) × BeginsWith text command) ⊎ NoLine text
at_front text =
    elim
    (some_below (λ address. (value : ℕ) × BeginsWith text (Write address value))
    (some_value text) 65535) [
      | inl write ↦ inl (Write write.0 write.2.0, write.2.1)
      | inr writes ↦ elim
          (some_below (λ address. BeginsWith text (Read address))
          (λ address. stands text (Read address)) 65535) [
            | inl read ↦ inl (Read read.0, read.2)
            | inr reads ↦ elim
                (some_below (λ address. BeginsWith text (Forget address))
                (λ address. stands text (Forget address)) 65535) [
                  | inl forget ↦ inl (Forget forget.0, forget.2)
                  | inr forgets ↦ other_at_front text writes reads forgets
                ]
          ]
    ]

-- ---- the whole text

-- what the text is
IsJudged : List ℕ → Type 0
IsJudged text =
    ((commands : List Command) × IsScript text commands) ⊎ ((n : ℕ) × IsFirstBadCommandLine text n)

behind_line : (text : List ℕ) (command : Command) (begins : BeginsWith text command)
    → IsJudged begins.more → IsJudged text
unfolding IsJudged
behind_line text command begins (inl good) = inl (
  command ∷ good.0,
  record {
    proper = (begins.proper, good.1.proper);
    text_is =
        begins.text_is ∙ ap (λ more. line_of (command_text command) ++ more) good.1.text_is;
  },
)
behind_line text command begins (inr bad) = inr (
  bad.0 + 1,
  record {
    good = command ∷ bad.1.good;
    rest = bad.1.rest;
    proper = (begins.proper, bad.1.proper);
    text_is =
        begins.text_is ∙ ap (λ more. line_of (command_text command) ++ more) bad.1.text_is
        ∙ sym (append_assoc (line_of (command_text command)) (script bad.1.good) bad.1.rest);
    goes_on = bad.1.goes_on;
    bad = bad.1.bad;
    number = omega (arith, bad.1.number);
  },
)

shorter : (text : List ℕ) (command : Command) (begins : BeginsWith text command)
    → length begins.more < length text
shorter text command begins = grind (arith, common_steps)

-- a text of at most so many bytes
judged : (most : ℕ) (text : List ℕ) → length text ≤ most → IsJudged text
unfolding IsJudged
judged most [] short = inl ([], record { proper = tt; text_is = refl })
judged zero (byte ∷ text) short = absurd (omega arith)
judged (suc most) (byte ∷ text) short = elim (at_front (byte ∷ text)) [
  | inl line ↦ behind_line (byte ∷ text) line.0 line.1
      (judged most line.1.more (omega (arith, shorter (byte ∷ text) line.0 line.1)))
  | inr none ↦ inr (
    1,
    record {
      good = [];
      rest = byte ∷ text;
      proper = tt;
      text_is = refl;
      goes_on = λ e. omega (arith, ap length e);
      bad = none;
      number = refl;
    },
  )
]

pub script_or_bad_line : (text : List ℕ)
    → ((commands : List Command) × IsScript text commands)
    ⊎ ((n : ℕ) × IsFirstBadCommandLine text n)
unfolding IsJudged
script_or_bad_line text = judged (length text) text (omega arith)
