-- How a session goes on: a byte at a time, a line at a time.
use Rattle.std.proofs.Common.{◌≡◌, ◌≢◌, ℕ, ◌+◌, ◌<◌, ◌++◌, List, [], ◌∷◌, length, refl, sym, ◌∙◌, ap, subst, arith, append_assoc, length-append, rules}
use Rattle.std.proofs.lemmas.Grind.{common_steps}
use Rattle.std.proofs.lemmas.List.{append-nil}
use Rattle.std.proofs.lemmas.List.Concat.{flat_map-append}
use Rattle.ee_text.specs.Field.{Lacks}
use Rattle.ee_text.proofs.Public.{first_place, front_ends, no_place, Lacks-append}
use Rattle.ee_interface.specs.declared.script.command.Command.{Command}
use Rattle.ee_interface.specs.declared.script.answer.Answer.{Answer}
use Rattle.ee_text.specs.Line.{IsLine, line_of}
use Rattle.ee_interface.specs.Script.Command.{IsCommand, command_text}
use Rattle.ee_interface.specs.Script.Script.{script, AreCommands, NoLine}
use Rattle.ee_interface.specs.Script.Answer.{report}
use Rattle.ee_interface.specs.Script.Run.{Run}
use Rattle.ee_interface.specs.Script.Session.{Answered, Progress, Goes, MeetsBadLine, saturating_count}
use Rattle.ee_interface.proofs.ScriptLemmas.Spelling.{Lacks-spelling, length-spelling}

-- a line that a line feed ends, and that spells no command, is no good line, whatever follows
pub no_line_at_feed : (text : List ℕ) → Lacks 10 text
    → ((command : Command) → IsCommand command → text ≢ command_text command) → (more : List ℕ)
    → NoLine ((text ++ 10 ∷ []) ++ more)
no_line_at_feed text lacks none more command after proper e =
    let e2 : text ++ 10 ∷ more ≡ command_text command ++ 10 ∷ after =
    sym (append_assoc text (10 ∷ []) more) ∙ e
    ∙ append_assoc (command_text command) (10 ∷ []) after in
    none command proper
    (first_place 10 text (command_text command) more after lacks (Lacks-spelling command proper)
    e2).0

-- a line that is longer than any good one is none, whatever follows
pub no_line_when_long : (text : List ℕ) → Lacks 10 text → 24 < length text → (more : List ℕ)
    → NoLine (text ++ more)
no_line_when_long text lacks long more command after proper e =
    let e2 : text ++ more ≡ command_text command ++ 10 ∷ after =
    e ∙ append_assoc (command_text command) (10 ∷ []) after in
    omega (
      arith,
      front_ends 10 text (command_text command) more after lacks e2,
      length-spelling command proper,
    )

-- what no line feed ends is no good line
pub no_line_at_end : (text : List ℕ) → Lacks 10 text → NoLine text
no_line_at_end text lacks command after proper e =
    no_place 10 text (command_text command) after lacks
    (e ∙ append_assoc (command_text command) (10 ∷ []) after)

-- ---- a line, or a part of one

-- nothing came
pub goes_nowhere : {S : Type 0} (step : S → Command → Answer → S → Type 0) (old : Progress S)
    → Goes step old [] old
goes_nowhere step old = record {
  commands = [];
  answers = [];
  proper = tt;
  text_is = append-nil old.unfinished;
  report_is = sym (append-nil old.report);
  run = refl;
  lines_are = omega arith;
}

-- bytes of an unfinished line
pub goes_keeping : {S : Type 0} (step : S → Command → Answer → S → Type 0) (old new : Progress S)
    (bytes : List ℕ)
    → new.server ≡ old.server → new.report ≡ old.report → new.lines ≡ old.lines
    → new.unfinished ≡ old.unfinished ++ bytes → Goes step old bytes new
goes_keeping step old new bytes server report lines unfinished = record {
  commands = [];
  answers = [];
  proper = tt;
  text_is = sym unfinished;
  report_is = report ∙ sym (append-nil old.report);
  run = server;
  lines_are = omega arith;
}

-- a line feed behind a good line
pub goes_at_feed : {S : Type 0} (step : S → Command → Answer → S → Type 0)
    (old mid new : Progress S) (bytes : List ℕ) (command : Command)
    → IsCommand command → old.unfinished ++ bytes ≡ command_text command → mid.server ≡ old.server
    → mid.report ≡ old.report → mid.lines ≡ old.lines → mid.unfinished ≡ []
    → Answered step mid command new → Goes step old (line_of bytes) new
goes_at_feed {S} step old mid new bytes command proper spelled server reported lines nothing
    answered =
    record {
      commands = command ∷ [];
      answers = answered.answer ∷ [];
      proper = (proper, tt);
      text_is =
          sym (append_assoc old.unfinished bytes (10 ∷ [])) ∙ ap (λ text. text ++ 10 ∷ []) spelled
          ∙ sym
          (ap (λ rest. script (command ∷ []) ++ rest) (answered.unfinished_is ∙ nothing)
          ∙ append-nil (script (command ∷ [])) ∙ append-nil (line_of (command_text command)));
      report_is = answered.report_is ∙ ap (λ text. text ++ report (answered.answer ∷ [])) reported;
      run = (
        new.server,
        subst (λ (s : S). step s command answered.answer new.server) server answered.stepped,
        refl,
      );
      lines_are = omega (arith, answered.lines_are, ap saturating_count lines);
    }

-- a line feed behind a bad line
pub meets_at_feed : {S : Type 0} (old : Progress S) (bytes : List ℕ)
    → IsLine (old.unfinished ++ bytes)
    → ((command : Command) → IsCommand command → old.unfinished ++ bytes ≢ command_text command)
    → MeetsBadLine old (line_of bytes) (saturating_count (old.lines + 1))
meets_at_feed old bytes line none = record {
  good = [];
  rest = (old.unfinished ++ bytes) ++ 10 ∷ [];
  proper = tt;
  text_is = sym (append_assoc old.unfinished bytes (10 ∷ []));
  goes_on = λ e. omega (arith, ap length e, length-append (old.unfinished ++ bytes) (10 ∷ []));
  bad = no_line_at_feed (old.unfinished ++ bytes) line none;
  number = ap saturating_count (omega arith);
}

-- where no good line begins a text that has a line feed, none does whatever follows
no_line_stays : (text line tail more : List ℕ) → Lacks 10 line → text ≡ line_of line ++ tail
    → NoLine text → NoLine (text ++ more)
no_line_stays text line tail more lacks cut none command after proper e =
    let whole : line ++ 10 ∷ (tail ++ more) ≡ command_text command ++ 10 ∷ after =
    sym
    (ap (λ l. l ++ more) (cut ∙ append_assoc line (10 ∷ []) tail)
    ∙ append_assoc line (10 ∷ tail) more)
    ∙ e ∙ append_assoc (command_text command) (10 ∷ []) after in
    none command tail proper
    (cut
    ∙ ap (λ l. line_of l ++ tail)
    (first_place 10 line (command_text command) (tail ++ more) after lacks
    (Lacks-spelling command proper) whole).0)

-- a line that the bytes end, and that is no good one
pub meets_within : {S : Type 0} (old : Progress S) (bytes line tail : List ℕ)
    → IsLine old.unfinished → IsLine line → bytes ≡ line_of line ++ tail
    → NoLine (old.unfinished ++ bytes) → MeetsBadLine old bytes (saturating_count (old.lines + 1))
meets_within old bytes line tail before lacks cut none = record {
  good = [];
  rest = old.unfinished ++ bytes;
  proper = tt;
  text_is = refl;
  goes_on =
      λ e. omega (
        arith,
        ap length e,
        length-append old.unfinished bytes,
        ap length cut,
        length-append (line_of line) tail,
        length-append line (10 ∷ []),
      );
  bad = λ more. no_line_stays (old.unfinished ++ bytes) (old.unfinished ++ line) tail more
      (Lacks-append 10 old.unfinished line before lacks)
      (ap (λ l. old.unfinished ++ l) cut ∙ sym (append_assoc old.unfinished (line_of line) tail)
      ∙ ap (λ l. l ++ tail) (sym (append_assoc old.unfinished line (10 ∷ [])))) none;
  number = ap saturating_count (omega arith);
}

-- bytes that make the line too long
pub meets_when_long : {S : Type 0} (old : Progress S) (bytes : List ℕ)
    → IsLine (old.unfinished ++ bytes) → 24 < length old.unfinished + length bytes
    → MeetsBadLine old bytes (saturating_count (old.lines + 1))
meets_when_long old bytes line long = record {
  good = [];
  rest = old.unfinished ++ bytes;
  proper = tt;
  text_is = refl;
  goes_on = λ e. omega (arith, ap length e, length-append old.unfinished bytes);
  bad = no_line_when_long (old.unfinished ++ bytes) line
      (omega (arith, length-append old.unfinished bytes));
  number = ap saturating_count (omega arith);
}

-- ---- pieces

pub no_front : (front back : List ℕ) → front ++ back ≡ [] → front ≡ []
no_front [] back e = refl
no_front (x ∷ front) back e = cc

pub AreCommands-append : (first second : List Command) → AreCommands first → AreCommands second
    → AreCommands (first ++ second)
AreCommands-append [] second h g = g
AreCommands-append (command ∷ first) second h g = (h.0, AreCommands-append first second h.1 g)

pub Run-append : {S : Type 0} (step : S → Command → Answer → S → Type 0) (old mid new : S)
    (cs ds : List Command) (xs ys : List Answer)
    → Run step old cs xs mid → Run step mid ds ys new → Run step old (cs ++ ds) (xs ++ ys) new
Run-append {S} step old mid new [] ds [] ys first second =
    subst (λ (s : S). Run step s ds ys new) first second
Run-append step old mid new [] ds (x ∷ xs) ys first second = absurd first
Run-append step old mid new (c ∷ cs) ds [] ys first second = absurd first
Run-append step old mid new (c ∷ cs) ds (x ∷ xs) ys first second =
    search (rules, (Run-append step first.0 mid new cs ds xs ys first.2 second))

-- one piece, and then the next
pub goes_on : {S : Type 0} (step : S → Command → Answer → S → Type 0) (old mid new : Progress S)
    (front back : List ℕ)
    → Goes step old front mid → Goes step mid back new → Goes step old (front ++ back) new
goes_on step old mid new front back first second =
    grind (arith, common_steps, AreCommands-append, flat_map-append, Run-append)

-- one piece, and a bad line in the next
pub meets_later : {S : Type 0} (step : S → Command → Answer → S → Type 0) (old mid : Progress S)
    (front back : List ℕ) (n : ℕ)
    → Goes step old front mid → MeetsBadLine mid back n → MeetsBadLine old (front ++ back) n
meets_later step old mid front back n first second = record {
  good = first.commands ++ second.good;
  rest = second.rest;
  proper = AreCommands-append first.commands second.good first.proper second.proper;
  text_is =
      sym (append_assoc old.unfinished front back) ∙ ap (λ text. text ++ back) first.text_is
      ∙ append_assoc (script first.commands) mid.unfinished back
      ∙ ap (λ text. script first.commands ++ text) second.text_is
      ∙ sym (append_assoc (script first.commands) (script second.good) second.rest)
      ∙ ap (λ text. text ++ second.rest)
      (sym
      (flat_map-append (λ command. line_of (command_text command)) first.commands
      second.good));
  goes_on = second.goes_on;
  bad = second.bad;
  number = omega (arith, first.lines_are, second.number, length-append first.commands second.good);
}

-- a bad line, whatever follows in the piece
pub meets_before : {S : Type 0} (old : Progress S) (front back : List ℕ) (n : ℕ)
    → MeetsBadLine old front n → MeetsBadLine old (front ++ back) n
meets_before old front back n met = record {
  good = met.good;
  rest = met.rest ++ back;
  proper = met.proper;
  text_is =
      sym (append_assoc old.unfinished front back) ∙ ap (λ text. text ++ back) met.text_is
      ∙ append_assoc (script met.good) met.rest back;
  goes_on = λ e. met.goes_on (no_front met.rest back e);
  bad = λ more. subst NoLine (sym (append_assoc met.rest back more)) (met.bad (back ++ more));
  number = met.number;
}
