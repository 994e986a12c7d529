-- Each text says bytes or has a first bad line, and the reader tells which.
use Rattle.std.proofs.Common.{◌≡◌, ◌≢◌, ◌⊎◌, ℕ, zero, suc, ◌+◌, ◌≤◌, List, [], ◌∷◌, ◌++◌, length, refl, sym, ap, ◌∙◌, subst, arith, append_assoc, inl, inr, Option, Some, None, Result, Ok, Err, rules}
use Rattle.std.proofs.lemmas.Grind.{common_steps}
use Rattle.std.specs.Prelude.{replicate}
use Rattle.std.specs.List.{AllByRecursion}
use Rattle.std.proofs.lemmas.Bool.{ne_eqb, eq-eqb, cases_eq}
use Rattle.std.proofs.lemmas.List.{append-nil, length-replicate, length-map}
use Rattle.std.proofs.lemmas.Option.{none-some}
use Rattle.ee_text.specs.Line.{IsLine}
use Rattle.ee_text.proofs.Public as feeds
use Rattle.ee_shell.specs.Dumps.intel_hex.Record.{Record, AreLinesOf, IsLineOf}
use Rattle.ee_shell.specs.Dumps.intel_hex.Text.{AgreeWithin, IsEndLine, IsGoodFront, IsHexOf, all_placed, numbered_bytes, placed_bytes, upper_after}
use Rattle.ee_shell.specs.Dumps.intel_hex.Fault.{GoesOnAt, IsBadHexLine, StopsAtLine}
use Rattle.ee_shell.specs.Dumps.intel_hex.Reading.{Stops, Ends, Goes, after_record, bytes_of, cells_at_end, cells_of_lines, lines_in, put_all, record_in, step_kept, step_of_record}
use Rattle.ee_shell.proofs.dumps.intel_hex.Lines.{closed-more, first_of, lines_in-line, lines_in-rest, shorter, some_part}
use Rattle.ee_shell.proofs.dumps.intel_hex.Records.{one_record, record_spelled, spelled_record}
use Rattle.ee_shell.proofs.dumps.intel_hex.Places.{Keeps, agree_front, all_kept, all_refused, bytes_kept, bytes_told, cases_option, kept_agrees, nothing_kept}

-- ---- one line

-- the reader at a line, behind which there is more
pub judged-line : (base n upper : ℕ) (cells : List (Option ℕ)) (line more : List ℕ)
    → cells_of_lines base n upper cells (line ∷ lines_in more)
    ≡ after_record n cells (lines_in more)
    (λ above new. cells_of_lines base (n + 1) above new (lines_in more))
    (step_of_record base upper cells (record_in line))
unfolding cells_of_lines
judged-line base n upper cells line more = let next = some_part more in rw next.parts_are refl

-- and at what is no line
pub judged-rest : (base n upper : ℕ) (cells : List (Option ℕ)) (text : List ℕ) → IsLine text
    → cells_of_lines base n upper cells (lines_in text) ≡ Err n
unfolding cells_of_lines
judged-rest base n upper cells text lacks =
    ap (cells_of_lines base n upper cells) (lines_in-rest text lacks)

pub judged-found : (base n upper : ℕ) (cells : List (Option ℕ)) (text line more : List ℕ)
    (found : Option Record)
    → lines_in text ≡ line ∷ lines_in more → record_in line ≡ found
    → cells_of_lines base n upper cells (lines_in text)
    ≡ after_record n cells (lines_in more)
    (λ above new. cells_of_lines base (n + 1) above new (lines_in more))
    (step_of_record base upper cells found)
judged-found base n upper cells text line more found lines is = search (rules, judged-line)

pub judged-record : (base n upper : ℕ) (cells : List (Option ℕ)) (r : Record) (text more : List ℕ)
    → IsLineOf r text more → cells_of_lines base n upper cells (lines_in text)
    ≡ after_record n cells (lines_in more)
    (λ above new. cells_of_lines base (n + 1) above new (lines_in more))
    (step_of_record base upper cells (Some r))
judged-record base n upper cells r text more l =
    judged-found base n upper cells text l.line more (Some r)
    (lines_in-line text l.line more l.in_line l.text_is) (spelled_record l.line r l.spelled)

-- what a record does, by its type
pub row_ends : (base upper : ℕ) (cells : List (Option ℕ)) (r : Record) → r.kind ≡ 1
    → step_of_record base upper cells (Some r) ≡ Ends
row_ends base upper cells r ends = rw (eq-eqb r.kind 1 ends) refl

step-other : (base upper : ℕ) (cells : List (Option ℕ)) (r : Record)
    (put : Option (List (Option ℕ)))
    → r.kind ≢ 1 → put_all base (placed_bytes upper r) cells ≡ put
    → step_of_record base upper cells (Some r) ≡ step_kept (upper_after upper r) put
step-other base upper cells r put other is =
    rw (ne_eqb r.kind 1 other) (ap (step_kept (upper_after upper r)) is)

pub row_taken : (base upper place : ℕ) (cells new : List (Option ℕ)) (r : Record) → r.kind ≡ 0
    → place ≡ upper + r.address → put_all base (numbered_bytes place r.bytes) cells ≡ Some new
    → step_of_record base upper cells (Some r) ≡ Goes upper new
row_taken base upper place cells new r kind_is place_is put =
    rw kind_is
    (ap (step_kept upper)
    (ap (λ p. put_all base (numbered_bytes p r.bytes) cells) (sym place_is) ∙ put))

pub row_refused : (base upper place : ℕ) (cells : List (Option ℕ)) (r : Record) → r.kind ≡ 0
    → place ≡ upper + r.address → put_all base (numbered_bytes place r.bytes) cells ≡ None
    → step_of_record base upper cells (Some r) ≡ Stops
row_refused base upper place cells r kind_is place_is put =
    rw kind_is
    (ap (step_kept upper)
    (ap (λ p. put_all base (numbered_bytes p r.bytes) cells) (sym place_is) ∙ put))

pub row_other : (base upper above : ℕ) (cells : List (Option ℕ)) (r : Record) → r.kind ≢ 1
    → r.kind ≢ 0 → above ≡ upper_after upper r
    → step_of_record base upper cells (Some r) ≡ Goes above cells
row_other base upper above cells r no_end no_data above_is =
    rw (ne_eqb r.kind 1 no_end, ne_eqb r.kind 0 no_data) (ap (λ u. Goes u cells) (sym above_is))

pub ruleset meeting = (row_ends, row_taken, row_refused, row_other)

-- an end record
pub judged-ends : (base n upper : ℕ) (cells : List (Option ℕ)) (r : Record) (text more : List ℕ)
    → IsLineOf r text more → r.kind ≡ 1
    → cells_of_lines base n upper cells (lines_in text) ≡ cells_at_end (n + 1) cells (lines_in more)
judged-ends base n upper cells r text more l ends =
    judged-record base n upper cells r text more l
    ∙ ap
    (after_record n cells (lines_in more)
    (λ above new. cells_of_lines base (n + 1) above new (lines_in more)))
    (row_ends base upper cells r ends)

-- another, whose bytes are taken or not
pub judged-other : (base n upper : ℕ) (cells : List (Option ℕ)) (r : Record) (text more : List ℕ)
    (put : Option (List (Option ℕ)))
    → IsLineOf r text more → r.kind ≢ 1 → put_all base (placed_bytes upper r) cells ≡ put
    → cells_of_lines base n upper cells (lines_in text)
    ≡ after_record n cells (lines_in more)
    (λ above new. cells_of_lines base (n + 1) above new (lines_in more))
    (step_kept (upper_after upper r) put)
judged-other base n upper cells r text more put l other is =
    judged-record base n upper cells r text more l
    ∙ ap
    (after_record n cells (lines_in more)
    (λ above new. cells_of_lines base (n + 1) above new (lines_in more)))
    (step-other base upper cells r put other is)

-- ---- records one after another

-- the upper address that holds behind them
abbrev pub upper_behind : ℕ → List Record → ℕ
upper_behind upper [] = upper
upper_behind upper (r ∷ records) = upper_behind (upper_after upper r) records

placed_last : (records : List Record) (upper : ℕ) (r : Record)
    → all_placed upper (records ++ r ∷ [])
    ≡ all_placed upper records ++ placed_bytes (upper_behind upper records) r
placed_last [] upper r = append-nil (placed_bytes upper r)
placed_last (x ∷ records) upper r =
    grind (arith, common_steps, (placed_last records (upper_after upper x) r))

-- an end record says nothing
end_says_nothing : (upper : ℕ) (r : Record) → r.kind ≡ 1 → placed_bytes upper r ≡ []
end_says_nothing upper r ends =
    let other : r.kind ≢ 0 = λ e. omega arith in rw (ne_eqb r.kind 0 other) refl

-- the reader came behind these records
pub record Reached (base n upper : ℕ) (seen : List (ℕ × ℕ)) (cells : List (Option ℕ))
    (records : List Record) (text rest : List ℕ) : Type 0 where
  pub new : List (Option ℕ)
  pub keeps : Keeps base (seen ++ all_placed upper records) new
  pub as_long : length new ≡ length cells
  pub judged_is : cells_of_lines base n upper cells (lines_in text)
      ≡ cells_of_lines base (n + length records) (upper_behind upper records) new (lines_in rest)

reach_none : (base n upper : ℕ) (seen : List (ℕ × ℕ)) (cells : List (Option ℕ)) (text rest : List ℕ)
    → text ≡ rest → Keeps base seen cells → Reached base n upper seen cells [] text rest
reach_none base n upper seen cells text rest text_is keeps = search (rules, append-nil)

reach_more : (base n upper : ℕ) (seen : List (ℕ × ℕ)) (cells mid : List (Option ℕ)) (r : Record)
    (records : List Record) (text more rest : List ℕ)
    → IsLineOf r text more → r.kind ≢ 1 → put_all base (placed_bytes upper r) cells ≡ Some mid
    → length mid ≡ length cells
    → Reached base (n + 1) (upper_after upper r) (seen ++ placed_bytes upper r) mid records more
    rest
    → Reached base n upper seen cells (r ∷ records) text rest
reach_more base n upper seen cells mid r records text more rest l other is same reached =
    let number : n + 1 + length records ≡ n + length (r ∷ records) = omega arith in
    record {
      new = reached.new;
      keeps =
          subst (λ p. Keeps base p reached.new)
          (append_assoc seen (placed_bytes upper r) (all_placed (upper_after upper r) records))
          reached.keeps;
      as_long = reached.as_long ∙ same;
      judged_is =
          judged-other base n upper cells r text more (Some mid) l other is ∙ reached.judged_is
          ∙ ap
          (λ m. cells_of_lines base m (upper_behind (upper_after upper r) records) reached.new
          (lines_in rest)) number;
    }

pub reach : (records : List Record) (base n upper : ℕ) (seen : List (ℕ × ℕ))
    (cells : List (Option ℕ)) (text rest : List ℕ)
    → AreLinesOf records text rest → AllByRecursion (λ r. r.kind ≢ 1) records
    → Keeps base seen cells → AgreeWithin base (length cells) (seen ++ all_placed upper records)
    → Reached base n upper seen cells records text rest
reach [] base n upper seen cells text rest lines no_end keeps agree =
    reach_none base n upper seen cells text rest lines keeps
reach (r ∷ records) base n upper seen cells text rest lines no_end keeps agree =
    let behind = all_placed (upper_after upper r) records in
    let agrees : AgreeWithin base (length cells) ((seen ++ placed_bytes upper r) ++ behind) =
    subst (AgreeWithin base (length cells))
    (sym (append_assoc seen (placed_bytes upper r) behind)) agree in
    elim (cases_option (put_all base (placed_bytes upper r) cells)) [
      | inl none ↦ absurd
          (all_refused base (placed_bytes upper r) seen cells keeps none
          (agree_front base (length cells) (seen ++ placed_bytes upper r) behind agrees))
      | inr some ↦
          let one = all_kept base (placed_bytes upper r) seen cells some.0 keeps some.1 in
          reach_more base n upper seen cells some.0 r records text lines.0 rest lines.1 no_end.0
          some.1 one.as_long
          (reach records base (n + 1) (upper_after upper r) (seen ++ placed_bytes upper r) some.0
          lines.0 rest lines.2 no_end.1 one.keeps
          (subst (λ k. AgreeWithin base k ((seen ++ placed_bytes upper r) ++ behind))
          (sym one.as_long) agrees))
    ]

-- ---- what stands next

-- no record that agrees
pub record BadHere (base upper : ℕ) (seen : List (ℕ × ℕ)) (cells : List (Option ℕ)) (text : List ℕ)
    : Type 0 where
  pub none : (r : Record) (more : List ℕ) → IsLineOf r text more
      → AgreeWithin base (length cells) (seen ++ placed_bytes upper r) → ⊥
  pub judged_is : (n : ℕ) → cells_of_lines base n upper cells (lines_in text) ≡ Err n

-- a record that agrees
pub record GoesHere (base upper : ℕ) (seen : List (ℕ × ℕ)) (cells : List (Option ℕ)) (text : List ℕ)
    : Type 0 where
  pub next : Record
  pub more : List ℕ
  pub line : IsLineOf next text more
  pub no_end : next.kind ≢ 1
  pub new : List (Option ℕ)
  pub put_is : put_all base (placed_bytes upper next) cells ≡ Some new
  pub keeps : Keeps base (seen ++ placed_bytes upper next) new
  pub as_long : length new ≡ length cells

-- the end
pub record EndsHere (text : List ℕ) : Type 0 where
  pub more : List ℕ
  pub closes : IsEndLine text more

no_record : (base upper : ℕ) (seen : List (ℕ × ℕ)) (cells : List (Option ℕ))
    (text line rest : List ℕ)
    → IsLine line → lines_in text ≡ line ∷ lines_in rest
    → ((r : Record) (more : List ℕ) → IsLineOf r text more → record_in line ≡ Some r)
    → record_in line ≡ None → BadHere base upper seen cells text
no_record base upper seen cells text line rest in_line lines found none = record {
  none = λ r more l agree. none-some r (sym none ∙ found r more l);
  judged_is = λ n. judged-found base n upper cells text line rest None lines none;
}

refused_record : (base upper : ℕ) (seen : List (ℕ × ℕ)) (cells : List (Option ℕ))
    (text rest : List ℕ) (r : Record)
    → Keeps base seen cells → IsLineOf r text rest → r.kind ≢ 1
    → put_all base (placed_bytes upper r) cells ≡ None → BadHere base upper seen cells text
refused_record base upper seen cells text rest r keeps l other none = record {
  none = λ s more m agree.
      let same = one_record r s text rest more l m in
      all_refused base (placed_bytes upper r) seen cells keeps none
      (subst (λ x. AgreeWithin base (length cells) (seen ++ placed_bytes upper x))
      (sym same.record_is) agree);
  judged_is = λ n. judged-other base n upper cells r text rest None l other none;
}

no_line_here : (base upper : ℕ) (seen : List (ℕ × ℕ)) (cells : List (Option ℕ)) (text : List ℕ)
    → IsLine text → BadHere base upper seen cells text
no_line_here base upper seen cells text lacks = grind (arith, common_steps, judged-rest)

record_here : (base upper : ℕ) (seen : List (ℕ × ℕ)) (cells : List (Option ℕ)) (text rest : List ℕ)
    (r : Record)
    → Keeps base seen cells → IsLineOf r text rest
    → BadHere base upper seen cells text ⊎ (EndsHere text ⊎ GoesHere base upper seen cells text)
record_here base upper seen cells text rest r keeps l = elim (cases_eq r.kind 1) [
  | inl ends ↦ inr (inl record { more = rest; closes = record { last = r; line = l; ends = ends } })
  | inr other ↦ elim (cases_option (put_all base (placed_bytes upper r) cells)) [
    | inl none ↦ inl (refused_record base upper seen cells text rest r keeps l other none)
    | inr some ↦
        let one = all_kept base (placed_bytes upper r) seen cells some.0 keeps some.1 in
        inr
        (inr record {
          next = r;
          more = rest;
          line = l;
          no_end = other;
          new = some.0;
          put_is = some.1;
          keeps = one.keeps;
          as_long = one.as_long;
        })
  ]
]

pub next_here : (base upper : ℕ) (seen : List (ℕ × ℕ)) (cells : List (Option ℕ)) (text : List ℕ)
    → Keeps base seen cells
    → BadHere base upper seen cells text ⊎ (EndsHere text ⊎ GoesHere base upper seen cells text)
next_here base upper seen cells text keeps = elim (first_of text) [
  | inl lacks ↦ inl (no_line_here base upper seen cells text lacks)
  | inr found ↦
      let lines = lines_in-line text found.line found.rest found.in_line found.text_is in
      elim (cases_option (record_in found.line)) [
        | inl none ↦ inl (no_record base upper seen cells text found.line found.rest found.in_line
            lines
            (λ r more l.
            let same =
            feeds.first_line found.line l.line found.rest more found.in_line l.in_line
            (sym found.text_is ∙ l.text_is) in
            ap record_in same.0 ∙ spelled_record l.line r l.spelled) none)
        | inr some ↦ record_here base upper seen cells text found.rest some.0 keeps
            record {
              line = found.line;
              in_line = found.in_line;
              text_is = found.text_is;
              spelled = record_spelled found.line some.0 some.1;
            }
      ]
]

-- ---- a whole text

-- so far the reader comes
pub record Ran (base upper : ℕ) (seen : List (ℕ × ℕ)) (cells : List (Option ℕ)) (text : List ℕ)
    : Type 0 where
  pub records : List Record
  pub rest : List ℕ
  pub lines : AreLinesOf records text rest
  pub no_end : AllByRecursion (λ r. r.kind ≢ 1) records
  pub new : List (Option ℕ)
  pub keeps : Keeps base (seen ++ all_placed upper records) new
  pub as_long : length new ≡ length cells
  pub judged_is : (n : ℕ)
      → cells_of_lines base n upper cells (lines_in text)
      ≡ cells_of_lines base (n + length records) (upper_behind upper records) new
      (lines_in rest)
  pub stops : BadHere base (upper_behind upper records) (seen ++ all_placed upper records) new rest
      ⊎ EndsHere rest

plus_none : (n : ℕ) → n ≡ n + 0
plus_none n = omega arith

ran_here : (base upper : ℕ) (seen : List (ℕ × ℕ)) (cells : List (Option ℕ)) (text : List ℕ)
    → Keeps base seen cells → BadHere base upper seen cells text ⊎ EndsHere text
    → Ran base upper seen cells text
ran_here base upper seen cells text keeps stops =
    let same : seen ≡ seen ++ [] = sym (append-nil seen) in
    record {
      records = [];
      rest = text;
      lines = refl;
      no_end = tt;
      new = cells;
      keeps = subst (λ l. Keeps base l cells) same keeps;
      as_long = refl;
      judged_is = λ n. ap (λ m. cells_of_lines base m upper cells (lines_in text)) (plus_none n);
      stops = subst (λ l. BadHere base upper l cells text ⊎ EndsHere text) same stops;
    }

one_more : (n count : ℕ) → n + 1 + count ≡ n + suc count
one_more n count = omega arith

ran_on : (base upper : ℕ) (seen : List (ℕ × ℕ)) (cells : List (Option ℕ)) (text : List ℕ)
    (goes : GoesHere base upper seen cells text)
    → Ran base (upper_after upper goes.next) (seen ++ placed_bytes upper goes.next) goes.new
    goes.more
    → Ran base upper seen cells text
ran_on base upper seen cells text goes ran =
    let assoc =
    append_assoc seen (placed_bytes upper goes.next)
    (all_placed (upper_after upper goes.next) ran.records) in
    record {
      records = goes.next ∷ ran.records;
      rest = ran.rest;
      lines = (goes.more, goes.line, ran.lines);
      no_end = (goes.no_end, ran.no_end);
      new = ran.new;
      keeps = subst (λ p. Keeps base p ran.new) assoc ran.keeps;
      as_long = ran.as_long ∙ goes.as_long;
      judged_is = λ n.
          judged-other base n upper cells goes.next text goes.more (Some goes.new) goes.line
          goes.no_end goes.put_is
          ∙ ran.judged_is (n + 1)
          ∙ ap
          (λ m. cells_of_lines base m (upper_behind (upper_after upper goes.next) ran.records)
          ran.new (lines_in ran.rest)) (one_more n (length ran.records));
      stops =
          subst
          (λ l. BadHere base (upper_behind (upper_after upper goes.next) ran.records) l ran.new
          ran.rest
          ⊎ EndsHere ran.rest) assoc ran.stops;
    }

run : (most base upper : ℕ) (seen : List (ℕ × ℕ)) (cells : List (Option ℕ)) (text : List ℕ)
    → length text ≤ most → Keeps base seen cells → Ran base upper seen cells text
run zero base upper seen cells text short keeps =
    grind (arith, common_steps, next_here, ran_here, shorter)
run (suc most) base upper seen cells text short keeps =
    elim (next_here base upper seen cells text keeps) [
      | inl bad ↦ ran_here base upper seen cells text keeps (inl bad)
      | inr (inl ends) ↦ ran_here base upper seen cells text keeps (inr ends)
      | inr (inr goes) ↦
          let less = shorter text goes.line.line goes.more goes.line.text_is in
          ran_on base upper seen cells text goes
          (run most base (upper_after upper goes.next) (seen ++ placed_bytes upper goes.next)
          goes.new
          goes.more (omega arith) goes.keeps)
    ]

-- what the reader tells of a text
abbrev pub Told : List ℕ → ℕ → ℕ → Result (List (Option ℕ)) ℕ → Type 0
Told text base size (Ok cells) = IsHexOf text base size (bytes_of cells)
Told text base size (Err n) = IsBadHexLine text base size n

abbrev pub judgement : List ℕ → ℕ → ℕ → Result (List (Option ℕ)) ℕ
judgement text base size = cells_of_lines base 1 0 (replicate size None) (lines_in text)

size_is : (size : ℕ) → length (replicate {A = Option ℕ} size None) ≡ size
size_is size = length-replicate {A = Option ℕ} size None

ended_so : (text : List ℕ) (base size : ℕ) (records : List Record) (closing more : List ℕ)
    (new : List (Option ℕ))
    → IsGoodFront base size records text closing → IsEndLine closing more
    → Keeps base (all_placed 0 records) new → length new ≡ size
    → Told text base size (cells_at_end (1 + length records + 1) new (lines_in more))
ended_so text base size records closing [] new front closes keeps long =
    search (rules, bytes_kept, length-map)
ended_so text base size records closing (b ∷ more) new front closes keeps long =
    let some : b ∷ more ≢ [] = λ e. cc e in
    subst (Told text base size) (sym (closed-more (1 + length records + 1) new (b ∷ more) some))
    (inr record {
      records = records;
      closing = closing;
      rest = b ∷ more;
      front = front;
      closes = closes;
      more = some;
      number = omega arith;
    })

-- a text that was read to its end record
ended : (text : List ℕ) (base size : ℕ) (ran : Ran base 0 [] (replicate size None) text)
    (more : List ℕ)
    → IsEndLine ran.rest more → Told text base size (judgement text base size)
ended text base size ran more closes =
    let long : length ran.new ≡ size = ran.as_long ∙ size_is size in
    let front : IsGoodFront base size ran.records text ran.rest = record {
      lines = ran.lines;
      no_end = ran.no_end;
      agree =
          subst (λ n. AgreeWithin base n (all_placed 0 ran.records)) long
          (kept_agrees base (all_placed 0 ran.records) ran.new ran.keeps);
    } in
    let is : judgement text base size
    ≡ cells_at_end (1 + length ran.records + 1) ran.new (lines_in more) =
    ran.judged_is 1
    ∙ judged-ends base (1 + length ran.records) (upper_behind 0 ran.records) ran.new closes.last
    ran.rest more closes.line closes.ends in
    subst (Told text base size) (sym is)
    (ended_so text base size ran.records ran.rest more ran.new front closes ran.keeps long)

-- a text that was read to a bad line
stopped : (text : List ℕ) (base size : ℕ) (ran : Ran base 0 [] (replicate size None) text)
    → BadHere base (upper_behind 0 ran.records) (all_placed 0 ran.records) ran.new ran.rest
    → Told text base size (judgement text base size)
stopped text base size ran bad =
    let long : length ran.new ≡ size = ran.as_long ∙ size_is size in
    subst (Told text base size) (sym (ran.judged_is 1 ∙ bad.judged_is (1 + length ran.records)))
    (inl record {
      records = ran.records;
      rest = ran.rest;
      front = record {
        lines = ran.lines;
        no_end = ran.no_end;
        agree =
            subst (λ n. AgreeWithin base n (all_placed 0 ran.records)) long
            (kept_agrees base (all_placed 0 ran.records) ran.new ran.keeps);
      };
      none = λ r more l agree. bad.none r more l
          (subst (AgreeWithin base (length ran.new)) (placed_last ran.records 0 r)
          (subst (λ n. AgreeWithin base n (all_placed 0 (ran.records ++ r ∷ []))) (sym long)
          agree));
      number = omega arith;
    })

-- what the reader tells is so
pub is_told : (text : List ℕ) (base size : ℕ) → Told text base size (judgement text base size)
is_told text base size =
    let ran =
    run (length text) base 0 [] (replicate size None) text (omega arith)
    (nothing_kept base size) in
    elim ran.stops [
      | inl bad ↦ stopped text base size ran bad
      | inr ends ↦ ended text base size ran ends.more
          ends.closes
    ]

-- ---- and nothing else is

-- a good front is read
reached : (text rest : List ℕ) (base size : ℕ) (records : List Record)
    → IsGoodFront base size records text rest
    → Reached base 1 0 [] (replicate size None) records text rest
reached text rest base size records front = search (rules, nothing_kept, reach, size_is)

-- what the text says, and what the reader came to
pub record IsRead (text : List ℕ) (base size : ℕ) (bytes : List ℕ) : Type 0 where
  pub cells : List (Option ℕ)
  pub judged_is : judgement text base size ≡ Ok cells
  pub bytes_are : bytes ≡ bytes_of cells

pub is_read : (text bytes : List ℕ) (base size : ℕ) → IsHexOf text base size bytes
    → IsRead text base size bytes
is_read text bytes base size is =
    let so_far = reached text is.closing base size is.records is.front in
    let long : length so_far.new ≡ size = so_far.as_long ∙ size_is size in
    record {
      cells = so_far.new;
      judged_is =
          so_far.judged_is
          ∙ judged-ends base (1 + length is.records) (upper_behind 0 is.records) so_far.new
          is.closes.last is.closing [] is.closes.line is.closes.ends;
      bytes_are =
          bytes_told base bytes (all_placed 0 is.records) so_far.new so_far.keeps
          (is.as_long ∙ sym long) (λ i less. is.bytes_are i (omega arith));
    }

stops_there : (text : List ℕ) (base size n : ℕ) → StopsAtLine text base size n
    → judgement text base size ≡ Err n
stops_there text base size n bad =
    let so_far = reached text bad.rest base size bad.records bad.front in
    let long : length so_far.new ≡ size = so_far.as_long ∙ size_is size in
    let upper = upper_behind 0 bad.records in
    let number : 1 + length bad.records ≡ n = omega (arith, bad.number) in
    elim (next_here base upper (all_placed 0 bad.records) so_far.new bad.rest so_far.keeps) [
      | inl here ↦ so_far.judged_is ∙ here.judged_is (1 + length bad.records) ∙ ap Err number
      | inr (inl ends) ↦ absurd (bad.none ends.closes.last ends.more ends.closes.line
          (subst (AgreeWithin base size)
          (sym
          (placed_last bad.records 0 ends.closes.last
          ∙ ap (λ l. all_placed 0 bad.records ++ l)
          (end_says_nothing upper ends.closes.last ends.closes.ends)
          ∙ append-nil (all_placed 0 bad.records))) bad.front.agree))
      | inr (inr goes) ↦ absurd (bad.none goes.next goes.more goes.line
          (subst (AgreeWithin base size) (sym (placed_last bad.records 0 goes.next))
          (subst
          (λ k. AgreeWithin base k (all_placed 0 bad.records ++ placed_bytes upper goes.next))
          (goes.as_long ∙ long)
          (kept_agrees base (all_placed 0 bad.records ++ placed_bytes upper goes.next) goes.new
          goes.keeps))))
    ]

goes_on_there : (text : List ℕ) (base size n : ℕ) → GoesOnAt text base size n
    → judgement text base size ≡ Err n
goes_on_there text base size n bad =
    let so_far = reached text bad.closing base size bad.records bad.front in
    let number : 1 + length bad.records + 1 ≡ n = omega (arith, bad.number) in
    so_far.judged_is
    ∙ judged-ends base (1 + length bad.records) (upper_behind 0 bad.records) so_far.new
    bad.closes.last bad.closing bad.rest bad.closes.line bad.closes.ends
    ∙ closed-more (1 + length bad.records + 1) so_far.new bad.rest bad.more ∙ ap Err number

pub is_bad : (text : List ℕ) (base size n : ℕ) → IsBadHexLine text base size n
    → judgement text base size ≡ Err n
is_bad text base size n (inl stops) = stops_there text base size n stops
is_bad text base size n (inr goes) = goes_on_there text base size n goes

-- ---- the laws

pub one_reading_lem : (text bytes others : List ℕ) (base size : ℕ) → IsHexOf text base size bytes
    → IsHexOf text base size others → bytes ≡ others
one_reading_lem text bytes others base size is other =
    let first = is_read text bytes base size is in
    let second = is_read text others base size other in
    let same : Ok first.cells ≡ Ok second.cells = sym first.judged_is ∙ second.judged_is in
    let cells : first.cells ≡ second.cells = cc same in
    first.bytes_are ∙ ap bytes_of cells ∙ sym second.bytes_are

pub readings_are_good_lem : (text bytes : List ℕ) (base size n : ℕ) → IsHexOf text base size bytes
    → IsBadHexLine text base size n → ⊥
readings_are_good_lem text bytes base size n is bad =
    let first = is_read text bytes base size is in
    let same : Ok first.cells ≡ Err n = sym first.judged_is ∙ is_bad text base size n bad in
    cc same

pub one_bad_line_lem : (text : List ℕ) (base size n m : ℕ) → IsBadHexLine text base size n
    → IsBadHexLine text base size m → n ≡ m
one_bad_line_lem text base size n m first second =
    let same : Err n ≡ Err m =
    sym (is_bad text base size n first) ∙ is_bad text base size m second in
    cc same

decided : (text : List ℕ) (base size : ℕ) (r : Result (List (Option ℕ)) ℕ) → Told text base size r
    → ((bytes : List ℕ) × IsHexOf text base size bytes) ⊎ ((n : ℕ) × IsBadHexLine text base size n)
decided text base size (Ok cells) told = inl (bytes_of cells, told)
decided text base size (Err n) told = inr (n, told)

pub each_text_is_judged_lem : (text : List ℕ) (base size : ℕ)
    → ((bytes : List ℕ) × IsHexOf text base size bytes) ⊎ ((n : ℕ) × IsBadHexLine text base size n)
each_text_is_judged_lem text base size =
    decided text base size (judgement text base size) (is_told text base size)
