use Rattle.std.proofs.Common.{◌≡◌, ◌∙◌, ◌*◌, ◌≤◌, Some, ap, sym, arith, length}
use Rattle.ee_pages.specs.Meaning.{Map}
use Rattle.ee_core.specs.State.{state_of}
use Rattle.ee_records.proofs.Prepared.{nothing_to_write}
use Rattle.ee_records.proofs.Turning.{changed_in, none_unchanged}
use Rattle.ee_records.specs.Record.{words_with}
use Rattle.ee_records.proofs.record.Record.prepare.Goals as goal

pub turn_words-requires-clause-unchanged : goal.turn_words-requires-clause-unchanged
turn_words-requires-clause-unchanged g c =
    none_unchanged (state_of (g.V.Variables.device c.args.store.now)).map c.args.self.now.base 65535
    (words_with (length c.args.bytes.now)) c.args.bytes.now

pub returns-then-head-bytes : goal.returns-then-head-bytes
returns-then-head-bytes g c =
    let map : Map = (state_of (g.V.Variables.device c.args.store.now)).map in
    let few : length c.args.bytes.now ≤ 4 * c.args.self.now.words =
    omega (arith, c.if-bytes-capacity.false, c.capacity.ensures.capacity) in
    let is : map c.args.self.now.base ≡ Some c.in-Some.head =
    ap map (sym c.base.ensures) ∙ (sym c.in-Ok.ensures.1 ∙ c.in-Some.is) in
    nothing_to_write (g.V.Variables.device c.args.store.now) c.args.self.now.base
    c.args.self.now.words c.in-Some.head c.changed_turns-turned.result c.args.bytes.now
    c.in-Ok.ensures.0 (λ at. omega (arith, c.type_inv.bytes at)) few is c.if-head-bytes.true
    c.if-turned-eq0.true c.changed_turns-turned.ensures.unchanged

pub turn_words-requires-2-clause-changed : goal.turn_words-requires-2-clause-changed
turn_words-requires-2-clause-changed g c =
    let map : Map = (state_of (g.V.Variables.device c.args.store.now)).map in
    let is : map c.args.self.now.base ≡ Some c.in-Some.head =
    ap map (sym c.base.ensures) ∙ (sym c.in-Ok.ensures.1 ∙ c.in-Some.is) in
    changed_in map c.args.self.now.base c.in-Some.head (words_with (length c.args.bytes.now))
    c.changed_turns-turned.result c.args.bytes.now is c.changed_turns-turned.ensures.changed
