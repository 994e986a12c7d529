use Rattle.ee_core.proofs.Words.{◌≡◌, false, true, is_some, length, take, not, ap, sym, ◌∙◌, arith, take-length, rules}
use Rattle.ee_core.proofs.Sets.{changed_by, live_in}
use Rattle.ee_core.proofs.Calls.{map_in, puts_of}
use Rattle.ee_core.proofs.Several.{live_few, one_counted}
use Rattle.ee_core.proofs.puts.live_with.Goals.{then-is_none, else-is_none}
use Rattle.ee_core.proofs.puts.live_with.Goals as goal

pub overflow_add-count : goal.overflow_add-count
overflow_add-count g c = search (rules, live_few)

pub entries-preserved : goal.entries-preserved
entries-preserved g c =
    let map = map_in c.args.layout.now.side (g.F.Flash.device c.args.flash.now) in
    let more =
    one_counted map c.args.puts.now c.requires.apart c.entries.put-index c.put-item.result
    c.entries-test.true c.put-item.is in
    elim c.if-is_none.branch [
      | then-is_none w ↦
          let none : is_some (map c.put-item.result.address) ≡ false =
          ap is_some (sym c.latest.ensures) ∙ c.is_none.ensures ∙ ap not w.if-is_none.true in
          let one = rw none at more in
          omega (arith, w.count-is, c.entries.invariant, one)
      | else-is_none w ↦
          let some : is_some (map c.put-item.result.address) ≡ true =
          ap is_some (sym c.latest.ensures) ∙ c.is_none.ensures ∙ ap not w.if-is_none.false in
          let same = rw some at more in
          omega (arith, w.count-is, c.entries.invariant, same)
    ]

pub returns : goal.returns
returns g c =
    let map = map_in c.args.layout.now.side (g.F.Flash.device c.args.flash.now) in
    let all : c.entries.put-index ≡ length c.args.puts.now =
    omega (arith, c.entries-test.false, c.entries.auto.put-index-end) in
    let whole : take c.entries.put-index c.args.puts.now ≡ c.args.puts.now =
    rw all (take-length c.args.puts.now) in
    c.entries.invariant ∙ ap (λ puts. live_in (changed_by (puts_of puts) map)) whole
