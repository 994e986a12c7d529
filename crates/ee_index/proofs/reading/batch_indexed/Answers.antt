use Rattle.std.proofs.Common.{ℕ, Some, arith, refl, true}
use Rattle.std.proofs.lemmas.Grind.{common_steps}
use Rattle.ee_pages.specs.Sets.{set_of, slots_of}
use Rattle.ee_pages.proofs.Public.{length-slots}
use Rattle.ee_index.specs.Index.{IsNextShown}
use Rattle.ee_index.proofs.IndexReaders.{passes_none, shown_left, shown_next, shown_stands, shown_there, stands_proper}
use Rattle.ee_index.proofs.IndexedBatches.{proper_pushed, pushed}
use Rattle.ee_index.proofs.reading.batch_indexed.Goals as goal

pub value_in-requires : goal.value_in-requires
value_in-requires g c =
    let device = g.F.Flash.device c.args.flash.now in
    let slots = slots_of (set_of c.args.layout.now.side device) in
    let rest = c.in-Some.rest.now in
    let entry : ℕ × ℕ = c.in-Some.entry.now in
    let is : IsNextShown (λ number. true) c.batch.entries.now (Some entry) rest =
    shown_there (λ number. true) _ _ rest entry (passes_none (λ number. true) _)
    c.in-Some.ensures.cases.0 refl in
    let here = shown_stands slots (λ number. true) _ _ rest c.batch.invariant.left entry is in
    omega (
      arith,
      here.listed,
      c.from.ensures,
      length-slots c.args.layout.now.side device c.requires.layout.live.formed,
    )

pub batch-preserved : goal.batch-preserved
batch-preserved g c =
    let device = g.F.Flash.device c.args.flash.now in
    let slots = slots_of (set_of c.args.layout.now.side device) in
    let left = c.batch.invariant.left in
    let rest = c.in-Some.rest.now in
    let entry : ℕ × ℕ = c.in-Some.entry.now in
    let given : ℕ × ℕ = (entry.0, c.value_in.result) in
    let is : IsNextShown (λ number. true) c.batch.entries.now (Some entry) rest =
    shown_there (λ number. true) _ _ rest entry (passes_none (λ number. true) _)
    c.in-Some.ensures.cases.0 refl in
    let here = shown_stands slots (λ number. true) _ _ rest left entry is in
    let next =
    shown_next slots (λ number. true) _ _ rest left entry given.1 is
    (rw (← c.from.ensures) c.value_in.ensures) in record {
      reaches =
          pushed _ _ _ _ _ entry.0 given.1 c.push.ensures.items c.batch.invariant.reaches next;
      left = shown_left slots (λ number. true) _ _ rest left entry is;
      proper =
          proper_pushed _ _ given c.push.ensures.items c.batch.invariant.proper
          (stands_proper slots entry.0 entry.1 here);
    }

pub batch-smaller : goal.batch-smaller
batch-smaller g c = grind (arith, common_steps)
