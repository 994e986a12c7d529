use Rattle.std.proofs.Common.{rules, arith, inl, subst, sym}
use Rattle.ee_flash.specs.Device.{IsBelowAllOnes}
use Rattle.ee_nor.specs.Formed.{below_all_ones}
use Rattle.ee_shell.proofs.DumpsLemmas.Pairing.{AreChunks, IsPairAt, cells_of_pairs, chunks_are, low_found, one_pair_more}
use Rattle.ee_shell.proofs.DumpsLemmas.Pairs.{no_low_pair, one_low_fault}
use Rattle.ee_shell.proofs.dumps.reading.read_pairs.Goals as goal

pub returns-then-is_low-clause-fault : goal.returns-then-is_low-clause-fault
returns-then-is_low-clause-fault g c =
    let chunks : AreChunks c.args.shape c.args.dump.now c.as_chunks-2.result.0.now =
    chunks_are c.args.shape c.args.dump.now c.as_chunks.result.0.now c.as_chunks-2.result.0.now
    c.requires (λ i. let fits = c.type_inv.dump i in omega arith) c.as_chunks.ensures.front
    c.as_chunks-2.ensures.front c.as_chunks.ensures.front_len c.as_chunks-2.ensures.front_len in
    let here : IsPairAt c.as_chunks-2.result.0.now c.loop-pair.pair-index
    c.from_le_bytes-number.result c.from_le_bytes-check.result =
    record { within = c.loop-pair-test.true; number_is = search rules; check_is = search rules }
    in (
      c.requires,
      low_found c.args.shape c.args.dump.now c.as_chunks-2.result.0.now c.loop-pair.pair-index
          c.from_le_bytes-number.result c.from_le_bytes-check.result c.len-place.result
          c.words-words.result c.loop-pair.cells
          chunks c.loop-pair.invariant here c.if-is_low.ensures (search rules) (search rules)
          (search rules),
    )

pub returns-then-is_low-clause-names : goal.returns-then-is_low-clause-names
returns-then-is_low-clause-names g c = λ page at has.
    let found = returns-then-is_low-clause-fault g c in
    inl (one_low_fault c.args.shape c.args.dump.now page at _ _ has.1 found.1)

pub loop-pair-preserved : goal.loop-pair-preserved
loop-pair-preserved g c =
    let here : IsPairAt c.as_chunks-2.result.0.now c.loop-pair.pair-index
    c.from_le_bytes-number.result c.from_le_bytes-check.result =
    record { within = c.loop-pair-test.true; number_is = search rules; check_is = search rules } in
    one_pair_more c.as_chunks-2.result.0.now c.loop-pair.pair-index c.from_le_bytes-number.result
    c.from_le_bytes-check.result c.loop-pair.cells c.push.new.self c.word_of.result
    c.loop-pair.invariant here (search rules) c.if-is_low.ensures c.word_of.ensures (search rules)

pub returns-clause-read : goal.returns-clause-read
returns-clause-read g c =
    let chunks : AreChunks c.args.shape c.args.dump.now c.as_chunks-2.result.0.now =
    chunks_are c.args.shape c.args.dump.now c.as_chunks.result.0.now c.as_chunks-2.result.0.now
    c.requires (λ i. let fits = c.type_inv.dump i in omega arith) c.as_chunks.ensures.front
    c.as_chunks-2.ensures.front c.as_chunks.ensures.front_len c.as_chunks-2.ensures.front_len in
    cells_of_pairs c.args.shape c.args.dump.now c.as_chunks-2.result.0.now c.loop-pair.pair-index
    c.loop-pair.cells chunks c.loop-pair.invariant (search rules)

pub returns-clause-names : goal.returns-clause-names
returns-clause-names g c = λ page at has.
    no_low_pair c.args.shape c.args.dump.now c.loop-pair.cells page at
    (returns-clause-read g c).spelled has.1

pub push-requires : goal.push-requires
push-requires g c =
    subst IsBelowAllOnes (sym c.word_of.ensures)
    (below_all_ones c.from_le_bytes-number.result c.from_le_bytes-check.result (search rules))
