use Rattle.std.proofs.Common.{◌*◌, arith}
use Rattle.vx_mask.proofs.RunLists.{all_positions}
use Rattle.vx_mask.proofs.WordPositions.{word_pushed, word_fits}
use Rattle.vx_bits.proofs.WordLists.{is_word}
use Rattle.vx_mask.proofs.runs.positions_of.Goals as goal

pub push_positions-requires-clause-room : goal.push_positions-requires-clause-room
push_positions-requires-clause-room c =
    let v = c.loop-w.invariant in
    let held = c.loop-w.indices.ok.0 in
    omega (arith, word_fits c.args.bits.now.bits c.loop-w.indices.items c.loop-w.w c.word.result (is_word c.loop-w.w c.word.ensures c.words-words.ensures) v.found, v.room, c.requires)

pub loop-w-preserved : goal.loop-w-preserved
loop-w-preserved c =
    let v = c.loop-w.invariant in
    record {
      found = word_pushed c.args.bits.now.bits c.loop-w.indices.items _ c.loop-w.w c.word.result (omega arith) (is_word c.loop-w.w c.word.ensures c.words-words.ensures) v.found c.push_positions.ensures.items;
      room = omega (arith, c.push_positions.ensures.capacity, v.room);
    }

pub returns : goal.returns
returns c = all_positions c.args.bits.now.bits c.loop-w.indices.items (64 * c.loop-w.w) (omega arith) c.loop-w.invariant.found
