use Rattle.std.proofs.Common.{◌*◌, ◌∙◌, arith, vec_len}
use Rattle.vx_bits.proofs.WordLists.{is_word}
use Rattle.vx_mask.proofs.RunLists.{all_positions}
use Rattle.vx_mask.specs.Positions.{run_positions}
use Rattle.vx_lists.proofs.WordRuns.{runs_counted, runs_fit, runs_found, word_within}
use Rattle.vx_lists.proofs.runs.runs_in.Goals as goal

pub push_runs-requires-clause-within : goal.push_runs-requires-clause-within
push_runs-requires-clause-within c =
    rw c.len-len.ensures (word_within c.args.bits.now.bits c.loop-w.w c.word.result (omega arith) (is_word c.loop-w.w c.word.ensures c.words-words.ensures))

pub push_runs-requires-clause-room : goal.push_runs-requires-clause-room
push_runs-requires-clause-room c =
    let v = c.loop-w.invariant in
    omega (arith, runs_fit c.args.bits.now.bits c.loop-w.runs.items c.loop-w.w c.word.result _ (is_word c.loop-w.w c.word.ensures c.words-words.ensures) v.found v.many, v.room, c.requires)

pub loop-w-preserved : goal.loop-w-preserved
loop-w-preserved c =
    let v = c.loop-w.invariant in
    let word = is_word c.loop-w.w c.word.ensures c.words-words.ensures in
    let step = c.push_runs.ensures in
    record {
      found = runs_found c.args.bits.now.bits c.loop-w.runs.items c.push_runs.new.runs.items c.loop-w.w c.word.result (omega arith) word v.found step.places;
      some = step.none_empty;
      many = runs_counted c.loop-w.runs.items c.push_runs.new.runs.items (64 * c.loop-w.w) c.word.result (vec_len c.loop-w.runs) (vec_len c.push_runs.new.runs) (omega arith) v.many step.count step.places;
      room = step.capacity ∙ v.room;
    }

pub returns-clause-cover : goal.returns-clause-cover
returns-clause-cover c = all_positions c.args.bits.now.bits (run_positions c.loop-w.runs.items) (64 * c.loop-w.w) (omega arith) c.loop-w.invariant.found
