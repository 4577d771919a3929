use Rattle.std.proofs.Common.{◌≡◌, ◌+◌, ◌++◌, vec_len}
use Rattle.std.specs.Vec.{vec_capacity}
use Rattle.std.specs.Int.RustNames.{count_ones}
use Rattle.vx_bits.specs.Words.{word_bits}
use Rattle.vx_mask.specs.Positions.{positions}
use Rattle.vx_mask.proofs.runs.push_positions.Given as goal

abbrev pub invariant-loop-k : goal.invariant-loop-k
invariant-loop-k l = record {
  items : l.indices.items ++ positions l.base (word_bits l.left 64) ≡ l.initial.indices.items ++ positions l.base (word_bits l.word 64);
  count : count_ones l.left + l.k ≡ count_ones l.word;
  len : vec_len l.indices ≡ vec_len l.initial.indices + l.k;
  room : vec_capacity l.indices ≡ vec_capacity l.initial.indices;
}
