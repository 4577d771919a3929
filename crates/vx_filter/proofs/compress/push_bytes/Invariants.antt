use Rattle.std.proofs.Common.{◌≡◌, ◌*◌, ◌++◌, Some, map}
use Rattle.std.specs.List.{slice_get}
use Rattle.std.specs.Vec.{vec_capacity}
use Rattle.vx_bits.specs.Words.{word_bits}
use Rattle.vx_mask.specs.Positions.{set_of}
use Rattle.vx_filter.proofs.compress.push_bytes.Given as goal

abbrev pub invariant-loop-k : goal.invariant-loop-k
invariant-loop-k g l = record {
  items : map Some l.kept.items ≡ map Some l.initial.kept.items ++ map (slice_get l.items) (set_of (word_bits l.word (8 * l.k)));
  room : vec_capacity l.kept ≡ vec_capacity l.initial.kept;
}
