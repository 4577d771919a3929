use Rattle.std.proofs.Common.{◌≡◌}
use Rattle.std.specs.List.{flat_map, range_with_len}
use Rattle.vx_packed.specs.Chunk.{chunk_at, spell}
use Rattle.vx_packed.proofs.packing.pack.Given as goal

abbrev pub invariant-loop-k : goal.invariant-loop-k
invariant-loop-k l = l.out.items ≡ flat_map (λ k. spell (chunk_at l.values k)) (range_with_len 0 l.k)
