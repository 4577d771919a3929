use Rattle.std.proofs.Common.{◌≡◌, ◌∷◌, map, length}
use Rattle.std.specs.List.{range_with_len}
use Rattle.vx_packed.specs.Chunk.{chunk_at, spell}
use Rattle.vx_file.specs.File.{whole_block}
use Rattle.vx_file.specs.Shape.{header}
use Rattle.vx_file.proofs.write.file_blocks.Given as goal

abbrev pub invariant-loop-k : goal.invariant-loop-k
invariant-loop-k l = l.blocks ≡ header (record { ptype = l.ptype; len = length l.values }) ∷ map (λ k. spell (whole_block (chunk_at l.values k))) (range_with_len 0 l.k)
