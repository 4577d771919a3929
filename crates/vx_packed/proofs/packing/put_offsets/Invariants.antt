use Rattle.std.proofs.Common.{◌≡◌, take, vec_capacity}
use Rattle.vx_packed.specs.Chunk.{field_bits}
use Rattle.vx_packed.proofs.PackedWords.{Put}
use Rattle.vx_packed.proofs.packing.put_offsets.Given as goal

abbrev pub invariant-loop-n : goal.invariant-loop-n
invariant-loop-n l = record {
  put : Put l.initial.out.items l.out.items (field_bits l.base l.digits (take l.n-index l.numbers)) l.next l.held;
  room : vec_capacity l.out ≡ vec_capacity l.initial.out;
}
