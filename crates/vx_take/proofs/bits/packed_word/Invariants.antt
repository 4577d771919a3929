use Rattle.std.proofs.Common.{◌≡◌, map, take}
use Rattle.vx_bits.specs.BitBuffer.{number_of}
use Rattle.vx_take.proofs.bits.packed_word.Given as goal

abbrev pub invariant-loop-k : goal.invariant-loop-k
invariant-loop-k g l = l.word ≡ number_of (map (g.B.BitOf.bit l.bit) (take l.k l.places))
