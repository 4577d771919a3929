-- The word of the last places so far.
use Rattle.std.proofs.Common.{◌≡◌, ◌+◌, ◌-◌, false}
use Rattle.vx_bits.specs.BitBuffer.{number_of}
use Rattle.vx_cuts.specs.Interleaving.{items_from}
use Rattle.vx_cuts.specs.Bits.{bits_in}
use Rattle.vx_cuts.proofs.bits.word.Given as goal

abbrev pub invariant-loop-j : goal.invariant-loop-j
invariant-loop-j l = l.word ≡ number_of (items_from false (bits_in l.lists) l.parts l.rows (l.start + (l.count - l.j)) l.j)
