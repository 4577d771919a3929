-- The rows so far.
use Rattle.vx_arrow_image.specs.Image.{parts_of}
use Rattle.vx_arrow_interleave.specs.Bytes.{bit_in}
use Rattle.vx_arrow_interleave.proofs.BitRuns.{RowBits}
use Rattle.vx_arrow_interleave.proofs.writing.write_bits.Given as goal

abbrev pub invariant-loop-k : goal.invariant-loop-k
invariant-loop-k l = RowBits (bit_in l.of (parts_of l.sources)) l.places l.k l.at l.out
