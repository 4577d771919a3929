-- The bits so far.
use Rattle.std.proofs.Common.{ℕ, ◌+◌}
use Rattle.vx_arrow_image.specs.Image.{part_of}
use Rattle.vx_arrow_interleave.specs.Bytes.{bit_by}
use Rattle.vx_arrow_interleave.proofs.BitRuns.{BitsTo}
use Rattle.vx_arrow_interleave.proofs.writing.put_bits.Given as goal

abbrev pub invariant-loop-i : goal.invariant-loop-i
invariant-loop-i l = BitsTo (λ (i : ℕ). bit_by l.of (part_of l.node) (l.start + i)) l.fn.out l.out l.at l.i
