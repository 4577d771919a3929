-- One byte more, and the last one.
use Rattle.std.proofs.Common.{refl, arith}
use Rattle.vx_arrow_image.specs.Image.{part_of}
use Rattle.vx_arrow_columns.specs.Taken.{bit_in}
use Rattle.vx_arrow_columns.proofs.RowBytes.{bits_part, bits_whole}
use Rattle.vx_arrow_columns.proofs.Steps.{byte_put}
use Rattle.vx_arrow_columns.proofs.writing.write_bits.Goals as goal

pub loop-b-preserved : goal.loop-b-preserved
loop-b-preserved c k h = byte_put _ c.loop-b.out _ c.loop-b.b 8 _ c.loop-b.invariant c.bits_byte.ensures (omega arith) (omega arith) refl k (omega arith)

pub returns-then-count-eq0 : goal.returns-then-count-eq0
returns-then-count-eq0 c = bits_whole (bit_in c.args.node.now.values.now) (part_of c.args.node.now) c.args.picks.now.places.now c.args.picks.now.valid.now c.args.picks.now.add _ c.loop-b.b (omega arith) (omega arith) c.loop-b.invariant

pub returns : goal.returns
returns c = bits_part (bit_in c.args.node.now.values.now) (part_of c.args.node.now) c.args.picks.now.places.now c.args.picks.now.valid.now c.args.picks.now.add c.loop-b.out _ _ (λ j l. c.loop-b.invariant j (omega arith)) c.bits_byte-2.ensures (omega arith) refl
