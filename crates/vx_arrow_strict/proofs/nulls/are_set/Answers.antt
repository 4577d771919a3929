-- All bits were tested, or one is clear.
use Rattle.std.proofs.Common.{arith, sym}
use Rattle.vx_arrow_image.specs.Image.{is_valid}
use Rattle.vx_arrow_image.proofs.CutRows.{range_all}
use Rattle.vx_arrow_image.proofs.Stacks.{range_falls}
use Rattle.vx_arrow_strict.proofs.nulls.are_set.Goals as goal

pub returns-then-not-is_there : goal.returns-then-not-is_there
returns-then-not-is_there c = range_falls (is_valid c.args.valid.now) c.args.start c.args.len c.loop-i.i c.loop-i.auto.i (omega arith) (sym c.if-not-is_there.ensures)

pub returns : goal.returns
returns c = sym (range_all (is_valid c.args.valid.now) c.args.start c.args.len (λ j low high. c.loop-i.invariant j low (omega arith)))
