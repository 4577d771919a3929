-- All rows were tested, or one is no text.
use Rattle.std.proofs.Common.{arith, sym}
use Rattle.vx_arrow_image.specs.Image.{part_of, parts_of}
use Rattle.vx_arrow_image.proofs.CutRows.{range_all}
use Rattle.vx_arrow_image.proofs.Stacks.{range_falls}
use Rattle.vx_arrow_strict.specs.Texts.{is_text}
use Rattle.vx_arrow_strict.proofs.texts.all_texts.Goals as goal

pub returns-then-not-is_text : goal.returns-then-not-is_text
returns-then-not-is_text c = range_falls (is_text (part_of c.args.node.now) (parts_of c.args.below.now)) c.args.node.now.offset c.args.node.now.len c.loop-i.i c.loop-i.auto.i (omega arith) (sym c.if-not-is_text.ensures)

pub returns : goal.returns
returns c = sym (range_all (is_text (part_of c.args.node.now) (parts_of c.args.below.now)) c.args.node.now.offset c.args.node.now.len (λ j low high. c.loop-i.invariant j low (omega arith)))
