-- The node has the first one's format, and its rows have places.
use Rattle.std.proofs.Common.{ap, sym, arith}
use Rattle.vx_arrow_image.specs.Image.{format_in, part_of}
use Rattle.vx_arrow_columns.proofs.Columns.{placed_by}
use Rattle.vx_arrow_interleave.proofs.sources.test_like.Goals as goal

pub returns : goal.returns
returns c = record {
  format = ap format_in c.if-node-first.false;
  width = c.if-node-first-2.false;
  children = c.if-node-first-3.false;
  placed = placed_by (part_of c.args.node.now) c.in-Some.last (omega (arith, c.in-Some.ensures)) c.if-last.false (sym c.if-not-holds_valid.ensures);
}
