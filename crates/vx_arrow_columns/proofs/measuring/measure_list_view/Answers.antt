-- There is an offset and a size for each row.
use Rattle.std.proofs.Common.{sym, arith}
use Rattle.vx_arrow_image.specs.Image.{part_of}
use Rattle.vx_arrow_columns.proofs.Measures.{list_view_measured}
use Rattle.vx_arrow_columns.proofs.PickReads.{placed_end}
use Rattle.vx_arrow_columns.proofs.measuring.measure_list_view.Goals as goal

pub overflow_add-end : goal.overflow_add-end
overflow_add-end c = let end = placed_end (part_of c.args.node.now) c.requires.placed in omega arith

pub holds_starts-requires : goal.holds_starts-requires
holds_starts-requires c = let end = placed_end (part_of c.args.node.now) c.requires.placed in omega arith

pub holds_starts-requires-2 : goal.holds_starts-requires-2
holds_starts-requires-2 c = let end = placed_end (part_of c.args.node.now) c.requires.placed in omega arith

pub returns-clause-measured : goal.returns-clause-measured
returns-clause-measured c =
    let ps = c.args.picks.now in
    list_view_measured c.args.size (part_of c.args.node.now) ps.places.now ps.valid.now ps.add c.requires.format c.requires.few c.requires.placed c.requires.within (omega arith) (sym c.if-not-holds_starts.ensures) (sym c.if-not-holds_starts-2.ensures)
