-- The text lies between two offsets that ascend.
use Rattle.std.proofs.Common.{◌+◌, arith, ap, length}
use Rattle.vx_model.proofs.Texts.{begins-varbin, ends-varbin, ascends-varbin, within-varbin}
use Rattle.vx_column.proofs.varbin.VarBinArray.text_at.Goals as goal

pub offset_at-requires : goal.offset_at-requires
offset_at-requires c = begins-varbin c.args.self.now c.bytes.ensures.valid c.args.i c.requires

pub offset_at-requires-2 : goal.offset_at-requires-2
offset_at-requires-2 c = ends-varbin c.args.self.now c.bytes.ensures.valid c.args.i c.requires

pub slice_bounds-result-count : goal.slice_bounds-result-count
slice_bounds-result-count c =
    let p = c.args.self.now in let valid = c.bytes.ensures.valid in
    let up = ascends-varbin p valid c.args.i (ends-varbin p valid c.args.i c.requires) in
    omega (arith, up, c.offset_at.ensures, c.offset_at-2.ensures)

pub slice_bounds-result-start : goal.slice_bounds-result-start
slice_bounds-result-start c =
    let p = c.args.self.now in let valid = c.bytes.ensures.valid in
    let up = ascends-varbin p valid c.args.i (ends-varbin p valid c.args.i c.requires) in
    omega (arith, up, c.offset_at.ensures, c.offset_at-2.ensures)

pub slice_bounds-result-end : goal.slice_bounds-result-end
slice_bounds-result-end c =
    let p = c.args.self.now in let valid = c.bytes.ensures.valid in
    let inside = within-varbin p valid (c.args.i + 1) (ends-varbin p valid c.args.i c.requires) in
    omega (arith, inside, c.offset_at-2.ensures, ap length c.bytes.ensures.value, ap length c.as_slice-bytes.ensures)
