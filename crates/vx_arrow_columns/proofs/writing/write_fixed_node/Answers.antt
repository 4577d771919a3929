-- The values, and zeros under nulls.
use Rattle.std.proofs.Common.{◌≤◌, ◌*◌, ℕ, length, Some, ap, sym, ◌∙◌, arith}
use Rattle.vx_arrow_image.specs.declared.format.Format.TheVariants.{Fixed}
use Rattle.vx_arrow_image.specs.Image.{part_of}
use Rattle.vx_arrow_columns.specs.Asked.{the_picking, the_picks}
use Rattle.vx_arrow_columns.specs.Picks.{shows_valid}
use Rattle.vx_arrow_columns.proofs.OwnTaken.{held_by}
use Rattle.vx_arrow_columns.proofs.PickReads.{length_picks}
use Rattle.vx_arrow_columns.proofs.Rooms.{values_as}
use Rattle.vx_arrow_columns.proofs.RowBytes.{bytes_by, cut_holds, rows_cleared}
use Rattle.vx_arrow_columns.proofs.writing.write_fixed_node.Goals as goal

pub write_fixed-requires-clause-values : goal.write_fixed-requires-clause-values
write_fixed-requires-clause-values c = (held_by (part_of c.args.node.now) _ (Some Fixed) c.requires.format.format c.requires.format.readable).1

pub write_fixed-requires-clause-room : goal.write_fixed-requires-clause-room
write_fixed-requires-clause-room c =
    let ps = c.args.picks.now in
    let long = values_as (part_of c.args.node.now) (the_picking ps) (Some Fixed) _ c.requires.format.format c.requires.values in
    omega (arith, long, ap (λ (n : ℕ). n * c.args.node.now.width) (length_picks ps.places.now ps.valid.now ps.add))

pub clear_nulls-requires-clause-valid : goal.clear_nulls-requires-clause-valid
clear_nulls-requires-clause-valid c =
    let ps = c.args.picks.now in
    cut_holds (shows_valid (part_of c.args.node.now) (the_picking ps)) (length (the_picks ps)) (length ps.places.now) _ (length_picks ps.places.now ps.valid.now ps.add) (c.write_valid_of.auto.valid ∙ c.requires.valid)

pub clear_nulls-requires-clause-room : goal.clear_nulls-requires-clause-room
clear_nulls-requires-clause-room c =
    let ps = c.args.picks.now in
    let long = values_as (part_of c.args.node.now) (the_picking ps) (Some Fixed) _ c.requires.format.format c.requires.values in
    omega (arith, long, ap (λ (n : ℕ). n * c.args.node.now.width) (length_picks ps.places.now ps.valid.now ps.add), c.write_fixed.auto.out)

pub returns : goal.returns
returns c o s =
    let node = c.args.node.now in
    let p = part_of node in
    let ps = c.args.picks.now in
    let q = the_picking ps in
    let count = length_picks ps.places.now ps.valid.now ps.add in
    let long = values_as p q (Some Fixed) _ c.requires.format.format c.requires.values in
    let room : length ps.places.now * node.width ≤ length c.write_fixed.new.out = omega (arith, long, ap (λ (n : ℕ). n * node.width) count, c.write_fixed.auto.out) in
    bytes_by (Some Fixed) p q _ o _ s c.requires.format.format c.write_valid_of.ensures.bits tt
    (rows_cleared node.width node.values.now p q.picks _ _ c.write_fixed.new.out _ (sym count) room c.write_valid_of.ensures.shows c.write_fixed.ensures c.clear_nulls.ensures) tt
