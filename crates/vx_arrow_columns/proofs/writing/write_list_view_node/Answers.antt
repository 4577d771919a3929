-- Starts and lengths, and zeros under nulls.
use Rattle.std.proofs.Common.{◌≤◌, ◌*◌, ℕ, length, Some, ap, sym, ◌∙◌, subst, arith}
use Rattle.std.proofs.Math.Nat.{mul_comm}
use Rattle.std.proofs.lemmas.Bool.{leb-true}
use Rattle.vx_arrow_image.specs.declared.format.Format.TheVariants.{ListView}
use Rattle.vx_arrow_image.specs.Image.{is_valid, part_of, size_of}
use Rattle.vx_arrow_columns.specs.Asked.{the_picking, the_picks}
use Rattle.vx_arrow_columns.specs.Picks.{shows_valid}
use Rattle.vx_arrow_columns.proofs.OwnTaken.{held_by}
use Rattle.vx_arrow_columns.proofs.PickReads.{length_picks}
use Rattle.vx_arrow_columns.proofs.Rooms.{offsets_as, sizes_as}
use Rattle.vx_arrow_columns.proofs.RowBytes.{bytes_by, cut_holds, rows_cleared}
use Rattle.vx_arrow_zeros.specs.Zeros.{ClearsRows}
use Rattle.vx_arrow_columns.proofs.writing.write_list_view_node.Goals as goal

pub write_numbers-requires-clause-source : goal.write_numbers-requires-clause-source
write_numbers-requires-clause-source c = leb-true _ _ (held_by (part_of c.args.node.now) _ (Some (ListView c.args.size)) c.requires.format.format c.requires.format.readable).1

pub write_numbers-requires-clause-room : goal.write_numbers-requires-clause-room
write_numbers-requires-clause-room c =
    let ps = c.args.picks.now in
    let long = offsets_as (part_of c.args.node.now) (the_picking ps) (Some (ListView c.args.size)) _ c.requires.format.format c.requires.offsets in
    omega (arith, long, ap (λ (n : ℕ). size_of c.args.size * n) (length_picks ps.places.now ps.valid.now ps.add))

pub write_numbers-requires-2-clause-source : goal.write_numbers-requires-2-clause-source
write_numbers-requires-2-clause-source c = leb-true _ _ (held_by (part_of c.args.node.now) _ (Some (ListView c.args.size)) c.requires.format.format c.requires.format.readable).2

pub write_numbers-requires-2-clause-room : goal.write_numbers-requires-2-clause-room
write_numbers-requires-2-clause-room c =
    let ps = c.args.picks.now in
    let long = sizes_as (part_of c.args.node.now) (the_picking ps) (Some (ListView c.args.size)) _ c.requires.format.format c.requires.sizes in
    omega (arith, long, ap (λ (n : ℕ). size_of c.args.size * n) (length_picks ps.places.now ps.valid.now ps.add))

pub clear_nulls-requires-clause-valid : goal.clear_nulls-requires-clause-valid
clear_nulls-requires-clause-valid c =
    let ps = c.args.picks.now in
    cut_holds (shows_valid (part_of c.args.node.now) (the_picking ps)) (length (the_picks ps)) (length ps.places.now) _ (length_picks ps.places.now ps.valid.now ps.add) (c.write_valid_of.auto.valid ∙ c.requires.valid)

pub clear_nulls-requires-2-clause-valid : goal.clear_nulls-requires-2-clause-valid
clear_nulls-requires-2-clause-valid c =
    let ps = c.args.picks.now in
    cut_holds (shows_valid (part_of c.args.node.now) (the_picking ps)) (length (the_picks ps)) (length ps.places.now) _ (length_picks ps.places.now ps.valid.now ps.add) (c.write_valid_of.auto.valid ∙ c.requires.valid)

pub clear_nulls-requires-clause-room : goal.clear_nulls-requires-clause-room
clear_nulls-requires-clause-room c =
    let ps = c.args.picks.now in
    let n = length ps.places.now in
    let z = c.args.size in
    let long = offsets_as (part_of c.args.node.now) (the_picking ps) (Some (ListView z)) _ c.requires.format.format c.requires.offsets in
    let count = ap (λ (m : ℕ). size_of z * m) (length_picks ps.places.now ps.valid.now ps.add) in
    let room : n * size_of z ≤ length c.write_numbers.new.out = omega (arith, long, count, c.write_numbers.auto.out, mul_comm n (size_of z)) in
    subst (λ (w : ℕ). n * w ≤ length c.write_numbers.new.out) (sym c.size.ensures) room

pub clear_nulls-requires-2-clause-room : goal.clear_nulls-requires-2-clause-room
clear_nulls-requires-2-clause-room c =
    let ps = c.args.picks.now in
    let n = length ps.places.now in
    let z = c.args.size in
    let long = sizes_as (part_of c.args.node.now) (the_picking ps) (Some (ListView z)) _ c.requires.format.format c.requires.sizes in
    let count = ap (λ (m : ℕ). size_of z * m) (length_picks ps.places.now ps.valid.now ps.add) in
    let room : n * size_of z ≤ length c.write_numbers-2.new.out = omega (arith, long, count, c.write_numbers-2.auto.out, mul_comm n (size_of z)) in
    subst (λ (w : ℕ). n * w ≤ length c.write_numbers-2.new.out) (sym c.size-2.ensures) room

pub returns : goal.returns
returns c x =
    let node = c.args.node.now in
    let p = part_of node in
    let ps = c.args.picks.now in
    let q = the_picking ps in
    let z = c.args.size in
    let n = length ps.places.now in
    let count = length_picks ps.places.now ps.valid.now ps.add in
    let bytes = ap (λ (m : ℕ). size_of z * m) count in
    let format = c.requires.format.format in
    let shows = c.write_valid_of.ensures.shows in
    let v = c.write_valid_of.new.valid in
    let room : n * size_of z ≤ length c.write_numbers.new.out = omega (arith, offsets_as p q (Some (ListView z)) _ format c.requires.offsets, bytes, c.write_numbers.auto.out, mul_comm n (size_of z)) in
    let room_sizes : n * size_of z ≤ length c.write_numbers-2.new.out = omega (arith, sizes_as p q (Some (ListView z)) _ format c.requires.sizes, bytes, c.write_numbers-2.auto.out, mul_comm n (size_of z)) in
    let starts = subst (λ (w : ℕ). ClearsRows (is_valid v) 0 n w c.write_numbers.new.out c.clear_nulls.new.out) c.size.ensures c.clear_nulls.ensures in
    let lens = subst (λ (w : ℕ). ClearsRows (is_valid v) 0 n w c.write_numbers-2.new.out c.clear_nulls-2.new.out) c.size-2.ensures c.clear_nulls-2.ensures in
    bytes_by (Some (ListView z)) p q _ _ x _ format c.write_valid_of.ensures.bits
    (rows_cleared (size_of z) node.offsets.now p q.picks n v c.write_numbers.new.out _ (sym count) room shows c.write_numbers.ensures starts) tt
    (rows_cleared (size_of z) node.sizes.now p q.picks n v c.write_numbers-2.new.out _ (sym count) room_sizes shows c.write_numbers-2.ensures lens)
