-- There is room for each row.
use Rattle.std.proofs.Common.{◌*◌, length, ap, arith}
use Rattle.std.proofs.lemmas.List.FromFn.{length-range_with_len}
use Rattle.vx_mask.proofs.PositionLists.{length-positions}
use Rattle.vx_arrow.specs.Known.{places_of}
use Rattle.vx_arrow_flat.proofs.writing.write_rows.Goals as goal

pub write_range-requires-clause-room : goal.write_range-requires-clause-room
write_range-requires-clause-room g c =
    omega (arith, c.requires.room, ap (λ k. length (places_of k) * g.row.W) c.in-Range.is, ap (λ n. n * g.row.W) (length-range_with_len c.in-Range.start c.in-Range.len))

pub write_at_bits-requires-clause-room : goal.write_at_bits-requires-clause-room
write_at_bits-requires-clause-room g c =
    omega (arith, c.requires.room, ap (λ k. length (places_of k) * g.row.W) c.in-Mask.is, ap (λ n. n * g.row.W) (length-positions 0 c.in-Mask.bits.bits))
