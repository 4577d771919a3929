use Rattle.std.proofs.Common.{◌≡◌, drop}
use Rattle.vx_bits.specs.Records.{records_of}
use Rattle.vx_offsets.specs.Offsets.{are_views, offset_positions, record_numbers}
use Rattle.vx_offsets.proofs.numbers.are_views.Given as goal

abbrev pub invariant-loop-i : goal.invariant-loop-i
invariant-loop-i l =
    are_views (offset_positions (record_numbers l.offset_type (records_of l.offsets)))
    (offset_positions (record_numbers l.size_type (records_of l.sizes))) l.len
    ≡ are_views (drop l.i (offset_positions (record_numbers l.offset_type (records_of l.offsets))))
    (drop l.i (offset_positions (record_numbers l.size_type (records_of l.sizes)))) l.len
