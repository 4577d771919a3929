use Rattle.std.proofs.Common.{◌≡◌, drop}
use Rattle.std.specs.List.{list_all}
use Rattle.vx_bits.specs.Records.{records_of}
use Rattle.vx_offsets.specs.Offsets.{is_natural, record_numbers}
use Rattle.vx_offsets.proofs.numbers.are_natural.Given as goal

abbrev pub invariant-loop-i : goal.invariant-loop-i
invariant-loop-i l =
    list_all is_natural (record_numbers l.ptype (records_of l.values))
    ≡ list_all is_natural (drop l.i (record_numbers l.ptype (records_of l.values)))
