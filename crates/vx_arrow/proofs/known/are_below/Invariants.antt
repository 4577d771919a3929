-- The records so far are positions.
use Rattle.std.proofs.Common.{◌≡◌, take}
use Rattle.std.specs.List.{list_all}
use Rattle.vx_types.specs.PType.{number}
use Rattle.vx_positions.specs.Positions.{is_position}
use Rattle.vx_arrow.proofs.known.are_below.Given as goal

abbrev pub invariant-loop-record : goal.invariant-loop-record
invariant-loop-record g l = l.are_below ≡ list_all (λ r. is_position l.rows (number l.ptype r)) (take l.record-index l.records)
