-- The records of the pieces before the one at hand.
use Rattle.std.proofs.Common.{◌≡◌, map, take}
use Rattle.std.specs.Int.{w64, to_le_bytes}
use Rattle.std.specs.List.{flat_map}
use Rattle.vx_pieces.specs.Pieces.{piece_numbers, pieces_of}
use Rattle.vx_pieces.proofs.sequence.PiecewiseSequence.records.Given as goal

abbrev pub invariant-loop-i : goal.invariant-loop-i
invariant-loop-i l = l.records.items ≡ map (to_le_bytes w64) (flat_map piece_numbers (take l.i (pieces_of l.self)))
