-- The records of the numbers before the one at hand.
use Rattle.std.proofs.Common.{◌≡◌, ◌++◌, map}
use Rattle.std.specs.Int.{w64, to_le_bytes}
use Rattle.std.specs.List.{range_with_len}
use Rattle.vx_pieces.specs.Pieces.{piece_number}
use Rattle.vx_pieces.proofs.expanding.push_records.Given as goal

abbrev pub invariant-loop-j : goal.invariant-loop-j
invariant-loop-j l = l.records.items ≡ l.initial.records.items ++ map (to_le_bytes w64) (map (piece_number l.piece) (range_with_len 0 l.j))
