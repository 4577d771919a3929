-- The numbers of the pieces before the one at hand.
use Rattle.std.proofs.Common.{◌≡◌, map, take, Some}
use Rattle.std.specs.List.{flat_map}
use Rattle.vx_pieces.specs.Pieces.{piece_numbers, pieces_of}
use Rattle.vx_pieces.proofs.sequence.PiecewiseSequence.picks.Given as goal

abbrev pub invariant-loop-i : goal.invariant-loop-i
invariant-loop-i l = record {
  picks : l.picks.picks ≡ map (λ x. Some x) (flat_map piece_numbers (take l.i (pieces_of l.self)));
  bound : l.picks.bound ≡ l.len;
}
