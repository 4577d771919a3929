-- What is behind the pieces before decides.
use Rattle.std.proofs.Common.{◌≡◌, drop}
use Rattle.std.specs.List.{flat_map}
use Rattle.vx_pieces.specs.Pieces.{expand, first_from, piece_numbers, pieces_of}
use Rattle.vx_pieces.proofs.sequence.PiecewiseSequence.first_at_least.Given as goal

abbrev pub invariant-loop-i : goal.invariant-loop-i
invariant-loop-i l = first_from l.n (expand l.self) ≡ first_from l.n (flat_map piece_numbers (drop l.i (pieces_of l.self)))
