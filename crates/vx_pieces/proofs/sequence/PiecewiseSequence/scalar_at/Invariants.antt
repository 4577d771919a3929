-- The number is the one that is so far behind the pieces before.
use Rattle.std.proofs.Common.{◌≡◌, drop}
use Rattle.std.specs.Prelude.{slice_get}
use Rattle.std.specs.List.{flat_map}
use Rattle.vx_pieces.specs.Pieces.{expand, piece_numbers, pieces_of}
use Rattle.vx_pieces.proofs.sequence.PiecewiseSequence.scalar_at.Given as goal

abbrev pub invariant-loop-i : goal.invariant-loop-i
invariant-loop-i l = slice_get (expand l.self) l.index ≡ slice_get (flat_map piece_numbers (drop l.i (pieces_of l.self))) l.left
