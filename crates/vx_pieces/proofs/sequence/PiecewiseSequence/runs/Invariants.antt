-- The runs of the pieces before the one at hand.
use Rattle.std.proofs.Common.{◌≡◌, take}
use Rattle.vx_pieces.specs.Pieces.{pieces_of}
use Rattle.vx_pieces.specs.Runs.{runs_of}
use Rattle.vx_pieces.proofs.sequence.PiecewiseSequence.runs.Given as goal

abbrev pub invariant-loop-i : goal.invariant-loop-i
invariant-loop-i l = l.runs.items ≡ runs_of (take l.i (pieces_of l.self))
