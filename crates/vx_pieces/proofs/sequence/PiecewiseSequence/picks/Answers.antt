-- None of the numbers of one piece is too great.
use Rattle.std.proofs.Common.{rules}
use Rattle.vx_pieces.specs.Pieces.{pieces_of}
use Rattle.vx_pieces.proofs.PieceLists.{none_here}
use Rattle.vx_pieces.proofs.sequence.PiecewiseSequence.picks.Goals as goal

pub push_picks-requires-clause-within : goal.push_picks-requires-clause-within
push_picks-requires-clause-within c =
    rw c.loop-i.invariant.bound (none_here (pieces_of c.args.self.now) c.loop-i.i c.piece.result (search rules) c.piece.ensures c.args.len c.requires.within)
