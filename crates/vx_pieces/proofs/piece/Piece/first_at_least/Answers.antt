-- Where the piece starts below n.
use Rattle.std.proofs.Common.{sym, arith}
use Rattle.vx_pieces.proofs.PieceNumbers.{first_still, first_reached, first_beyond}
use Rattle.vx_pieces.proofs.piece.Piece.first_at_least.Goals as goal

pub returns-then-self-eq0-2 : goal.returns-then-self-eq0-2
returns-then-self-eq0-2 c = sym (first_still c.args.self c.args.n (omega arith) c.if-self-eq0-2.true)

pub returns-then-steps-self : goal.returns-then-steps-self
returns-then-steps-self c = sym (first_reached c.args.self c.args.n (omega arith) (omega arith) c.if-steps-self.true)

pub returns-else-steps-self : goal.returns-else-steps-self
returns-else-steps-self c = sym (first_beyond c.args.self c.args.n (omega arith) (omega arith) c.if-steps-self.false)
