-- All picks were looked at, or one is null.
use Rattle.std.proofs.Common.{sym, arith}
use Rattle.vx_arrow_columns.proofs.PickReads.{all_full, not_full}
use Rattle.vx_arrow_columns.proofs.places.are_full.Goals as goal

pub returns-then-not-is_there-clause-some : goal.returns-then-not-is_there-clause-some
returns-then-not-is_there-clause-some c _ = not_full c.args.picks.now.places.now c.args.picks.now.valid.now c.args.picks.now.add c.loop-k.k (omega arith) (sym c.if-not-is_there.ensures)

pub returns-clause-full : goal.returns-clause-full
returns-clause-full c _ = all_full c.args.picks.now.places.now c.args.picks.now.valid.now c.args.picks.now.add c.loop-k.k (omega arith) c.loop-k.invariant
