-- All picks were looked at, or one is beyond.
use Rattle.std.proofs.Common.{sym, arith}
use Rattle.vx_arrow_columns.proofs.PickReads.{not_within, all_within}
use Rattle.vx_arrow_columns.proofs.places.are_below_or_null.Goals as goal

pub returns-clause-within : goal.returns-clause-within
returns-clause-within c _ = all_within c.args.picks.now.places.now c.args.picks.now.valid.now c.args.picks.now.add c.args.len c.loop-k.k (omega arith) c.loop-k.invariant

pub returns-in_default-clause-beyond : goal.returns-in_default-clause-beyond
returns-in_default-clause-beyond c _ =
    let none = c.in_default.ensures in
    not_within c.args.picks.now.places.now c.args.picks.now.valid.now c.args.picks.now.add c.args.len c.loop-k.k (omega arith) (sym c.if-is_there.ensures) (omega (arith, none))

pub returns-then-row-len-clause-beyond : goal.returns-then-row-len-clause-beyond
returns-then-row-len-clause-beyond c _ =
    not_within c.args.picks.now.places.now c.args.picks.now.valid.now c.args.picks.now.add c.args.len c.loop-k.k (omega arith) (sym c.if-is_there.ensures) (omega (arith, c.in-Some.ensures.1, c.if-row-len.true))
