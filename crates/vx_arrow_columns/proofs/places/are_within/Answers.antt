-- Where all places are below, each pick is.
use Rattle.std.proofs.Common.{◌≡◌, sym}
use Rattle.vx_arrow_columns.proofs.PickReads.{below_any}
use Rattle.vx_arrow_columns.proofs.places.are_within.Goals as goal

pub returns-then-are_all_below-clause-within : goal.returns-then-are_all_below-clause-within
returns-then-are_all_below-clause-within c e =
    let q = c.args.picks.now in
    let start : q.add ≡ 0 = c.if-picks-eq0.true in
    rw start (below_any q.places.now q.valid.now c.args.len (sym c.if-are_all_below.ensures))
