-- One place more.
use Rattle.std.proofs.Common.{ap, ◌∙◌, arith, set}
use Rattle.vx_arrow.proofs.Writes.{next_placed}
use Rattle.vx_arrow.proofs.written.write_places.Goals as goal

pub loop-k-preserved : goal.loop-k-preserved
loop-k-preserved c =
    ap (set c.loop-k.places c.loop-k.k) c.place_of.ensures
    ∙ next_placed c.args.picks.now.picks c.args.places.now c.loop-k.places c.loop-k.k c.get.result c.requires (omega (arith, c.loop-k-test.true, c.len-k-end.ensures)) c.loop-k.invariant c.get.ensures.value
