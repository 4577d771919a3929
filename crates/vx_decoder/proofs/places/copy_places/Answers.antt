use Rattle.std.proofs.Common.{arith}
use Rattle.vx_decoder.proofs.ReadPlaces.{places_below, put_read}
use Rattle.vx_decoder.proofs.places.copy_places.Goals as goal

pub bounds-values-places : goal.bounds-values-places
bounds-values-places g c = omega (arith, places_below c.args.places.now c.requires.ascend c.loop-k.k 0 (omega arith))

pub offset_bounds-values-places : goal.offset_bounds-values-places
offset_bounds-values-places g c = omega (arith, places_below c.args.places.now c.requires.ascend c.loop-k.k 0 (omega arith))

pub loop-k-preserved : goal.loop-k-preserved
loop-k-preserved g c =
    let places = c.args.places.now in
    let k = c.loop-k.k in
    let less = places_below places c.requires.ascend k 0 (omega arith) in
    put_read c.loop-k.dst c.args.values.now places k c.index-values-places.result c.loop-k.invariant (omega arith) (omega arith) (omega (arith, less)) c.index-values-places.is
