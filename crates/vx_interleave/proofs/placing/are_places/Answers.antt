-- One place more, and one that is none.
use Rattle.std.proofs.Common.{refl}
use Rattle.vx_types.specs.DType.{type_of}
use Rattle.vx_interleave.specs.Sources.{rows_of}
use Rattle.vx_interleave.proofs.AllPlaces.{all_taken, first_more}
use Rattle.vx_interleave.proofs.placing.are_places.Goals as goal

pub loop-place-preserved : goal.loop-place-preserved
loop-place-preserved c =
    first_more (type_of c.args.dtype.now) (rows_of c.args.columns.now) c.args.order.now c.loop-place.place-index _
    c.loop-place-test.true c.loop-place.invariant (c.is_place.ensures.0 c.if-not-is_place.false)

pub returns : goal.returns
returns c = (
  λ h. all_taken (type_of c.args.dtype.now) (rows_of c.args.columns.now) c.args.order.now c.loop-place.place-index
      c.loop-place-test.false c.loop-place.invariant,
  λ h. refl,
)
