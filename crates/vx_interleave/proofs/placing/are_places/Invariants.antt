-- The places so far are those of rows.
use Rattle.std.proofs.Common.{take}
use Rattle.vx_types.specs.DType.{type_of}
use Rattle.vx_interleave.specs.Sources.{ArePlacesFor, rows_of}
use Rattle.vx_interleave.proofs.placing.are_places.Given as goal

abbrev pub invariant-loop-place : goal.invariant-loop-place
invariant-loop-place l = ArePlacesFor (type_of l.dtype) (rows_of l.columns) (take l.place-index l.order)
