-- The nulls so far are appended.
use Rattle.std.proofs.Common.{replicate}
use Rattle.vx_types.specs.DType.{type_of}
use Rattle.vx_model.specs.Filler.{filler_row}
use Rattle.vx_interleave.specs.Lists.{AddsRows}
use Rattle.vx_interleave.proofs.fixed_lists.push_nulls.Given as goal

abbrev pub invariant-loop : goal.invariant-loop
invariant-loop l = AddsRows (type_of l.dtype) (replicate l.counter (filler_row (type_of l.dtype))) l.initial.cells.items l.cells.items
