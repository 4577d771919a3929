-- The ids of the rows so far.
use Rattle.std.proofs.Common.{◌≡◌, map, take}
use Rattle.vx_interleave.specs.Rows.{rows_in}
use Rattle.vx_interleave.specs.Tags.{tag_in}
use Rattle.vx_interleave.specs.Unions.{variant_rows}
use Rattle.vx_interleave.proofs.unions.tags_of.Given as goal

abbrev pub invariant-loop-cell : goal.invariant-loop-cell
invariant-loop-cell l = l.tags.items ≡ map tag_in (variant_rows l.variants l.nullability (rows_in (take l.cell-index l.cells)))
