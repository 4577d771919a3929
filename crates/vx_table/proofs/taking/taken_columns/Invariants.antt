-- The columns before this one are taken.
use Rattle.std.proofs.Common.{take}
use Rattle.vx_types.specs.TypeTree.{also_nullable}
use Rattle.vx_pieces.specs.Indices.{index_nullability, index_picks, index_value}
use Rattle.vx_table.specs.Taken.{AreTaken}
use Rattle.vx_table.proofs.taking.taken_columns.Given as goal

abbrev pub invariant-loop-i : goal.invariant-loop-i
invariant-loop-i l =
    AreTaken (take l.i l.columns) (λ t. also_nullable t (index_nullability (index_value l.indices))) (index_picks (index_value l.indices)) l.taken.items
