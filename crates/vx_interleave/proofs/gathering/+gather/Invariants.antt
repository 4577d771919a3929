-- What a walk over a type counts down: how deep what is left nests.
use Rattle.std.proofs.Common.{◌+◌, ◌*◌, map, take}
use Rattle.vx_types.specs.DType.{type_of}
use Rattle.vx_types.specs.TypeTree.{type_size, types_of, types_size}
use Rattle.vx_interleave.specs.Rows.{rows_in}
use Rattle.vx_interleave.specs.Structs.{AreFields}
use Rattle.vx_interleave.specs.Unions.{AreVariants, variant_rows}
use Rattle.vx_interleave.proofs.gathering.+gather.Given as goal

-- what is made so far are the first fields
abbrev pub invariant-gather_fields-loop-k : goal.invariant-gather_fields-loop-k
invariant-gather_fields-loop-k l = AreFields 0 (map type_of (take l.k l.types)) (rows_in l.cells) l.columns.items

-- and the first variants
abbrev pub invariant-gather_variants-loop-k : goal.invariant-gather_variants-loop-k
invariant-gather_variants-loop-k l = AreVariants (take l.k l.ids) (map type_of (take l.k l.types)) (variant_rows l.variants l.nullability (rows_in l.cells)) l.columns.items

abbrev pub decreases-gather_variants : goal.decreases-gather_variants
decreases-gather_variants l = 2 * types_size (types_of l.variants.now.types) + 1

abbrev pub decreases-gather_fields : goal.decreases-gather_fields
decreases-gather_fields l = 2 * types_size (types_of l.fields.now.types) + 1

abbrev pub decreases-gather : goal.decreases-gather
decreases-gather l = 2 * type_size (type_of l.dtype.now)
