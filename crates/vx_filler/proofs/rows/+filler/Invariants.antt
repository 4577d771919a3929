-- What a walk over a type counts down: how deep what is left nests.
use Rattle.std.proofs.Common.{◌+◌, ◌*◌, map, take}
use Rattle.vx_types.specs.DType.{type_of}
use Rattle.vx_types.specs.TypeTree.{type_size, types_of, types_size}
use Rattle.vx_filler.proofs.FilledRows.{AreFillers}
use Rattle.vx_filler.proofs.rows.+filler.Given as goal

-- what is made so far are the first types' fillers
abbrev pub invariant-fillers-loop-dtype : goal.invariant-fillers-loop-dtype
invariant-fillers-loop-dtype l = AreFillers l.len (map type_of (take l.dtype-index l.types)) l.fillers.items

abbrev pub decreases-fillers : goal.decreases-fillers
decreases-fillers l = 2 * types_size (types_of (map type_of l.types.now)) + 1

abbrev pub decreases-filler : goal.decreases-filler
decreases-filler l = 2 * type_size (type_of l.dtype.now)
