-- The types before the one at hand.
use Rattle.std.proofs.Common.{◌≡◌, map, take}
use Rattle.vx_types.specs.DType.{type_of}
use Rattle.vx_model.specs.Columns.{types_in}
use Rattle.vx_build.proofs.nested.types_in.Given as goal

abbrev pub invariant-loop-field : goal.invariant-loop-field
invariant-loop-field l =
    map type_of l.types.items ≡ types_in (map (λ f. f.1) (take l.field-index l.fields))
