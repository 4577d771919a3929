-- The names before the one at hand.
use Rattle.std.proofs.Common.{◌≡◌, map, take}
use Rattle.vx_types.specs.Fields.{names_of}
use Rattle.vx_build.proofs.nested.names_in.Given as goal

abbrev pub invariant-loop-field : goal.invariant-loop-field
invariant-loop-field l = names_of l.names.items ≡ map (λ f. f.0.now) (take l.field-index l.fields)
