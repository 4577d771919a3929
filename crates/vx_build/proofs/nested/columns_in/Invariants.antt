-- The columns before the one at hand.
use Rattle.std.proofs.Common.{◌≡◌, map, take}
use Rattle.vx_build.proofs.nested.columns_in.Given as goal

abbrev pub invariant-loop-field : goal.invariant-loop-field
invariant-loop-field l = l.columns.items ≡ map (λ f. f.1) (take l.field-index l.fields)
