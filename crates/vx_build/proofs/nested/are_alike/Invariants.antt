-- What is left decides.
use Rattle.std.proofs.Common.{◌≡◌, drop, map}
use Rattle.vx_model.specs.Columns.{are_long}
use Rattle.vx_build.proofs.nested.are_alike.Given as goal

abbrev pub invariant-loop-field : goal.invariant-loop-field
invariant-loop-field l =
    are_long l.len (map (λ f. f.1) l.fields) ≡ are_long l.len (map (λ f. f.1) (drop l.field-index l.fields))
