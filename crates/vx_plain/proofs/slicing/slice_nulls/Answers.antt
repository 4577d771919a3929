-- Fewer nulls are a slice of them.
use Rattle.std.proofs.Common.{◌≤◌, refl, ap, ◌∙◌, arith}
use Rattle.vx_model.specs.Null.{null_column}
use Rattle.vx_model.proofs.Layouts.{length-null}
use Rattle.vx_model.proofs.Steps.{is_slice-null}
use Rattle.vx_plain.proofs.slicing.slice_nulls.Goals as goal

pub returns-clause-slice : goal.returns-clause-slice
returns-clause-slice c =
    let inside : c.args.end ≤ c.args.array.now = omega (arith, length-null c.args.array.now, c.requires.within) in
    rw (c.into_array.ensures ∙ ap null_column c.new.ensures)
    (refl, is_slice-null c.args.array.now c.args.start c.args.end c.requires.ordered inside)
