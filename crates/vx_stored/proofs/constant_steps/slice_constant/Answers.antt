-- Fewer rows of one value are a slice of them.
use Rattle.std.proofs.Common.{◌≤◌, ◌-◌, ap, ◌∙◌, arith}
use Rattle.vx_model.specs.Constant.{constant_column}
use Rattle.vx_model.proofs.LazyRows.{length-constant}
use Rattle.vx_model.proofs.ConstantSteps.{is_slice-constant}
use Rattle.vx_types.specs.Scalar.{TypedRow}
use Rattle.vx_stored.proofs.constant_steps.slice_constant.Goals as goal

pub returns : goal.returns
returns c =
    let p = c.args.array.now in let s = c.args.start in let e = c.args.end in
    let inside : e ≤ p.len = omega (arith, length-constant p, c.requires.within) in
    let value = c.share.ensures ∙ c.scalar.ensures in
    rw (c.into_array.ensures ∙ ap constant_column (c.new.ensures ∙ ap (λ (x : TypedRow). record { scalar = x; len = e - s }) value))
    (is_slice-constant p s e c.requires.ordered inside)
