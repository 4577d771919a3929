-- The run lies within the elements.
use Rattle.std.proofs.Common.{◌<◌, ℕ, Option, arith, subst}
use Rattle.std.specs.Prelude.{IfSome}
use Rattle.vx_lists.specs.Lists.{row_count}
use Rattle.vx_lists.proofs.Joined.{row_of}
use Rattle.vx_lists.proofs.take.picked_run.Goals as goal

pub returns-in-Some-clause-inside : goal.returns-in-Some-clause-inside
returns-in-Some-clause-inside c =
    let below = subst (λ (o : Option ℕ). IfSome o (λ i. i < row_count c.args.offsets.now)) c.in-Some.is c.requires.below in
    let row = row_of c.args.offsets.now c.in-Some.i c.requires.offsets below in
    let ordered = row.ordered in
    let within = row.within in
    omega arith
