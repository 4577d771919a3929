-- A pick of a range.
use Rattle.std.proofs.Common.{◌∙◌, Some, ap, arith}
use Rattle.vx_steps.specs.Compose.{bound_of, picks_in}
use Rattle.vx_steps.proofs.ComposedPicks.{length_in, get_in}
use Rattle.vx_steps.proofs.composed.Composed.get.Goals as goal

pub position-requires : goal.position-requires
position-requires c =
    let s = c.in-Range.span in
    let count = length_in (picks_in c.args.self.now) s.start s.end (ap picks_in c.in-Range.is) in
    omega (arith, count)

pub returns-in-Range-clause-value : goal.returns-in-Range-clause-value
returns-in-Range-clause-value c =
    let s = c.in-Range.span in
    let count = length_in (picks_in c.args.self.now) s.start s.end (ap picks_in c.in-Range.is) in
    ap Some c.position.ensures.value
    ∙ get_in (picks_in c.args.self.now) s.start s.end (ap picks_in c.in-Range.is) c.args.i (omega (arith, count))

pub returns-in-Range-clause-below : goal.returns-in-Range-clause-below
returns-in-Range-clause-below c = omega (arith, c.position.ensures.below, ap bound_of c.in-Range.is)
