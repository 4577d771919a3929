-- A part of a range is a range.
use Rattle.std.proofs.Common.{ap, arith}
use Rattle.vx_steps.specs.Compose.{picks_in}
use Rattle.vx_steps.proofs.ComposedPicks.{length_in, part_in}
use Rattle.vx_steps.proofs.composed.Composed.slice.Goals as goal

pub part-requires-clause-within : goal.part-requires-clause-within
part-requires-clause-within c =
    let s = c.in-Range.span in
    let count = length_in (picks_in c.args.self) s.start s.end (ap picks_in c.in-Range.is) in
    omega (arith, count)

pub returns-in-Range-clause-picks : goal.returns-in-Range-clause-picks
returns-in-Range-clause-picks c =
    let s = c.in-Range.span in let part = c.part.result in
    let count = length_in (picks_in c.args.self) s.start s.end (ap picks_in c.in-Range.is) in
    part_in (picks_in c.args.self) s.start s.end (ap picks_in c.in-Range.is) c.args.start c.args.end part.start part.end
    c.requires.ordered (omega (arith, count, c.requires.within)) c.part.ensures.start c.part.ensures.end
