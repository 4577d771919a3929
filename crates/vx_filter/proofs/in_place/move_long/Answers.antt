use Rattle.std.proofs.Common.{arith}
use Rattle.std.proofs.lemmas.List.{length-take-le}
use Rattle.vx_filter.proofs.LongMoves.{in_its_place}
use Rattle.vx_filter.proofs.in_place.move_long.Goals as goal

pub returns-then-gap-eq0-clause-front : goal.returns-then-gap-eq0-clause-front
returns-then-gap-eq0-clause-front g c =
    in_its_place c.args.values.now c.args.from c.args.to c.args.count (omega (arith, c.requires.down, c.if-gap-eq0.true))

pub slice_bounds-size_of_val-end-else-gap-eq0 : goal.slice_bounds-size_of_val-end-else-gap-eq0
slice_bounds-size_of_val-end-else-gap-eq0 g c =
    omega (arith, length-take-le 1024 c.args.values.now (omega (arith, c.requires.within, c.requires.long)))
