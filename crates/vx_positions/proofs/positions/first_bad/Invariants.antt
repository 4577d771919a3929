-- What is behind the number at hand decides.
use Rattle.std.proofs.Common.{◌≡◌, drop}
use Rattle.vx_positions.specs.Positions.{first_bad}
use Rattle.vx_positions.proofs.positions.first_bad.Given as goal

abbrev pub invariant-loop-i : goal.invariant-loop-i
invariant-loop-i g l = first_bad l.len (g.N.Numbers.numbers l.numbers) ≡ first_bad l.len (drop l.i (g.N.Numbers.numbers l.numbers))
