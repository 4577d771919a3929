use Rattle.std.proofs.Common.{map, take}
use Rattle.vx_types.specs.PType.{number}
use Rattle.vx_positions.specs.Positions.{position_of}
use Rattle.vx_fixed.specs.Rows.{ArePut}
use Rattle.vx_fixed.proofs.numbers.write_at_numbers.Given as goal

abbrev pub invariant-loop-k : goal.invariant-loop-k
invariant-loop-k g l = ArePut g.row.W l.src l.from (map (λ r. position_of (number l.ptype r)) (take l.k l.records)) l.initial.out l.out
