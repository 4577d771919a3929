use Rattle.std.proofs.Common.{arith}
use Rattle.vx_types.specs.PType.{number}
use Rattle.vx_fixed.proofs.Rows.{position_below}
use Rattle.vx_fixed.proofs.numbers.place_of.Goals as goal

pub returns-clause-below : goal.returns-clause-below
returns-clause-below g c = omega (arith, position_below c.args.rows (number c.args.ptype c.args.bytes.now) c.requires.there, c.position.ensures)
