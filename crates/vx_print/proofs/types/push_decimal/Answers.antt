use Rattle.std.proofs.Common.{append_assoc, arith, to_z-of_z}
use Rattle.vx_print.proofs.types.push_decimal.Goals as goal

pub returns : goal.returns
returns c = λ _. grind (arith, to_z-of_z, append_assoc, c.in_ok-push.ensures.items, c.in_ok-push_number-3.ensures, c.in_ok-push_number-2.ensures, c.in_ok-push_number.ensures)
