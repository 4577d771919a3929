-- The table of all bytes.
use Rattle.std.proofs.Common.{◌∙◌, ap, cond, eqb, arith}
use Rattle.std.specs.Int.{bit_at}
use Rattle.vx_arrow_zeros.proofs.Spread.{spread_byte}
use Rattle.vx_arrow_zeros.proofs.rows.spread.Goals as goal

pub returns : goal.returns
returns c k h = spread_byte c.from.result k (omega arith) h ∙ ap (λ v. cond (eqb (bit_at v k) 1) 255 0) c.from.ensures
