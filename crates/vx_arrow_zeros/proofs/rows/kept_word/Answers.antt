-- Each byte and its mask.
use Rattle.std.proofs.Common.{arith}
use Rattle.vx_arrow_zeros.proofs.Spread.{kept_item}
use Rattle.vx_arrow_zeros.proofs.rows.kept_word.Goals as goal

pub returns : goal.returns
returns c =
    kept_item c.args.bits c.args.start c.eight_bytes.result c.spread.result c.args.values.now c.requires (λ i. omega (arith, c.type_inv.values i)) c.eight_bytes.ensures.value c.spread.ensures
