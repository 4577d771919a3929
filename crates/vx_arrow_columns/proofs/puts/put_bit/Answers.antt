-- Either write leaves the other bits of the byte.
use Rattle.std.proofs.Common.{◌%◌, ◌<◌, true, false, ap, eqb, arith, w8}
use Rattle.std.proofs.lemmas.Nat.Bits.{bit_at_set_same, bit_at_set_other, bit_at_clear_same, bit_at_clear_other}
use Rattle.vx_arrow_columns.proofs.BitPuts.{puts, puts_from}
use Rattle.vx_arrow_columns.proofs.puts.put_bit.Goals as goal
use Rattle.vx_arrow_columns.proofs.puts.put_bit.Goals.{then-bit, else-bit}

pub returns : goal.returns
returns c =
    let s = c.args.bytes.now in
    let j = c.args.j in
    let low : j % 8 < 8 = omega arith in
    elim c.if-bit.branch [
      | then-bit w ↦ puts_from s j _ _ _ true w.bytes-is w.if-bit.true
          (puts s j _ true c.requires (ap (λ y. eqb y 1) (bit_at_set_same w8 _ (j % 8) low)) (λ r p q. bit_at_set_other w8 _ (j % 8) low r q))
      | else-bit w ↦ puts_from s j _ _ _ false w.bytes-is w.if-bit.false
          (puts s j _ false c.requires (ap (λ y. eqb y 1) (bit_at_clear_same w8 _ (j % 8) low)) (λ r p q. bit_at_clear_other w8 _ (j % 8) low r p q))
    ]
