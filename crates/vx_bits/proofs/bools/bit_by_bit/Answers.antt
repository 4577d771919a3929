use Rattle.std.proofs.Common.{ℕ, ◌^◌, ◌<◌, sym, subst, arith}
use Rattle.vx_bits.proofs.BitLists.{number_more, number_take_below, set_next_at}
use Rattle.vx_bits.proofs.bools.bit_by_bit.Goals.{then-bit, else-bit}
use Rattle.vx_bits.proofs.bools.bit_by_bit.Goals as goal

pub loop-k-preserved : goal.loop-k-preserved
loop-k-preserved c =
    let k = c.loop-k.k in
    let bits = c.args.bits.now in
    let more = number_more bits k (omega arith) in
    let below = subst (λ (n : ℕ). n < 2 ^ k) (sym c.loop-k.invariant) (number_take_below bits k (omega arith)) in
    let plus = set_next_at 64 c.loop-k.word k below (omega arith) in
    elim c.if-bit.branch [
      | then-bit w ↦ grind (arith, more, plus)
      | else-bit w ↦ grind (arith, more)
    ]
