-- Eight bytes more.
use Rattle.std.proofs.Common.{◌+◌, ◌*◌, ap, eqb, arith}
use Rattle.std.specs.Int.{bit_at}
use Rattle.vx_arrow_zeros.proofs.RowLemmas.{joined}
use Rattle.vx_arrow_zeros.proofs.rows.keep_bytes.Goals as goal

pub loop-b-preserved : goal.loop-b-preserved
loop-b-preserved c =
    let b = c.loop-b.b in
    joined (λ k. eqb (bit_at c.args.word k) 1) (λ k. eqb (bit_at c.byte_of.result k) 1) c.args.start (8 * b) 8 1 (c.args.start + 8 * b) (8 * (b + 1)) c.args.values.now c.loop-b.values c.keep_eight.new.values
    c.loop-b.invariant c.keep_eight.ensures (omega arith) (omega arith) (λ k h. ap (λ x. eqb x 1) (c.byte_of.ensures k h))
