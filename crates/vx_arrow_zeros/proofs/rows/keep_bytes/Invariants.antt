use Rattle.std.proofs.Common.{◌*◌, eqb}
use Rattle.std.specs.Int.{bit_at}
use Rattle.vx_arrow_zeros.specs.Zeros.{ClearsRows}
use Rattle.vx_arrow_zeros.proofs.rows.keep_bytes.Given as goal

abbrev pub invariant-loop-b : goal.invariant-loop-b
invariant-loop-b l = ClearsRows (λ k. eqb (bit_at l.word k) 1) l.start (8 * l.b) 1 l.initial.values l.values
