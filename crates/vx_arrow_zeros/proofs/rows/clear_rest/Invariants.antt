use Rattle.std.proofs.Common.{◌+◌, ◌-◌, ◌*◌}
use Rattle.vx_arrow_image.specs.Image.{bit_of}
use Rattle.vx_arrow_zeros.specs.Zeros.{ClearsRows}
use Rattle.vx_arrow_zeros.proofs.rows.clear_rest.Given as goal

abbrev pub invariant-loop-k : goal.invariant-loop-k
invariant-loop-k l = ClearsRows (λ j. bit_of l.valid (l.first + j)) (l.first * l.width) (l.k - l.first) l.width l.initial.values l.values
