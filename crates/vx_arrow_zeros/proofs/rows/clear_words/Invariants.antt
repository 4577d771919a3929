use Rattle.std.proofs.Common.{◌*◌}
use Rattle.vx_arrow_image.specs.Image.{bit_of}
use Rattle.vx_arrow_zeros.specs.Zeros.{ClearsRows}
use Rattle.vx_arrow_zeros.proofs.rows.clear_words.Given as goal

abbrev pub invariant-loop-i : goal.invariant-loop-i
invariant-loop-i l = ClearsRows (bit_of l.valid) 0 (64 * l.i) l.width l.initial.values l.values
