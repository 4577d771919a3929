-- One row more.
use Rattle.std.proofs.Common.{◌≡◌, ◌+◌, ◌-◌, ◌*◌, ◌∙◌, ap, arith}
use Rattle.vx_arrow_image.specs.Image.{bit_of}
use Rattle.vx_arrow_zeros.proofs.RowLemmas.{joined}
use Rattle.vx_arrow_zeros.proofs.rows.clear_rest.Goals as goal

pub loop-k-preserved : goal.loop-k-preserved
loop-k-preserved c =
    let valid = c.args.valid.now in
    let first = c.args.first in
    let k = c.loop-k.k in
    let w = c.args.width in
    joined (λ j. bit_of valid (first + j)) (λ _. c.bit_is.result) (first * w) (k - first) 1 w (k * w) (k + 1 - first) c.args.values.now c.loop-k.values c.clear_unless.new.values
    c.loop-k.invariant c.clear_unless.ensures
    (let m : k ≡ first + (k - first) = omega arith in ap (λ n. n * w) m ∙ omega arith) (omega arith)
    (λ j h. let own : k ≡ first + (k - first + j) = omega arith in c.bit_is.ensures ∙ ap (bit_of valid) own)
