-- The words, and the rows behind them.
use Rattle.std.proofs.Common.{◌+◌, ◌-◌, ◌*◌, ◌/◌, refl, arith}
use Rattle.vx_arrow_image.specs.Image.{bit_of}
use Rattle.vx_arrow_zeros.proofs.RowLemmas.{joined}
use Rattle.vx_arrow_zeros.proofs.rows.clear_all.Goals as goal

pub returns : goal.returns
returns c =
    let valid = c.args.valid.now in
    let rows = c.args.rows in
    let w = c.args.width in
    let n = 64 * (rows / 64) in
    joined (bit_of valid) (λ k. bit_of valid (n + k)) 0 n (rows - n) w (n * w) rows c.args.values.now c.clear_words.new.values c.clear_rest.new.values
    c.clear_words.ensures c.clear_rest.ensures (omega arith) (omega arith) (λ k h. refl)
