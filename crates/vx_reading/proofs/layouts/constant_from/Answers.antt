-- Rows that are alike.
use Rattle.std.proofs.Common.{replicate, ap, ◌∙◌, arith}
use Rattle.vx_bits.specs.BitBuffer.{number_of}
use Rattle.vx_model.proofs.LazyRows.{length-constant}
use Rattle.vx_reading.proofs.Stretches.{stretch-constant}
use Rattle.vx_reading.proofs.layouts.constant_from.Goals as goal

pub returns : goal.returns
returns c =
    let p = c.args.array.now in let n = c.min-len.result in
    let long = length-constant p in
    stretch-constant p c.args.start c.alike-word.result n (omega (arith, long)) (omega (arith, long)) (c.alike-word.ensures ∙ ap (λ b. number_of (replicate n b)) c.is_true.ensures)
