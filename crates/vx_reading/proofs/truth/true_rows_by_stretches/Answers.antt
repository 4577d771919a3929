-- One stretch more.
use Rattle.std.proofs.Common.{◌+◌, take, ap, ◌∙◌, arith}
use Rattle.std.proofs.lemmas.List.{length-take, take_all}
use Rattle.std.proofs.lemmas.List.Sums.{count_by-le-length}
use Rattle.vx_bits.specs.BitBuffer.{true_count_of}
use Rattle.vx_column.specs.Truth.{true_bits}
use Rattle.vx_reading.proofs.Stretches.{more-counted}
use Rattle.vx_reading.proofs.TruthBits.{length-true_bits}
use Rattle.vx_reading.proofs.truth.true_rows_by_stretches.Goals as goal

pub overflow_add-count : goal.overflow_add-count
overflow_add-count c =
    let bits = true_bits c.args.column.now in let next = c.true_from-next.result in
    let more = take (c.stretch.at + next.len) bits in
    omega (arith, more-counted bits c.stretch.at next.word next.len c.true_from-next.ensures, count_by-le-length (λ b. b) more, length-take (c.stretch.at + next.len) bits, length-true_bits c.args.column.now)

pub stretch-preserved : goal.stretch-preserved
stretch-preserved c =
    let bits = true_bits c.args.column.now in let next = c.true_from-next.result in
    record {
      within = c.true_from-next.ensures.within;
      counted = omega (arith, more-counted bits c.stretch.at next.word next.len c.true_from-next.ensures);
    }

pub returns : goal.returns
returns c =
    let bits = true_bits c.args.column.now in
    c.stretch.invariant.counted ∙ ap true_count_of (take_all c.stretch.at bits (omega (arith, length-true_bits c.args.column.now)))
