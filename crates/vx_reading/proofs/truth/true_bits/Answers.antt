-- One stretch more.
use Rattle.std.proofs.Common.{◌++◌, ap, ◌∙◌, arith}
use Rattle.std.proofs.lemmas.List.{take_all}
use Rattle.vx_bits.specs.Words.{word_bits}
use Rattle.vx_column.specs.Truth.{true_bits}
use Rattle.vx_reading.proofs.Stretches.{more-bits}
use Rattle.vx_reading.proofs.TruthBits.{finished, length-true_bits}
use Rattle.vx_reading.proofs.truth.true_bits.Goals as goal

pub stretch-preserved : goal.stretch-preserved
stretch-preserved c =
    let bits = true_bits c.args.column.now in let next = c.true_from-next.result in
    record {
      within = c.true_from-next.ensures.within;
      bits =
          c.in_ok-append_word.ensures.ok
          ∙ ap (λ front. front ++ word_bits next.word next.len) c.stretch.invariant.bits
          ∙ more-bits bits c.stretch.at next.word next.len c.true_from-next.ensures;
    }

pub returns : goal.returns
returns c =
    let bits = true_bits c.args.column.now in
    finished c.finish.result c.stretch.bits bits c.finish.ensures
    (c.stretch.invariant.bits ∙ take_all c.stretch.at bits (omega (arith, length-true_bits c.args.column.now)))
