use Rattle.std.proofs.Common.{ap, ◌∙◌, arith}
use Rattle.vx_bits.proofs.BuiltLists.{word_alike}
use Rattle.vx_bits.specs.Words.{word_bits}
use Rattle.vx_bits.proofs.bit_builder.BitBuilder.append.Goals as goal

pub returns-clause-ok : goal.returns-clause-ok
returns-clause-ok c =
    let bits = ap (λ w. word_bits w 1) c.word_alike.ensures ∙ word_alike c.args.bit 1 (omega arith) in
    rw bits at c.append_word.ensures.ok
