use Rattle.std.proofs.Common.{ap, ◌∙◌, arith}
use Rattle.std.specs.Int.{from_le_bytes, w64}
use Rattle.vx_bits.specs.Words.{word_bits}
use Rattle.vx_bits.proofs.ByteWords.{eight_from, eight_items}
use Rattle.vx_bits.proofs.words.eight_bytes.Goals as goal

pub returns-clause-bits : goal.returns-clause-bits
returns-clause-bits c =
    let bytes = c.args.bytes.now in
    let start = c.args.start in
    ap (λ x. word_bits x 64) (c.from_le_bytes.ensures ∙ ap (from_le_bytes w64) (eight_items bytes start 0 c.requires)) ∙ eight_from bytes start c.requires (λ i. omega (arith, c.type_inv.bytes i))
