-- The eight bytes are those that are kept.
use Rattle.std.proofs.Common.{◌+◌, ◌++◌, ◌∙◌, ap, drop, eqb, length, refl, take}
use Rattle.std.specs.Int.{bit_at, to_le_bytes, w64}
use Rattle.vx_arrow_zeros.proofs.Spread.{eight_kept}
use Rattle.vx_arrow_zeros.proofs.rows.keep_eight.Goals as goal

pub returns : goal.returns
returns c =
    let xs = c.args.values.now in
    let at = c.args.start in
    let own = to_le_bytes w64 c.kept_word-word.result in
    eight_kept (λ k. eqb (bit_at c.args.bits k) 1) c.args.start c.args.values.now own c.put_bytes.new.bytes c.requires refl
    (c.put_bytes.ensures ∙ ap (λ b. take at xs ++ (b ++ drop (at + length b) xs)) c.to_le_bytes.ensures) c.kept_word-word.ensures
