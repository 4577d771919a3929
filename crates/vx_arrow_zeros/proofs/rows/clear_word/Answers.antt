-- All rows are kept, or all are cleared.
use Rattle.std.proofs.Common.{◌∙◌, ◌*◌, ap, eqb, refl}
use Rattle.std.specs.Int.{bit_at}
use Rattle.std.proofs.lemmas.Nat.Bits.{bit_at_ones, bit_at-zero}
use Rattle.vx_arrow_zeros.proofs.RowLemmas.{all_cleared, all_kept}
use Rattle.vx_arrow_zeros.proofs.rows.clear_word.Goals as goal

pub returns-then-word-eq18446744073709551615 : goal.returns-then-word-eq18446744073709551615
returns-then-word-eq18446744073709551615 c =
    all_kept (λ k. eqb (bit_at c.args.word k) 1) c.args.start 64 c.args.width c.args.values.now
    (λ k h. ap (λ v. eqb (bit_at v k) 1) c.if-word-eq18446744073709551615.true ∙ ap (λ x. eqb x 1) (bit_at_ones 64 k h))

pub returns-then-word-eq0 : goal.returns-then-word-eq0
returns-then-word-eq0 c =
    all_cleared (λ k. eqb (bit_at c.args.word k) 1) c.args.start 64 c.args.width (64 * c.args.width) c.args.values.now c.zero.new.values refl c.requires c.zero.ensures
    (λ k h. ap (λ v. eqb (bit_at v k) 1) c.if-word-eq0.true ∙ ap (λ x. eqb x 1) (bit_at-zero k))
