-- The bit is set, or it was clear.
use Rattle.std.proofs.Common.{◌∙◌, sym, ap, eqb, w8}
use Rattle.std.proofs.lemmas.Nat.Bits.{bit_at_set_same, bit_at_set_other}
use Rattle.vx_runs.proofs.puts.with_bit.Goals as goal

pub returns-then-bit-clause-set : goal.returns-then-bit-clause-set
returns-then-bit-clause-set c = ap (λ y. eqb y 1) (bit_at_set_same w8 _ c.args.j c.requires.index) ∙ sym c.if-bit.true

pub returns-then-bit-clause-others : goal.returns-then-bit-clause-others
returns-then-bit-clause-others c i ne = bit_at_set_other w8 _ c.args.j c.requires.index i ne

pub returns-else-bit-clause-set : goal.returns-else-bit-clause-set
returns-else-bit-clause-set c = ap (λ y. eqb y 1) c.requires.clear ∙ sym c.if-bit.false
