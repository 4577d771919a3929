use Rattle.std.proofs.Common.{◌+◌, ◌^◌, cond, sym, ap, ◌∙◌}
use Rattle.vx_bits.proofs.BitLists.{set_next_at}
use Rattle.vx_take.proofs.bits.with_bit.Goals as goal

pub returns-then-bit : goal.returns-then-bit
returns-then-bit c =
    set_next_at 64 c.args.word c.args.k c.requires.below c.requires.inside
    ∙ ap (λ b. c.args.word + cond b (2 ^ c.args.k) 0) (sym c.if-bit.true)
