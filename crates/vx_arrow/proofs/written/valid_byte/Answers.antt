-- One bit more.
use Rattle.std.proofs.Common.{◌∙◌, ℕ, ap, refl, subst, arith}
use Rattle.std.specs.Prelude.{is_some}
use Rattle.vx_arrow.specs.Written.{IsByteOf}
use Rattle.vx_arrow.proofs.Writes.{byte_more, no_byte}
use Rattle.vx_arrow.proofs.written.valid_byte.Goals as goal

pub loop-j-init : goal.loop-j-init
loop-j-init c = no_byte _ _ _ refl

pub loop-j-preserved : goal.loop-j-preserved
loop-j-preserved c = byte_more c.args.picks.now.picks c.args.first c.loop-j.j c.loop-j.byte c.with_bit-byte.result _ c.with_bit-byte.ensures.set (c.is_some.ensures ∙ ap is_some c.get.ensures.value) c.with_bit-byte.ensures.others c.loop-j.invariant

pub returns : goal.returns
returns c = subst (λ (n : ℕ). IsByteOf c.args.picks.now.picks c.args.first n c.loop-j.byte) (omega arith) c.loop-j.invariant
