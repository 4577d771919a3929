-- One bit more.
use Rattle.std.proofs.Common.{◌∙◌, ℕ, ap, refl, subst, arith}
use Rattle.std.specs.Prelude.{is_some}
use Rattle.vx_arrow_image.specs.Image.{part_of}
use Rattle.vx_arrow_columns.specs.Picks.{pick_at, place_of}
use Rattle.vx_arrow_columns.specs.Taken.{IsByteOf}
use Rattle.vx_arrow_columns.proofs.Steps.{byte_more, no_byte}
use Rattle.vx_arrow_columns.proofs.writing.valid_byte.Goals as goal

pub loop-j-init : goal.loop-j-init
loop-j-init c = no_byte _ _ _ refl

pub loop-j-preserved : goal.loop-j-preserved
loop-j-preserved c = byte_more _ c.args.first c.loop-j.j c.loop-j.byte c.with_bit-byte.result _ c.with_bit-byte.ensures.set (c.is_some.ensures ∙ ap is_some c.place.ensures.place) c.with_bit-byte.ensures.others c.loop-j.invariant

pub returns : goal.returns
returns c = subst (λ (n : ℕ). IsByteOf (λ k. is_some (place_of (part_of c.args.node.now) (pick_at c.args.picks.now.places.now c.args.picks.now.valid.now c.args.picks.now.add k))) c.args.first n c.loop-j.byte) (omega arith) c.loop-j.invariant
