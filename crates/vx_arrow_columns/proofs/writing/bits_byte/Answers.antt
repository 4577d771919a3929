-- One bit more.
use Rattle.std.proofs.Common.{◌≡◌, ◌+◌, ◌∙◌, ℕ, ap, refl, subst, arith}
use Rattle.vx_arrow_image.specs.Image.{part_of}
use Rattle.vx_arrow_columns.specs.Picks.{pick_at, place_of}
use Rattle.vx_arrow_columns.specs.Taken.{IsByteOf, bit_in}
use Rattle.vx_arrow_columns.proofs.Steps.{byte_more, no_byte}
use Rattle.vx_arrow_columns.proofs.writing.bits_byte.Goals as goal
use Rattle.vx_arrow_columns.proofs.writing.bits_byte.Goals.{in-Some, in-None}

pub loop-j-init : goal.loop-j-init
loop-j-init c = no_byte _ _ _ refl

pub loop-j-preserved : goal.loop-j-preserved
loop-j-preserved c =
    let values = c.args.node.now.values.now in
    let ps = c.args.picks.now in
    let own = place_of (part_of c.args.node.now) (pick_at ps.places.now ps.valid.now ps.add (c.args.first + c.loop-j.j)) in
    let is : c.match-place.bit ≡ bit_in values own = elim c.match-place.branch [
      | in-Some w ↦ w.bit-is ∙ w.bit_is-bit.ensures ∙ ap (bit_in values) w.in-Some.ensures.place
      | in-None w ↦ w.bit-is ∙ ap (bit_in values) w.in-None.ensures.place
    ] in
    byte_more _ c.args.first c.loop-j.j c.loop-j.byte c.with_bit-byte.result _ c.with_bit-byte.ensures.set is c.with_bit-byte.ensures.others c.loop-j.invariant

pub returns : goal.returns
returns c = subst (λ (n : ℕ). IsByteOf (λ k. bit_in c.args.node.now.values.now (place_of (part_of c.args.node.now) (pick_at c.args.picks.now.places.now c.args.picks.now.valid.now c.args.picks.now.add k))) c.args.first n c.loop-j.byte) (omega arith) c.loop-j.invariant
