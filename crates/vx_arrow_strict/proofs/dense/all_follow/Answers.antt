-- One row more follows, or not.
use Rattle.std.proofs.Common.{arith, sym, refl}
use Rattle.vx_arrow_image.specs.Image.{part_of}
use Rattle.vx_arrow_image.proofs.CutRows.{range_all}
use Rattle.vx_arrow_image.proofs.Stacks.{range_falls}
use Rattle.vx_arrow_strict.specs.Dense.{follows}
use Rattle.vx_arrow_strict.proofs.Order.{copies, follows_from, follows_more, follows_not, highest_first, highest_next}
use Rattle.vx_arrow_strict.proofs.dense.all_follow.Goals as goal

pub loop-i-init : goal.loop-i-init
loop-i-init c = record {
  highest = highest_first _ _ _ refl refl (λ k. copies 256 k 0);
  follow = λ j low high. absurd (omega arith);
}

pub loop-i-preserved : goal.loop-i-preserved
loop-i-preserved c =
    let p = part_of c.args.node.now in
    let high = c.loop-i.invariant.highest in
    record {
      highest = highest_next p c.loop-i.last _ c.loop-i.i c.id_at-id.result c.four_at-at.result c.loop-i.auto.i high (omega arith) c.id_at-id.ensures c.four_at-at.ensures.value c.if-at-last.false refl;
      follow = follows_more p c.loop-i.i c.loop-i.invariant.follow (follows_from p c.loop-i.last c.loop-i.i c.id_at-id.result c.four_at-at.result c.loop-i.auto.i high c.id_at-id.ensures c.four_at-at.ensures.value c.if-at-last.false);
    }

pub returns-then-at-last : goal.returns-then-at-last
returns-then-at-last c =
    let p = part_of c.args.node.now in
    range_falls (follows p) p.offset p.len c.loop-i.i c.loop-i.auto.i (omega arith) (follows_not p c.loop-i.last c.loop-i.i c.id_at-id.result c.four_at-at.result c.loop-i.auto.i c.loop-i.invariant.highest c.id_at-id.ensures c.four_at-at.ensures.value c.if-at-last.true)

pub returns : goal.returns
returns c = sym (range_all (follows (part_of c.args.node.now)) c.args.node.now.offset c.args.node.now.len (λ j low high. c.loop-i.invariant.follow j low (omega arith)))
