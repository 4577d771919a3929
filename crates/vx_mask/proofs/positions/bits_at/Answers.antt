use Rattle.std.proofs.Common.{◌++◌, replicate, false, ap, ◌∙◌, arith}
use Rattle.std.proofs.lemmas.Result.{IfOk-weaker}
use Rattle.vx_mask.specs.Mask.{at_front}
use Rattle.vx_mask.proofs.MadeBits.{none_made, next_made, one_made, all_made}
use Rattle.vx_mask.proofs.positions.bits_at.Goals as goal

pub loop-index-init : goal.loop-index-init
loop-index-init c = none_made _ c.args.indices.now c.args.len (c.in_ok-append_n.ensures.ok ∙ ap (λ l. l ++ replicate c.args.len false) c.in_ok-bits.ensures) c.requires

pub set-requires : goal.set-requires
set-requires c = next_made c.loop-index.bits c.args.indices.now c.args.len c.loop-index.index-index (omega arith) c.loop-index.invariant

pub loop-index-preserved : goal.loop-index-preserved
loop-index-preserved c = one_made c.loop-index.bits _ c.args.indices.now c.args.len c.loop-index.index-index (omega arith) c.loop-index.invariant c.set.ensures

pub returns : goal.returns
returns c =
    let all = all_made c.loop-index.bits c.args.indices.now c.args.len c.loop-index.index-index (omega arith) c.loop-index.invariant in
    IfOk-weaker c.finish.result _ _ (λ b h. h ∙ ap at_front all) c.finish.ensures
