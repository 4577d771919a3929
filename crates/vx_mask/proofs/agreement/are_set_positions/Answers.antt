use Rattle.std.proofs.Common.{◌<◌, length, sym, ap, ◌∙◌, arith, eqb}
use Rattle.std.proofs.lemmas.List.{take_all}
use Rattle.vx_mask.proofs.AgreeingLists.{position_more, position_is, ends, no_position}
use Rattle.vx_mask.proofs.agreement.are_set_positions.Goals as goal

pub returns-then-next-index : goal.returns-then-next-index
returns-then-next-index c =
    let bits = c.args.bits.now.bits in
    let v = c.loop-index.invariant in
    let n = c.next_with-next.ensures in
    no_position bits c.args.indices.now (λ all.
    let is = position_is bits c.args.indices.now c.loop-index.index-index c.loop-index.low c.next_with-next.result (omega arith) n.from n.within n.passed n.found v.found all in
    c.if-next-index.true (sym is.is))

pub returns-then-next-len : goal.returns-then-next-len
returns-then-next-len c =
    let bits = c.args.bits.now.bits in
    let v = c.loop-index.invariant in
    let n = c.next_with-next.ensures in
    no_position bits c.args.indices.now (λ all.
    let is = position_is bits c.args.indices.now c.loop-index.index-index c.loop-index.low c.next_with-next.result (omega arith) n.from n.within n.passed n.found v.found all in
    absurd (omega (arith, is.within, c.if-next-len.true)))

pub loop-index-preserved : goal.loop-index-preserved
loop-index-preserved c =
    let bits = c.args.bits.now.bits in
    let v = c.loop-index.invariant in
    let n = c.next_with-next.ensures in
    let next = c.next_with-next.result in
    let within : next < length bits = omega (arith, n.within, c.if-next-len.false) in
    record {
      found = position_more bits c.args.indices.now c.loop-index.index-index c.loop-index.low next (omega arith) n.from within n.passed (n.found within) (omega (arith, c.if-next-index.false)) v.found;
      within = omega arith;
    }

pub returns : goal.returns
returns c =
    let bits = c.args.bits.now.bits in
    let indices = c.args.indices.now in
    let v = c.loop-index.invariant in
    let n = c.next_with.ensures in
    let whole = take_all c.loop-index.index-index indices c.loop-index-test.false in
    ap (eqb c.next_with.result) c.len-2.ensures
    ∙ ends bits indices c.loop-index.low c.next_with.result n.from n.within n.passed n.found (sym whole ∙ v.found)
