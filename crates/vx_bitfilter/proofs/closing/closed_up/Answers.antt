use Rattle.std.proofs.Common.{◌≡◌, ◌<◌, arith, sym}
use Rattle.std.proofs.lemmas.Nat.{ones_le_self, zero_from_ones}
use Rattle.vx_bits.proofs.WordLists.{one_less}
use Rattle.vx_bitfilter.proofs.ClosedBits.{all_closed, closes_on, closing_starts, not_all_clear}
use Rattle.vx_bitfilter.proofs.PackedBytes.{pext-none}
use Rattle.vx_bitfilter.proofs.closing.closed_up.Goals as goal

pub returns-then-mask-eq0 : goal.returns-then-mask-eq0
returns-then-mask-eq0 c = sym (pext-none c.args.src c.args.mask c.if-mask-eq0.true)

pub loop-init : goal.loop-init
loop-init c = record { closing = closing_starts c.args.src c.args.mask (omega arith); turns = omega arith }

-- a turn that is left has a clear position
some_clear : (c : goal.In-loop) → 0 < c.loop.clear
some_clear c = omega (arith, c.loop-test.true, c.loop.invariant.turns, ones_le_self c.loop.clear)

pub overflow_sub-rest : goal.overflow_sub-rest
overflow_sub-rest c = omega (arith, some_clear c)

pub overflow_sub-below : goal.overflow_sub-below
overflow_sub-below c = omega (arith, some_clear c)

pub overflow_add-packed : goal.overflow_add-packed
overflow_add-packed c =
    omega (arith, (closes_on c.args.src c.args.mask c.loop.packed c.loop.clear (some_clear c) (omega arith) (omega arith) c.loop.invariant.closing).fits)

pub loop-preserved : goal.loop-preserved
loop-preserved c =
    let some = some_clear c in
    record {
      closing = (closes_on c.args.src c.args.mask c.loop.packed c.loop.clear some (omega arith) (omega arith) c.loop.invariant.closing).closing;
      turns = omega (arith, c.loop.invariant.turns, one_less 64 c.loop.clear some (omega arith));
    }

pub overflow_shr-result : goal.overflow_shr-result
overflow_shr-result c = not_all_clear c.args.mask c.if-mask-eq0.false

pub returns : goal.returns
returns c =
    let none : c.loop.clear ≡ 0 = zero_from_ones c.loop.clear (omega (arith, c.loop-test.false, c.loop.invariant.turns, c.loop.auto.counter-end)) in
    all_closed c.args.src c.args.mask c.loop.packed c.loop.clear (omega arith) none c.loop.invariant.closing
