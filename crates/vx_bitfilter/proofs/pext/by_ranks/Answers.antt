use Rattle.std.proofs.Common.{◌≡◌, ◌<◌, arith}
use Rattle.std.proofs.lemmas.Nat.{ones_le_self, zero_from_ones}
use Rattle.vx_bits.proofs.WordLists.{one_less}
use Rattle.vx_bitfilter.proofs.PickRanks.{all_by_ranks, none_by_ranks, rank_fits, rank_taken}
use Rattle.vx_bitfilter.proofs.pext.by_ranks.Goals as goal

pub loop-init : goal.loop-init
loop-init c = record { packed = none_by_ranks c.args.src c.args.mask; turns = omega arith }

-- a turn that is left has a bit
some_left : (c : goal.In-loop) → 0 < c.loop.left
some_left c = omega (arith, c.loop-test.true, c.loop.invariant.turns, ones_le_self c.loop.left)

pub overflow_sub-rest : goal.overflow_sub-rest
overflow_sub-rest c = omega (arith, some_left c)

pub overflow_sub-below : goal.overflow_sub-below
overflow_sub-below c = omega (arith, some_left c)

pub overflow_shl-packed : goal.overflow_shl-packed
overflow_shl-packed c = rank_fits c.args.mask c.loop.left (some_left c) (omega arith)

pub loop-preserved : goal.loop-preserved
loop-preserved c =
    let some = some_left c in
    record {
      packed = rank_taken c.args.src c.args.mask c.loop.packed c.loop.left some (omega arith) c.loop.invariant.packed;
      turns = omega (arith, c.loop.invariant.turns, one_less 64 c.loop.left some (omega arith));
    }

pub returns : goal.returns
returns c =
    let none : c.loop.left ≡ 0 = zero_from_ones c.loop.left (omega (arith, c.loop-test.false, c.loop.invariant.turns, c.loop.auto.counter-end)) in
    all_by_ranks c.args.src c.args.mask c.loop.packed c.loop.left none c.loop.invariant.packed
