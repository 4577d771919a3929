use Rattle.std.proofs.Math.ListN.{drop_of_length-le}
use Rattle.std.proofs.Common.{arith, ◌≡◌, Some, length, take, drop, map, refl, ap, ◌∙◌}
use Rattle.vx_filter.proofs.Moves.{all_moved, index_moved, next_index_place}
use Rattle.vx_filter.proofs.in_place.keep_indices.Goals as goal

pub loop-i-preserved : goal.loop-i-preserved
loop-i-preserved g c = index_moved _ c.loop-i.values _ c.loop-i.i c.args.indices.now (omega arith) c.move_one.ensures c.loop-i.invariant

pub loop-i-init : goal.loop-i-init
loop-i-init g c = record { low = 0; moving = record { whole = refl; behind = omega arith; ahead = c.requires } }

pub move_one-requires-clause-from : goal.move_one-requires-clause-from
move_one-requires-clause-from g c =
    (next_index_place _ c.loop-i.values c.loop-i.i c.args.indices.now c.loop-i-test.true c.loop-i.invariant).within

pub move_one-requires-clause-to : goal.move_one-requires-clause-to
move_one-requires-clause-to g c =
    let place = next_index_place _ c.loop-i.values c.loop-i.i c.args.indices.now c.loop-i-test.true c.loop-i.invariant in
    omega (arith, place.within, place.behind)

pub returns-clause-count : goal.returns-clause-count
returns-clause-count g c = refl

pub returns-clause-front : goal.returns-clause-front
returns-clause-front g c =
    let values = c.loop-i.values in
    let indices = c.args.indices.now in
    let end : length indices ≡ c.loop-i.i = omega (arith, c.loop-i-test.false, c.loop-i.auto.i-end) in
    ap (λ n. map Some (take n values)) end
    ∙ all_moved _ values c.loop-i.i _ (drop c.loop-i.i indices) (drop_of_length-le indices c.loop-i-test.false) c.loop-i.invariant.moving
