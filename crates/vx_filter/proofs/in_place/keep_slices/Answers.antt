use Rattle.std.proofs.Math.ListN.{drop_of_length-le}
use Rattle.std.proofs.Common.{◌-◌, length, get_or, take, refl, ap, arith, drop, ◌∙◌}
use Rattle.std.specs.List.{range_with_len}
use Rattle.std.proofs.lemmas.List.{length-append, take_all}
use Rattle.std.proofs.lemmas.List.FromFn.{length-range_with_len}
use Rattle.vx_mask.specs.Positions.{run_positions}
use Rattle.vx_mask.proofs.AscendingLists.{covered_more}
use Rattle.vx_filter.proofs.Moves.{next_run_moved, next_run_place, all_moved}
use Rattle.vx_filter.proofs.in_place.keep_slices.Goals as goal

pub move_down-requires-clause-down : goal.move_down-requires-clause-down
move_down-requires-clause-down g c =
    (next_run_place _ c.loop-run.values c.loop-run.kept c.loop-run.run-index c.args.slices.now (0, 0) c.loop-run-test.true c.requires.some c.loop-run.invariant.moving).behind

pub move_down-requires-clause-within : goal.move_down-requires-clause-within
move_down-requires-clause-within g c =
    let place = next_run_place _ c.loop-run.values c.loop-run.kept c.loop-run.run-index c.args.slices.now (0, 0) c.loop-run-test.true c.requires.some c.loop-run.invariant.moving in
    omega (arith, place.within, place.some)

pub overflow_add-kept : goal.overflow_add-kept
overflow_add-kept g c =
    let place = next_run_place _ c.loop-run.values c.loop-run.kept c.loop-run.run-index c.args.slices.now (0, 0) c.loop-run-test.true c.requires.some c.loop-run.invariant.moving in
    omega (arith, place.within, place.some, place.behind)

pub loop-run-preserved : goal.loop-run-preserved
loop-run-preserved g c =
    let v = c.loop-run.invariant in
    let runs = c.args.slices.now in
    let k = c.loop-run.run-index in
    record {
      moving = next_run_moved _ c.loop-run.values _ c.loop-run.kept _ k runs (0, 0) c.loop-run-test.true c.requires.some refl (omega arith) c.move_down.ensures.front c.move_down.ensures.after v.moving;
      count = omega (arith, v.count, ap length (covered_more runs k (0, 0) c.loop-run-test.true), length-append (run_positions (take k runs)) (range_with_len (get_or runs k (0, 0)).0 ((get_or runs k (0, 0)).1 - (get_or runs k (0, 0)).0)), length-range_with_len (get_or runs k (0, 0)).0 ((get_or runs k (0, 0)).1 - (get_or runs k (0, 0)).0));
    }

pub loop-run-init : goal.loop-run-init
loop-run-init g c =
    record {
      moving = record { low = 0; moving = record { whole = refl; behind = omega arith; ahead = c.requires.ascend } };
      count = refl;
    }

pub returns-clause-count : goal.returns-clause-count
returns-clause-count g c =
    c.loop-run.invariant.count ∙ ap (λ l. length (run_positions l)) (take_all c.loop-run.run-index c.args.slices.now c.loop-run-test.false)

pub returns-clause-front : goal.returns-clause-front
returns-clause-front g c =
    all_moved _ c.loop-run.values c.loop-run.kept _ (run_positions (drop c.loop-run.run-index c.args.slices.now)) (ap run_positions (drop_of_length-le c.args.slices.now c.loop-run-test.false)) c.loop-run.invariant.moving.moving
