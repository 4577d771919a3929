-- One pick more was taken.
use Rattle.std.proofs.Common.{◌<◌, ◌≤◌, ◌∙◌, length, arith}
use Rattle.std.specs.Option.{option_copied}
use Rattle.vx_lists.specs.Lists.{last_offset}
use Rattle.vx_lists.specs.Takes.{shown_by}
use Rattle.vx_lists.proofs.TakenLists.{length-shown_by, pick_taken, taken_all}
use Rattle.vx_lists.proofs.take.taken.Goals as goal

pub loop-k-preserved : goal.loop-k-preserved
loop-k-preserved c =
    let v = c.loop-k.invariant in
    let offsets = c.args.offsets.now in
    let shown = shown_by (option_copied c.args.present) c.args.picks.now.picks in
    let within : c.loop-k.k < length shown = omega (arith, c.loop-k-test.true, c.len-len.ensures, length-shown_by (option_copied c.args.present) c.args.picks.now.picks c.requires.long) in
    record {
      taken = pick_taken offsets shown c.loop-k.k c.shown_pick-pick.result _ _ _ _ _ _ _ c.picked_run-run.result _ within c.shown_pick-pick.ensures.value c.picked_run-run.ensures.value c.picked_run-run.ensures.length c.in_ok-total.ensures c.push_reserved-in-loop-k.ensures.items c.push_run-last.ensures.places (c.push_run-last.ensures.inside (last_offset offsets) c.picked_run-run.ensures.inside v.taken.inside) v.taken;
      count = omega (arith, c.push_reserved-in-loop-k.ensures.len, v.count);
      room = c.push_reserved-in-loop-k.ensures.capacity ∙ v.room;
      run_count = omega (arith, c.push_run-last.ensures.count, v.run_count);
      run_room = c.push_run-last.ensures.capacity ∙ v.run_room;
    }

pub returns : goal.returns
returns c =
    let shown = shown_by (option_copied c.args.present) c.args.picks.now.picks in
    let ended : length shown ≤ c.loop-k.k = omega (arith, c.loop-k-test.false, c.len-len.ensures, length-shown_by (option_copied c.args.present) c.args.picks.now.picks c.requires.long) in
    taken_all c.args.offsets.now shown c.loop-k.k _ _ _ _ _ ended (rw c.from_vec.ensures c.push_last.ensures.places) (rw c.from_vec.ensures c.push_last.ensures.inside) c.loop-k.invariant.taken
