-- One run more.
use Rattle.std.proofs.Common.{◌+◌, ◌≤◌, get_or, length, ap, refl, subst, arith, ℕ}
use Rattle.vx_runs.proofs.RunPlaces.{all_places, no_run}
use Rattle.vx_arrow_image.specs.Image.{part_of}
use Rattle.vx_arrow_columns.specs.Asked.{the_run_picks}
use Rattle.vx_arrow_columns.specs.Taken.{AreCopied}
use Rattle.vx_arrow_columns.proofs.RunRows.{bare_run, no_runs, one_run, run_among, run_room, same_runs}
use Rattle.vx_arrow_columns.proofs.copying.write_runs.Goals as goal
use Rattle.vx_arrow_columns.proofs.copying.write_runs.Goals.{then-run-ne0, else-run-ne0}

pub loop-k-init : goal.loop-k-init
loop-k-init c = no_runs _ _ _ _ _ _

pub overflow_add-from : goal.overflow_add-from
overflow_add-from c =
    let among = run_among c.args.node.now c.args.picks.now c.loop-k.k c.loop-k-test.true (omega (arith, c.if-run-ne0.true)) c.requires.within c.requires.placed c.requires.values in
    omega (arith, among.last, among.small)

pub overflow_add-from-then-run-ne0 : goal.overflow_add-from-then-run-ne0
overflow_add-from-then-run-ne0 c =
    let among = run_among c.args.node.now c.args.picks.now c.loop-k.k c.loop-k-test.true (omega (arith, c.if-run-ne0.true)) c.requires.within c.requires.placed c.requires.values in
    omega (arith, among.last, among.small)

pub overflow_mul-from : goal.overflow_mul-from
overflow_mul-from c =
    let among = run_among c.args.node.now c.args.picks.now c.loop-k.k c.loop-k-test.true (omega (arith, c.if-run-ne0.true)) c.requires.within c.requires.placed c.requires.values in
    omega (arith, among.last, among.small, among.bytes)

pub overflow_mul-len : goal.overflow_mul-len
overflow_mul-len c =
    let among = run_among c.args.node.now c.args.picks.now c.loop-k.k c.loop-k-test.true (omega (arith, c.if-run-ne0.true)) c.requires.within c.requires.placed c.requires.values in
    omega (arith, among.bytes)

pub put_run-requires-clause-room : goal.put_run-requires-clause-room
put_run-requires-clause-room c =
    let node = c.args.node.now in
    let ps = c.args.picks.now in
    let room = run_room node.width node.values.now (part_of node) ps.runs.now ps.add c.loop-k.k c.loop-k.at (length c.args.out.now) c.loop-k.out _ c.loop-k-test.true refl c.requires.room c.loop-k.invariant in
    omega (arith, room, c.loop-k.auto.out)

pub put_run-requires-clause-there : goal.put_run-requires-clause-there
put_run-requires-clause-there c =
    let among = run_among c.args.node.now c.args.picks.now c.loop-k.k c.loop-k-test.true (omega (arith, c.if-run-ne0.true)) c.requires.within c.requires.placed c.requires.values in
    among.bytes

pub overflow_add-at : goal.overflow_add-at
overflow_add-at c =
    let node = c.args.node.now in
    let ps = c.args.picks.now in
    let room = run_room node.width node.values.now (part_of node) ps.runs.now ps.add c.loop-k.k c.loop-k.at (length c.args.out.now) c.loop-k.out _ c.loop-k-test.true refl c.requires.room c.loop-k.invariant in
    omega (arith, room, c.loop-k.auto.out)

pub loop-k-preserved : goal.loop-k-preserved
loop-k-preserved c =
    let rs = c.args.picks.now.runs.now in
    let node = c.args.node.now in
    let p = part_of node in
    let k = c.loop-k.k in
    let r = get_or rs k no_run in
    let room = run_room node.width node.values.now p rs c.args.picks.now.add k c.loop-k.at (length c.args.out.now) c.loop-k.out r c.loop-k-test.true refl c.requires.room c.loop-k.invariant in
    let low : c.loop-k.at ≤ length c.loop-k.out = omega (arith, room, c.loop-k.auto.out) in
    elim c.if-run-ne0.branch [
      | then-run-ne0 w ↦ same_runs _ _ p rs c.args.picks.now.add (k + 1) _ _ _ _ w.at-is w.out-is
          (one_run node.width node.values.now p rs c.args.picks.now.add k c.loop-k.at (node.offset + c.args.picks.now.add + r.start) c.loop-k.out _ r c.loop-k-test.true refl refl low w.put_run.ensures c.loop-k.invariant)
      | else-run-ne0 w ↦ same_runs _ _ p rs c.args.picks.now.add (k + 1) _ _ _ _ w.at-is w.out-is
          (bare_run node.width node.values.now p rs c.args.picks.now.add k c.loop-k.at c.loop-k.out r c.loop-k-test.true refl (omega (arith, w.if-run-ne0.false)) c.loop-k.invariant)
    ]

pub returns : goal.returns
returns c =
    let rs = c.args.picks.now.runs.now in
    let node = c.args.node.now in
    subst (λ (n : ℕ). AreCopied node.width node.values.now (part_of node) (the_run_picks c.args.picks.now) n c.loop-k.out) (ap length (all_places rs c.loop-k.k (omega arith))) c.loop-k.invariant.are
