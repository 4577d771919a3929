-- One offset more.
use Rattle.std.proofs.Common.{◌≡◌, ◌<◌, ◌+◌, refl, take, length, arith}
use Rattle.vx_arrow_image.specs.Image.{part_of}
use Rattle.vx_arrow_columns.specs.Picks.{items_len, picks_of}
use Rattle.vx_arrow_columns.proofs.Cuts.{len_within}
use Rattle.vx_arrow_columns.proofs.PickReads.{length_picks}
use Rattle.vx_arrow_columns.proofs.Steps.{len_after, at_pick, first_offset, next_len, next_offset, row_none, row_some}
use Rattle.vx_arrow_columns.proofs.MeasureSteps.{limit_few}
use Rattle.vx_arrow_columns.proofs.writing.write_ends.Goals as goal
use Rattle.vx_arrow_columns.proofs.writing.write_ends.Goals.{in-Some, in_default}

pub loop-k-init : goal.loop-k-init
loop-k-init c = first_offset c.args.size (part_of c.args.node.now) _ _ c.args.out.now _ c.put_offset.ensures refl

pub overflow_sub-at : goal.overflow_sub-at
overflow_sub-at c =
    let p = part_of c.args.node.now in
    let ps = c.args.picks.now in
    let low : c.loop-k.k < length (picks_of ps.places.now ps.valid.now ps.add) = omega (arith, length_picks ps.places.now ps.valid.now ps.add) in
    let there = at_pick p ps.places.now ps.valid.now ps.add c.loop-k.k _ c.loop-k-test.true c.in-Some.ensures.place in
    omega (arith, c.requires.ordered.ordered c.loop-k.k c.in-Some.i low there, c.cut_at-cut.ensures.start, c.cut_at-cut.ensures.end)

pub overflow_add-at : goal.overflow_add-at
overflow_add-at c =
    let ps = c.args.picks.now in
    let new = len_after c.args.size (part_of c.args.node.now) ps.places.now ps.valid.now ps.add c.loop-k.k c.in-Some.i _ _ c.loop-k.at _ c.loop-k-test.true c.in-Some.ensures.place c.cut_at-cut.ensures.start c.cut_at-cut.ensures.end refl c.loop-k.invariant.len in
    omega (arith, c.requires.counted, limit_few c.args.size)

pub put_offset-requires-in-loop-k-clause-small : goal.put_offset-requires-in-loop-k-clause-small
put_offset-requires-in-loop-k-clause-small c =
    let z = c.args.size in
    let k = c.loop-k.k in
    let p = part_of c.args.node.now in
    let ps = c.args.picks.now in
    let q = picks_of ps.places.now ps.valid.now ps.add in
    let low : k < length q = omega (arith, length_picks ps.places.now ps.valid.now ps.add) in
    let new : c.match-place.at ≡ items_len z p (take (k + 1) q) = elim c.match-place.branch [
      | in-Some w ↦ next_len z p q k c.loop-k.at _ _ low (at_pick p ps.places.now ps.valid.now ps.add k _ c.loop-k-test.true w.in-Some.ensures.place) c.loop-k.invariant.len
          (row_some z p w.in-Some.i _ _ c.loop-k.at _ w.cut_at-cut.ensures.start w.cut_at-cut.ensures.end w.at-is)
      | in_default w ↦ next_len z p q k c.loop-k.at _ _ low (at_pick p ps.places.now ps.valid.now ps.add k _ c.loop-k-test.true w.in_default.ensures.place) c.loop-k.invariant.len (row_none z p c.loop-k.at _ w.at-is)
    ] in
    let within = len_within z p q k low in
    let counted = c.requires.counted in
    omega arith

pub loop-k-preserved : goal.loop-k-preserved
loop-k-preserved c =
    let z = c.args.size in
    let p = part_of c.args.node.now in
    let ps = c.args.picks.now in
    let k = c.loop-k.k in
    let q = picks_of ps.places.now ps.valid.now ps.add in
    let low : k < length q = omega (arith, length_picks ps.places.now ps.valid.now ps.add) in
    elim c.match-place.branch [
      | in-Some w ↦ next_offset z p q k c.loop-k.at c.match-place.at _ c.loop-k.out _ low (at_pick p ps.places.now ps.valid.now ps.add k _ c.loop-k-test.true w.in-Some.ensures.place)
          (row_some z p w.in-Some.i _ _ c.loop-k.at _ w.cut_at-cut.ensures.start w.cut_at-cut.ensures.end w.at-is) c.put_offset-in-loop-k.ensures c.loop-k.invariant
      | in_default w ↦ next_offset z p q k c.loop-k.at c.match-place.at _ c.loop-k.out _ low (at_pick p ps.places.now ps.valid.now ps.add k _ c.loop-k-test.true w.in_default.ensures.place)
          (row_none z p c.loop-k.at _ w.at-is) c.put_offset-in-loop-k.ensures c.loop-k.invariant
    ]
