-- One row more.
use Rattle.std.proofs.Common.{sym, arith}
use Rattle.vx_arrow_image.specs.Image.{is_view, part_of}
use Rattle.vx_arrow_columns.specs.Picks.{picks_of}
use Rattle.vx_arrow_columns.proofs.Lacking.{not_at}
use Rattle.vx_arrow_columns.proofs.PickReads.{length_picks}
use Rattle.vx_arrow_columns.proofs.Steps.{at_pick}
use Rattle.vx_arrow_columns.proofs.MeasureSteps.{all_hold, hold_none, hold_some, none_hold}
use Rattle.vx_arrow_columns.proofs.kept.are_views.Goals as goal
use Rattle.vx_arrow_columns.proofs.kept.are_views.Goals.{in-Some+else-not-is_view, in_default}

pub loop-k-init : goal.loop-k-init
loop-k-init c = none_hold _ _ _

pub loop-k-preserved : goal.loop-k-preserved
loop-k-preserved c =
    let p = part_of c.args.node.now in
    let ps = c.args.picks.now in
    let k = c.loop-k.k in
    let q = picks_of ps.places.now ps.valid.now ps.add in
    elim c.match-place.branch [
      | in-Some+else-not-is_view w ↦ hold_some p q (is_view (part_of c.args.node.now) c.args.lens.now) k w.in-Some.i (at_pick p ps.places.now ps.valid.now ps.add k _ c.loop-k-test.true w.in-Some.ensures.place) (sym w.if-not-is_view.ensures) c.loop-k.invariant
      | in_default w ↦ hold_none p q (is_view (part_of c.args.node.now) c.args.lens.now) k (at_pick p ps.places.now ps.valid.now ps.add k _ c.loop-k-test.true w.in_default.ensures.place) c.loop-k.invariant
    ]

pub returns-clause-all : goal.returns-clause-all
returns-clause-all c _ =
    let ps = c.args.picks.now in
    all_hold (part_of c.args.node.now) (picks_of ps.places.now ps.valid.now ps.add) (is_view (part_of c.args.node.now) c.args.lens.now) c.loop-k.k (omega (arith, length_picks ps.places.now ps.valid.now ps.add)) c.loop-k.invariant

pub returns-then-not-is_view-clause-some : goal.returns-then-not-is_view-clause-some
returns-then-not-is_view-clause-some c _ =
    let ps = c.args.picks.now in
    not_at (part_of c.args.node.now) ps.places.now ps.valid.now ps.add (is_view (part_of c.args.node.now) c.args.lens.now) c.loop-k.k c.in-Some.i c.loop-k-test.true c.in-Some.ensures.place (sym c.if-not-is_view.ensures)
