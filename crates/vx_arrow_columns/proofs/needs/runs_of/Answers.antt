-- The items of one list more.
use Rattle.std.proofs.Common.{◌<◌, ap, sym, ◌∙◌, refl, arith, length}
use Rattle.std.specs.Prelude.{vec_capacity, vec_len}
use Rattle.vx_arrow_image.specs.Image.{part_of}
use Rattle.vx_arrow_columns.specs.Picks.{picks_of}
use Rattle.std.proofs.lemmas.Result.{err_from_is_err_and}
use Rattle.vx_arrow_columns.proofs.Lacking.{fault_weaker, not_cut}
use Rattle.vx_arrow_columns.proofs.PickReads.{length_picks, placed_end}
use Rattle.vx_arrow_columns.proofs.Steps.{len_after, at_pick}
use Rattle.vx_arrow_columns.proofs.MeasureSteps.{all_items, limit_few, no_places, places_none, places_some}
use Rattle.vx_runs.specs.Runs.{run_places}
use Rattle.vx_runs.proofs.RunPlaces.{bare_places, pushed_places}
use Rattle.vx_arrow_columns.proofs.needs.runs_of.Goals as goal
use Rattle.vx_arrow_columns.proofs.needs.runs_of.Goals.{in-Some+in_ok-cut+else-total-limit, in_default-place}

pub overflow_add-total : goal.overflow_add-total
overflow_add-total c = let small = c.loop-k.invariant.items.lens.small in let few = limit_few c.args.size in omega (arith, c.in_ok-cut.ensures.small)

pub loop-k-init : goal.loop-k-init
loop-k-init c = record {
  items = no_places _ _ _ _ _ _ _ refl refl (bare_places c.in-Ok.runs.items c.in-Ok.ensures.items);
  room = let e = c.in-Ok.ensures.len in let f = c.in-Ok.ensures.capacity in omega arith;
}

pub push_reserved-requires : goal.push_reserved-requires
push_reserved-requires c = let r = c.loop-k.invariant.room in omega (arith, c.loop-k-test.true)

pub loop-k-preserved : goal.loop-k-preserved
loop-k-preserved c =
    let z = c.args.size in
    let p = part_of c.args.node.now in
    let ps = c.args.picks.now in
    let k = c.loop-k.k in
    let q = picks_of ps.places.now ps.valid.now ps.add in
    let low : k < length q = omega (arith, length_picks ps.places.now ps.valid.now ps.add) in
    let low' = c.loop-k-test.true in
    let r = c.loop-k.invariant.room in
    elim c.match-place.branch [
      | in-Some+in_ok-cut+else-total-limit w ↦
          record {
            items = places_some z p q c.args.items k w.in-Some.i w.in_ok-cut.cut.start w.in_ok-cut.cut.end c.loop-k.total c.match-place.total (run_places c.loop-k.runs.items) (run_places c.match-place.runs.items) c.loop-k.last c.match-place.last low
                (at_pick p ps.places.now ps.valid.now ps.add k _ c.loop-k-test.true w.in-Some.ensures.place)
                w.in_ok-cut.ensures.start w.in_ok-cut.ensures.end
                w.in_ok-cut.ensures.cut
                w.total-is (omega (arith, w.total-is, w.if-total-limit.false, w.limit.ensures))
                (pushed_places c.loop-k.runs.items c.match-place.runs.items _ (ap (λ v. v.items) w.runs-is ∙ w.push_reserved.ensures.items)) (omega (arith, w.last-is, w.greater-last.ensures.first)) (omega (arith, w.last-is, w.greater-last.ensures.second)) (λ n a b. let l = w.greater-last.ensures.least n a b in omega (arith, w.last-is)) c.loop-k.invariant.items;
            room = let l = ap vec_len w.runs-is in let m = ap vec_capacity w.runs-is in omega (arith, w.push_reserved.ensures.len, w.push_reserved.ensures.capacity);
          }
      | in_default-place w ↦
          record {
            items = places_none z p q c.args.items k c.loop-k.total c.match-place.total (run_places c.loop-k.runs.items) (run_places c.match-place.runs.items) c.loop-k.last c.match-place.last low
                (at_pick p ps.places.now ps.valid.now ps.add k _ c.loop-k-test.true w.in_default-place.ensures.place) w.total-is (ap (λ v. run_places v.items) w.runs-is) w.last-is c.loop-k.invariant.items;
            room = let l = ap vec_len w.runs-is in let m = ap vec_capacity w.runs-is in omega arith;
          }
    ]

pub returns-clause-items : goal.returns-clause-items
returns-clause-items c =
    let ps = c.args.picks.now in
    all_items c.args.size (part_of c.args.node.now) _ c.args.items c.loop-k.k _ _ _ (sym c.if-not-holds_offsets.ensures) (omega (arith, length_picks ps.places.now ps.valid.now ps.add)) c.loop-k.invariant.items

pub holds_offsets-requires : goal.holds_offsets-requires
holds_offsets-requires c = placed_end (part_of c.args.node.now) c.requires.placed

pub returns-in_err-cut-clause-fault : goal.returns-in_err-cut-clause-fault
returns-in_err-cut-clause-fault c =
    let ps = c.args.picks.now in
    let r = err_from_is_err_and c.from_residual.result c.from_residual.ensures.1 in
    rw (r.1, r.2) (fault_weaker _ _ _ _ _ (λ other. not_cut c.args.size (part_of c.args.node.now) ps.places.now ps.valid.now ps.add c.args.items c.loop-k.k c.in-Some.i c.loop-k-test.true c.in-Some.ensures.place other) (λ b. absurd b) c.in_err-cut.ensures.fault)

pub returns-then-total-limit-clause-fault : goal.returns-then-total-limit-clause-fault
returns-then-total-limit-clause-fault c =
    let ps = c.args.picks.now in
    let new = len_after c.args.size (part_of c.args.node.now) ps.places.now ps.valid.now ps.add c.loop-k.k c.in-Some.i _ _ c.loop-k.total _ c.loop-k-test.true c.in-Some.ensures.place c.in_ok-cut.ensures.start c.in_ok-cut.ensures.end refl c.loop-k.invariant.items.lens.len in
    omega (arith, c.if-total-limit.true, c.limit.ensures)
