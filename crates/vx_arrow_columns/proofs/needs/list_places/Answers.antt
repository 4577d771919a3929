-- The items of one list more.
use Rattle.std.proofs.Common.{◌≡◌, ◌-◌, ◌<◌, ◌++◌, ap, ◌∙◌, refl, arith, length, rules}
use Rattle.std.specs.List.{range_with_len}
use Rattle.vx_arrow_image.specs.Image.{part_of}
use Rattle.vx_arrow_columns.specs.Picks.{picks_of}
use Rattle.std.proofs.lemmas.Result.{err_from_is_err_and}
use Rattle.vx_arrow_columns.proofs.Lacking.{fault_weaker, not_cut}
use Rattle.vx_arrow_columns.proofs.PickReads.{length_picks}
use Rattle.vx_arrow_columns.proofs.Steps.{len_after, at_pick}
use Rattle.vx_arrow_columns.proofs.MeasureSteps.{all_items, limit_few, no_places, places_none, places_some}
use Rattle.vx_arrow_columns.proofs.needs.list_places.Goals as goal
use Rattle.vx_arrow_columns.proofs.needs.list_places.Goals.{in-Some+in_ok-cut+else-total-limit+else-is_err, in_default-place}

pub overflow_add-total : goal.overflow_add-total
overflow_add-total c = let small = c.loop-k.invariant.lens.small in let few = limit_few c.args.size in omega (arith, c.in_ok-cut.ensures.small)

pub loop-k-init : goal.loop-k-init
loop-k-init c = no_places _ _ _ _ _ _ _ refl refl c.in-Ok.ensures.items

pub loop-k-preserved : goal.loop-k-preserved
loop-k-preserved c =
    let z = c.args.size in
    let p = part_of c.args.node.now in
    let ps = c.args.picks.now in
    let k = c.loop-k.k in
    let q = picks_of ps.places.now ps.valid.now ps.add in
    let low : k < length q = omega (arith, length_picks ps.places.now ps.valid.now ps.add) in
    elim c.match-place.branch [
      | in-Some+in_ok-cut+else-total-limit+else-is_err w ↦
          let s = w.in_ok-cut.cut.start in
          let e = w.in_ok-cut.cut.end in
          let pushed : w.push_range.new.places.items ≡ c.loop-k.places.items ++ range_with_len s (e - s) = search rules in
          places_some z p q c.args.items k w.in-Some.i w.in_ok-cut.cut.start w.in_ok-cut.cut.end c.loop-k.total c.match-place.total c.loop-k.places.items c.match-place.places.items c.loop-k.last c.match-place.last low
          (at_pick p ps.places.now ps.valid.now ps.add k _ c.loop-k-test.true w.in-Some.ensures.place)
          w.in_ok-cut.ensures.start w.in_ok-cut.ensures.end
          w.in_ok-cut.ensures.cut
          w.total-is (omega (arith, w.total-is, w.if-total-limit.false, w.limit.ensures))
          (ap (λ v. v.items) w.places-is ∙ pushed) (omega (arith, w.last-is, w.greater-last.ensures.first)) (omega (arith, w.last-is, w.greater-last.ensures.second)) (λ n a b. let l = w.greater-last.ensures.least n a b in omega (arith, w.last-is)) c.loop-k.invariant
      | in_default-place w ↦
          places_none z p q c.args.items k c.loop-k.total c.match-place.total c.loop-k.places.items c.match-place.places.items c.loop-k.last c.match-place.last low
          (at_pick p ps.places.now ps.valid.now ps.add k _ c.loop-k-test.true w.in_default-place.ensures.place) w.total-is (ap (λ v. v.items) w.places-is) w.last-is c.loop-k.invariant
    ]

pub returns-clause-items : goal.returns-clause-items
returns-clause-items c =
    let ps = c.args.picks.now in
    all_items c.args.size (part_of c.args.node.now) _ c.args.items c.loop-k.k _ _ _ c.in_ok-count.ensures.len.cut.held (omega (arith, length_picks ps.places.now ps.valid.now ps.add)) c.loop-k.invariant

pub returns-in_err-cut-clause-fault : goal.returns-in_err-cut-clause-fault
returns-in_err-cut-clause-fault c =
    let ps = c.args.picks.now in
    let r = err_from_is_err_and c.from_residual-in_err-cut.result c.from_residual-in_err-cut.ensures.1 in
    rw (r.1, r.2) (fault_weaker _ _ _ _ _ (λ other. not_cut c.args.size (part_of c.args.node.now) ps.places.now ps.valid.now ps.add c.args.items c.loop-k.k c.in-Some.i c.loop-k-test.true c.in-Some.ensures.place other) (λ b. absurd b) c.in_err-cut.ensures.fault)

pub returns-then-total-limit-clause-fault : goal.returns-then-total-limit-clause-fault
returns-then-total-limit-clause-fault c =
    let ps = c.args.picks.now in
    let new = len_after c.args.size (part_of c.args.node.now) ps.places.now ps.valid.now ps.add c.loop-k.k c.in-Some.i _ _ c.loop-k.total _ c.loop-k-test.true c.in-Some.ensures.place c.in_ok-cut.ensures.start c.in_ok-cut.ensures.end refl c.loop-k.invariant.lens.len in
    omega (arith, c.if-total-limit.true, c.limit.ensures)
