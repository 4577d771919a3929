-- The items of one row more.
use Rattle.std.proofs.Common.{◌≤◌, ◌<◌, sym, ◌∙◌, refl, arith, length}
use Rattle.vx_arrow_image.specs.Image.{part_of}
use Rattle.vx_arrow_columns.specs.Picks.{picks_of}
use Rattle.std.proofs.lemmas.Result.{err_from_is_err_and}
use Rattle.vx_arrow_columns.proofs.Lacking.{fault_weaker, not_cut}
use Rattle.vx_arrow_columns.proofs.PickReads.{length_picks, placed_end}
use Rattle.vx_arrow_columns.proofs.Steps.{len_after, at_pick}
use Rattle.vx_arrow_columns.proofs.MeasureSteps.{all_cut, len_none, len_some, limit_few, no_len}
use Rattle.vx_arrow_columns.proofs.Cuts.{len_all}
use Rattle.vx_arrow_columns.proofs.needs.count_items.Goals as goal
use Rattle.vx_arrow_columns.proofs.needs.count_items.Goals.{in-Some+in_ok-cut+else-total-limit, in_default}

pub overflow_add-total : goal.overflow_add-total
overflow_add-total c = let small = c.loop-k.invariant.small in let few = limit_few c.args.size in omega (arith, c.in_ok-cut.ensures.small)

pub loop-k-init : goal.loop-k-init
loop-k-init c = no_len _ _ _ _ _ refl

pub loop-k-preserved : goal.loop-k-preserved
loop-k-preserved c =
    let p = part_of c.args.node.now in
    let ps = c.args.picks.now in
    let q = picks_of ps.places.now ps.valid.now ps.add in
    let count = c.args.items in
    let low : c.loop-k.k < length q = omega (arith, length_picks ps.places.now ps.valid.now ps.add) in
    elim c.match-place.branch [
      | in-Some+in_ok-cut+else-total-limit w ↦
          len_some c.args.size p q count c.loop-k.k w.in-Some.i w.in_ok-cut.cut.start w.in_ok-cut.cut.end c.loop-k.total c.match-place.total low
          (at_pick p ps.places.now ps.valid.now ps.add c.loop-k.k _ c.loop-k-test.true w.in-Some.ensures.place)
          w.in_ok-cut.ensures.start w.in_ok-cut.ensures.end w.in_ok-cut.ensures.cut w.total-is (omega (arith, w.total-is, w.if-total-limit.false, w.limit.ensures)) c.loop-k.invariant
      | in_default w ↦
          len_none c.args.size p q count c.loop-k.k c.loop-k.total c.match-place.total low
          (at_pick p ps.places.now ps.valid.now ps.add c.loop-k.k _ c.loop-k-test.true w.in_default.ensures.place) w.total-is c.loop-k.invariant
    ]

pub returns-clause-len : goal.returns-clause-len
returns-clause-len c =
    let p = part_of c.args.node.now in
    let ps = c.args.picks.now in
    let q = picks_of ps.places.now ps.valid.now ps.add in
    let t = c.loop-k.invariant in
    let all : length q ≤ c.loop-k.k = omega (arith, length_picks ps.places.now ps.valid.now ps.add) in
    record {
      cut = all_cut c.args.size p q c.args.items c.loop-k.k (sym c.if-not-holds_offsets.ensures) all t.cut;
      len = t.len ∙ len_all c.args.size p q c.loop-k.k all;
      small = t.small;
    }

pub holds_offsets-requires : goal.holds_offsets-requires
holds_offsets-requires c = placed_end (part_of c.args.node.now) c.requires.placed

pub returns-in_err-cut-clause-fault : goal.returns-in_err-cut-clause-fault
returns-in_err-cut-clause-fault c =
    let ps = c.args.picks.now in
    let node = c.args.node.now in
    let r = err_from_is_err_and c.from_residual.result c.from_residual.ensures.1 in
    rw (r.1, r.2) (fault_weaker _ _ _ _ _ (λ other. not_cut c.args.size (part_of node) ps.places.now ps.valid.now ps.add c.args.items c.loop-k.k c.in-Some.i c.loop-k-test.true c.in-Some.ensures.place other) (λ b. absurd b) c.in_err-cut.ensures.fault)

pub returns-then-total-limit-clause-fault : goal.returns-then-total-limit-clause-fault
returns-then-total-limit-clause-fault c =
    let ps = c.args.picks.now in
    let new = len_after c.args.size (part_of c.args.node.now) ps.places.now ps.valid.now ps.add c.loop-k.k c.in-Some.i _ _ c.loop-k.total _ c.loop-k-test.true c.in-Some.ensures.place c.in_ok-cut.ensures.start c.in_ok-cut.ensures.end refl c.loop-k.invariant.len in
    omega (arith, c.if-total-limit.true, c.limit.ensures)
