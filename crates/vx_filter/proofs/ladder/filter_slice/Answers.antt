use Rattle.std.proofs.Common.{◌≡◌, ◌<◌, IfOk, length, subst, sym, ap, ◌∙◌}
use Rattle.std.specs.List.{All}
use Rattle.vx_mask.specs.Positions.{ascending}
use Rattle.vx_filter.proofs.Moves.{runs_within}
use Rattle.vx_filter.proofs.Picks.{ordered_runs, ok_picked, runs_picked_set, set_ascends}
use Rattle.vx_filter.proofs.ladder.filter_slice.Goals as goal
use Rattle.vx_mask.proofs.PositionLists.{set_below}

pub filter_slice_by_slices-requires-clause-within : goal.filter_slice_by_slices-requires-clause-within
filter_slice_by_slices-requires-clause-within g c =
    let n = length c.args.src.now in
    let s = c.in-Some.ensures.runs in
    runs_within 0 n c.in-Some.slices.now s.none_empty (ap (ascending 0 n) s.cover ∙ set_ascends c.args.mask.now.bits.bits n c.requires)

pub returns-in-Some : goal.returns-in-Some
returns-in-Some g c =
    let n = length c.args.src.now in
    let s = c.in-Some.ensures.runs in
    let within = runs_within 0 n c.in-Some.slices.now s.none_empty (ap (ascending 0 n) s.cover ∙ set_ascends c.args.mask.now.bits.bits n c.requires) in
    let picked = runs_picked_set c.args.mask.now.bits.bits c.args.src.now c.in-Some.slices.now c.requires s.cover (ordered_runs c.in-Some.slices.now s.none_empty) within in
    subst (λ l. IfOk c.filter_slice_by_slices.result (λ kept. kept.items ≡ l)) picked c.filter_slice_by_slices.ensures

pub filter_slice_by_indices-requires : goal.filter_slice_by_indices-requires
filter_slice_by_indices-requires g c k d h =
    let n = length c.args.src.now in
    let below : All (λ p. p < n) c.in-Some-useful_indices.indices.now = subst (All (λ p. p < n)) (sym c.in-Some-useful_indices.ensures.set) (set_below c.args.mask.now.bits.bits n c.requires) in
    below k d h

pub returns-in-Some-useful_indices : goal.returns-in-Some-useful_indices
returns-in-Some-useful_indices g c =
    ok_picked c.filter_slice_by_indices.result (λ kept. kept.items) c.args.mask.now.bits.bits c.args.src.now c.in-Some-useful_indices.indices.now c.requires c.in-Some-useful_indices.ensures.set c.filter_slice_by_indices.ensures
