use Rattle.std.proofs.Common.{length, map, ap, ◌∙◌}
use Rattle.std.specs.List.{slice_get}
use Rattle.vx_mask.specs.Positions.{ascending, set_of}
use Rattle.vx_mask.proofs.PositionLists.{length-positions}
use Rattle.vx_filter.proofs.Picks.{picked_at_the_set, set_ascends}
use Rattle.vx_filter.proofs.in_place.filter_slice_in_place.Goals as goal

pub keep_slices-requires-clause-ascend : goal.keep_slices-requires-clause-ascend
keep_slices-requires-clause-ascend g c =
    let n = length c.args.values.now in
    ap (ascending 0 n) c.in-Some.ensures.runs.cover ∙ set_ascends c.args.mask.now.bits.bits n c.requires

pub keep_indices-requires : goal.keep_indices-requires
keep_indices-requires g c =
    let n = length c.args.values.now in
    ap (ascending 0 n) c.in-Some-useful_indices.ensures.set ∙ set_ascends c.args.mask.now.bits.bits n c.requires

pub returns-in-Some-clause-count : goal.returns-in-Some-clause-count
returns-in-Some-clause-count g c =
    c.keep_slices.ensures.count ∙ ap length c.in-Some.ensures.runs.cover ∙ length-positions 0 c.args.mask.now.bits.bits

pub returns-in-Some-clause-front : goal.returns-in-Some-clause-front
returns-in-Some-clause-front g c =
    let old = c.args.values.now in
    picked_at_the_set c.args.mask.now.bits.bits old _ c.requires (c.keep_slices.ensures.front ∙ ap (map (slice_get old)) c.in-Some.ensures.runs.cover)

pub returns-in-Some-useful_indices-clause-count : goal.returns-in-Some-useful_indices-clause-count
returns-in-Some-useful_indices-clause-count g c =
    c.keep_indices.ensures.count ∙ ap length c.in-Some-useful_indices.ensures.set ∙ length-positions 0 c.args.mask.now.bits.bits

pub returns-in-Some-useful_indices-clause-front : goal.returns-in-Some-useful_indices-clause-front
returns-in-Some-useful_indices-clause-front g c =
    let old = c.args.values.now in
    picked_at_the_set c.args.mask.now.bits.bits old _ c.requires (c.keep_indices.ensures.front ∙ ap (map (slice_get old)) c.in-Some-useful_indices.ensures.set)

pub returns-clause-front : goal.returns-clause-front
returns-clause-front g c =
    let old = c.args.values.now in
    picked_at_the_set c.args.mask.now.bits.bits old _ c.requires (c.keep_set.ensures.front ∙ ap (λ b. map (slice_get old) (set_of b.bits)) c.bits.ensures)
