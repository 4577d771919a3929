use Rattle.std.proofs.Common.{◌<◌, List, ℕ, get_or, length, ap, subst, sym, ◌∙◌, arith}
use Rattle.vx_mask.proofs.PositionLists.{length-positions, rank_within}
use Rattle.vx_mask.proofs.Partial.{kept_set}
use Rattle.vx_mask.proofs.mask_values.MaskValues.rank.Goals as goal

pub bounds-as_slice-k : goal.bounds-as_slice-k
bounds-as_slice-k c =
    let m = c.self.inside in
    let kept = c.as_slice.ensures ∙ kept_set (record { bits = m.bits; indices = m.indices; slices = m.slices; blocks = m.blocks }) c.args.self.now _ c.in-Some.indices c.self.invariant c.in-Some.is c.self.view_is in
    omega (arith, length-positions 0 c.args.self.now.bits.bits, ap length kept, c.requires)

pub offset_bounds-as_slice-k : goal.offset_bounds-as_slice-k
offset_bounds-as_slice-k c =
    let m = c.self.inside in
    let kept = c.as_slice.ensures ∙ kept_set (record { bits = m.bits; indices = m.indices; slices = m.slices; blocks = m.blocks }) c.args.self.now _ c.in-Some.indices c.self.invariant c.in-Some.is c.self.view_is in
    omega (arith, length-positions 0 c.args.self.now.bits.bits, ap length kept, c.requires, c.as_slice.type_inv)

pub returns-in-Some-clause-within : goal.returns-in-Some-clause-within
returns-in-Some-clause-within c =
    let m = c.self.inside in
    let kept = c.as_slice.ensures ∙ kept_set (record { bits = m.bits; indices = m.indices; slices = m.slices; blocks = m.blocks }) c.args.self.now _ c.in-Some.indices c.self.invariant c.in-Some.is c.self.view_is in
    subst (λ (l : List ℕ). get_or l c.args.k 0 < length c.args.self.now.bits.bits) (sym kept) (rank_within c.args.self.now.bits.bits c.args.k c.requires)
