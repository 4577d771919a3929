-- What the take leaves is the picked lists.
use Rattle.std.proofs.Common.{◌≤◌, ◌∙◌, Bool, List, length, ap, subst, arith}
use Rattle.vx_offsets.specs.Offsets.{offset_positions}
use Rattle.vx_model.specs.Numbers.{integers_of}
use Rattle.vx_model.specs.Valid.{is_fitting, present_bits}
use Rattle.vx_model.proofs.ShownRows.{length-present_bits}
use Rattle.vx_model.proofs.Spans.{length-spans}
use Rattle.vx_column.specs.Validity.{valid_of}
use Rattle.vx_lists.specs.Lists.{last_offset, row_count}
use Rattle.vx_lists.specs.Takes.{IsListTake, shown_picks}
use Rattle.vx_lists.proofs.MadeLists.{take_leaves}
use Rattle.vx_lists.proofs.TakenLists.{rows_shown}
use Rattle.vx_lists.proofs.list.taken_by.Goals as goal

pub taken_where-requires : goal.taken_where-requires
taken_where-requires c =
    let positions = offset_positions (integers_of c.args.array.now.offsets) in
    let v = valid_of c.args.validity.now in
    record {
      offsets = rw c.as_slice.ensures.value c.in_ok-offsets.ensures.offsets;
      bound = omega (arith, c.requires.bound, length-spans positions, ap length (c.as_slice.ensures.value ∙ c.in_ok-offsets.ensures.value));
      long = ap length c.in_ok-present.ensures ∙ length-present_bits v c.len.result (ap (is_fitting v) c.len.ensures ∙ c.requires.fitting) ∙ c.len.ensures;
    }

pub returns-clause-left : goal.returns-clause-left
returns-clause-left c =
    let positions = offset_positions (integers_of c.args.array.now.offsets) in
    let v = valid_of c.args.validity.now in
    let picks = c.args.picks.now.picks in
    let present = present_bits v (length picks) in
    let seen = c.as_slice.result.now in
    let same = c.as_slice.ensures.value in
    let bits = c.in_ok-present.ensures ∙ ap (present_bits v) c.len.ensures in
    let rows : c.bound.result ≤ row_count seen = omega (arith, c.bound.ensures.value, c.requires.bound, length-spans positions, ap length (same ∙ c.in_ok-offsets.ensures.value)) in
    let within : last_offset seen ≤ length c.args.array.now.elements.rows = omega (arith, ap last_offset same, c.in_ok-offsets.ensures.within) in
    take_leaves positions seen present picks _ _ c.args.array.now.elements.rows (same ∙ c.in_ok-offsets.ensures.value) (rw same c.in_ok-offsets.ensures.offsets)
    (rows_shown present picks c.bound.result (row_count seen) rows c.bound.ensures.below) within
    (subst (λ (b : List Bool). IsListTake seen (shown_picks b picks) c.in_ok-take.take.offsets.items c.in_ok-take.take.runs) bits c.in_ok-take.ensures)
