-- The numbers of the records are those of the column.
use Rattle.std.proofs.Common.{ℕ, List, map, slice_range, subst}
use Rattle.std.specs.List.{flat_map}
use Rattle.std.specs.Prelude.{IfOk}
use Rattle.vx_types.specs.TypeTree.{TypeKind}
use Rattle.vx_offsets.specs.Offsets.{lists_at, offset_positions, record_numbers}
use Rattle.vx_model.specs.Numbers.{integer_by}
use Rattle.vx_offsets.specs.Cut.{type_of}
use Rattle.vx_text.specs.Building.{AreTexts}
use Rattle.vx_text.proofs.run_texts.texts_in_runs.Goals as goal

pub returns : goal.returns
returns c =
    let b = c.args.bytes.now in let runs = c.args.runs.now in
    subst (λ (k : TypeKind). IfOk c.texts_of.result (λ t. AreTexts (type_of k) t.offsets t.bytes.items (flat_map (λ run. slice_range (lists_at (offset_positions (map (integer_by k) c.args.offsets.now.records)) b) run.0 run.1) runs))) c.ptype.ensures
    (subst (λ (rs : List (List ℕ)). IfOk c.texts_of.result (λ t. AreTexts c.ptype.result t.offsets t.bytes.items (flat_map (λ run. slice_range (lists_at (offset_positions (record_numbers c.ptype.result rs)) b) run.0 run.1) runs))) c.values.ensures.records c.texts_of.ensures)
