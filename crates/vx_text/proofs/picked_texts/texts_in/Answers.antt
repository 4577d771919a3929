-- The numbers of the records are those of the column.
use Rattle.std.proofs.Common.{[], ℕ, List, map, subst}
use Rattle.std.specs.Prelude.{IfOk}
use Rattle.vx_types.specs.TypeTree.{TypeKind}
use Rattle.vx_mask.specs.Mask.{mask_bits}
use Rattle.vx_take.specs.Picks.{at}
use Rattle.vx_offsets.specs.Offsets.{lists_at, offset_positions, record_numbers}
use Rattle.vx_model.specs.Numbers.{integer_by}
use Rattle.vx_model.specs.Text.{kept_texts}
use Rattle.vx_offsets.specs.Cut.{type_of}
use Rattle.vx_text.specs.Building.{AreTexts}
use Rattle.vx_text.proofs.picked_texts.texts_in.Goals as goal

pub returns : goal.returns
returns c =
    let b = c.args.bytes.now in let picks = c.args.picks.now.picks in let bits = mask_bits c.args.present.now in
    subst (λ (k : TypeKind). IfOk c.texts_of.result (λ t. AreTexts (type_of k) t.offsets t.bytes.items (kept_texts bits (at [] (lists_at (offset_positions (map (integer_by k) c.args.offsets.now.records)) b) picks)))) c.ptype.ensures
    (subst (λ (rs : List (List ℕ)). IfOk c.texts_of.result (λ t. AreTexts c.ptype.result t.offsets t.bytes.items (kept_texts bits (at [] (lists_at (offset_positions (record_numbers c.ptype.result rs)) b) picks)))) c.values-values.ensures.records c.texts_of.ensures)
