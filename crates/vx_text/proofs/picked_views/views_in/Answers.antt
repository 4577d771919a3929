-- The numbers of the records are those of the column.
use Rattle.std.proofs.Common.{◌≡◌, ℕ, List, map, subst}
use Rattle.std.specs.Prelude.{IfOk}
use Rattle.vx_types.specs.TypeTree.{TypeKind}
use Rattle.vx_offsets.specs.Offsets.{offset_positions, record_numbers}
use Rattle.vx_model.specs.Numbers.{integer_by}
use Rattle.vx_text.specs.Views.{text_view}
use Rattle.vx_text.proofs.picked_views.views_in.Goals as goal

pub returns : goal.returns
returns c =
    let b = c.args.bytes.now in let picks = c.args.picks.now.picks in
    subst (λ (k : TypeKind). IfOk c.views_of.result (λ v. v.items ≡ map (text_view (offset_positions (map (integer_by k) c.args.offsets.now.records)) b) picks)) c.ptype.ensures
    (subst (λ (rs : List (List ℕ)). IfOk c.views_of.result (λ v. v.items ≡ map (text_view (offset_positions (record_numbers c.ptype.result rs)) b) picks)) c.values.ensures.records c.views_of.ensures)
