-- There are as many columns as ids.
use Rattle.std.proofs.Common.{◌≡◌, true, ap, sym, ◌∙◌, length}
use Rattle.std.specs.Prelude.{◌&&◌}
use Rattle.std.specs.Cmp.{second_so}
use Rattle.vx_types.specs.Same.{are_same_types}
use Rattle.vx_model.specs.Columns.{types_in}
use Rattle.vx_model.specs.Union.{are_places}
use Rattle.vx_types.specs.Variants.{is_id_type}
use Rattle.vx_column.proofs.Tags.{many-alike}
use Rattle.vx_column.proofs.union_check.fault_of.Goals as goal

pub have_rows-requires-clause-many : goal.have_rows-requires-clause-many
have_rows-requires-clause-many c =
    let v = c.args.variants.now in let cs = c.args.children.now in
    let same = are_same_types (types_in cs) v.types in
    let yes : (is_id_type c.args.type_ids.now.dtype && (are_places c.args.offsets.now && same)) ≡ true =
    sym c.are_union_types.ensures.same ∙ c.if-not-are_union_types.false in
    ap length c.ids.ensures.value
    ∙ many-alike v cs c.ids.ensures.valid (second_so (are_places c.args.offsets.now) same (second_so (is_id_type c.args.type_ids.now.dtype) (are_places c.args.offsets.now && same) yes))
    ∙ ap length (sym c.as_slice.ensures)
