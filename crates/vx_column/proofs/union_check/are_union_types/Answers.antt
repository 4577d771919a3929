-- The columns' types are ones that columns may have, and those of the variants.
use Rattle.std.proofs.Common.{◌≡◌, true, ap, sym, ◌∙◌}
use Rattle.vx_types.specs.Same.{are_same_types}
use Rattle.vx_types.specs.TypeTree.{TypeTrees, are_carried, types_of}
use Rattle.vx_model.specs.Columns.{types_in}
use Rattle.vx_model.proofs.StructSteps.{same_trees}
use Rattle.vx_column.proofs.union_check.are_union_types.Goals as goal

pub returns-clause-carried : goal.returns-clause-carried
returns-clause-carried c = λ yes.
    let ts = c.args.variants.now.types in
    let same : are_same_types (types_in c.as_slice.result.now) ts ≡ true =
    ap (are_same_types (types_in c.as_slice.result.now)) (sym c.types.ensures.value) ∙ sym c.are_of_types.ensures.same ∙ yes in
    ap are_carried (sym (same_trees (types_of (types_in c.as_slice.result.now)) (types_of ts) same)) ∙ c.are_of_types.ensures.carried yes
