-- The answer to one take.
use Rattle.std.proofs.Common.{◌∙◌, ◌∷◌, [], ap, sym, subst, Err}
use Rattle.vx_model.specs.Column.{Column}
use Rattle.vx_types.specs.TypeTree.{is_flat}
use Rattle.vx_model.specs.Plain.{is_unwrapped}
use Rattle.vx_pieces.specs.Indices.{index_value}
use Rattle.vx_steps.specs.Step.{take_step}
use Rattle.vx_select.specs.Select.{IsSelection}
use Rattle.vx_table.proofs.Tables.{selected, not_broken}
use Rattle.vx_table.proofs.taking.taken_column.Goals as goal
use Rattle.vx_lemmas.proofs.Results.{if_ok}

pub returns-in-Ok-clause-rows : goal.returns-in-Ok-clause-rows
returns-in-Ok-clause-rows c =
    let now = selected c.args.column.now (index_value c.args.indices.now) c.requires c.select.result (subst (λ v. IsSelection c.args.column.now (take_step v ∷ []) c.select.result) (ap index_value c.share.ensures) c.select.ensures) c.in-Ok.rows c.in-Ok.is in
    if_ok c.into_ref.result c.into_ref.ensures (λ a is. ap (λ (x : Column). x.rows) is ∙ now.rows)

pub returns-in-Ok-clause-unwrapped : goal.returns-in-Ok-clause-unwrapped
returns-in-Ok-clause-unwrapped c =
    let now = selected c.args.column.now (index_value c.args.indices.now) c.requires c.select.result (subst (λ v. IsSelection c.args.column.now (take_step v ∷ []) c.select.result) (ap index_value c.share.ensures) c.select.ensures) c.in-Ok.rows c.in-Ok.is in
    if_ok c.into_ref.result c.into_ref.ensures (λ a is flat. ap is_unwrapped is ∙ now.unwrapped (ap (λ (x : Column). is_flat x.dtype) (sym is) ∙ flat))

pub unreachable-requires : goal.unreachable-requires
unreachable-requires c =
    not_broken c.args.column.now (index_value c.args.indices.now) c.requires c.select.result (subst (λ v. IsSelection c.args.column.now (take_step v ∷ []) c.select.result) (ap index_value c.share.ensures) c.select.ensures) c.in-Err-Broken.field-0-0 c.in-Err-Broken.field-0-1 (c.in-Err-Broken.is ∙ ap Err c.in-Err-Broken.field-0-is)
