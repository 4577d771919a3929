-- The lists of one size under the validity.
use Rattle.std.proofs.Common.{◌≡◌, length, Option, None, refl, sym, ap, subst, ◌∙◌}
use Rattle.std.specs.Prelude.{unwrap_or}
use Rattle.vx_types.specs.declared.error.ColumnError.{ColumnError}
use Rattle.vx_types.specs.declared.error.ColumnError.TheVariants.{NoMemory}
use Rattle.vx_model.specs.Column.{Column}
use Rattle.vx_model.specs.FixedSizeList.{FixedParts, fixed_column, fixed_fault}
use Rattle.vx_column.specs.ListParts.{fixed_parts}
use Rattle.vx_interleave.proofs.JoinedRows.{fixed_lists_rows, fixed_lists_sound}
use Rattle.vx_interleave.proofs.fixed_lists.gather_fixed.Goals as goal

pub no_memory-requires : goal.no_memory-requires
no_memory-requires c =
    let v = c.in_ok-validity.validity in let size = c.args.size in let n = length c.args.cells.now in
    let none = subst (λ (e : Column). fixed_fault (fixed_parts e size n v) ≡ None) (sym c.in_ok-elements.ensures)
    (fixed_lists_sound (fixed_parts c.args.elements size n v) c.args.nullability c.args.cells.now c.requires.of_kind c.in_ok-validity.ensures refl c.requires.rows c.requires.sizes) in
    c.in-Err.ensures.refusal ∙ ap (λ (f : Option ColumnError). unwrap_or f NoMemory) none

pub returns-in-Ok-clause-rows : goal.returns-in-Ok-clause-rows
returns-in-Ok-clause-rows c =
    let v = c.in_ok-validity.validity in let size = c.args.size in let n = length c.args.cells.now in
    ap (λ (a : Column). a.rows) c.into_array.ensures
    ∙ ap (λ (p : FixedParts). (fixed_column p).rows) c.in-Ok.ensures.made
    ∙ ap (λ (e : Column). (fixed_column (fixed_parts e size n v)).rows) c.in_ok-elements.ensures
    ∙ fixed_lists_rows (fixed_parts c.args.elements size n v) c.args.nullability c.args.cells.now c.requires.of_kind c.in_ok-validity.ensures refl c.requires.rows c.requires.sizes
