-- The offsets and the sizes cut the entries into the maps.
use Rattle.std.proofs.Common.{◌≡◌, map, Option, None, sym, ap, subst, ◌∙◌}
use Rattle.std.specs.Prelude.{pos, unwrap_or}
use Rattle.vx_types.specs.DType.{type_of}
use Rattle.vx_types.specs.declared.error.ColumnError.{ColumnError}
use Rattle.vx_types.specs.declared.error.ColumnError.TheVariants.{NoMemory}
use Rattle.vx_types.specs.declared.nullability.Nullability.{Nullability}
use Rattle.vx_model.specs.Column.{Column}
use Rattle.vx_model.specs.ListView.{ListViewParts, listview_fault, listview_spans}
use Rattle.vx_model.specs.Lists.{lists_of}
use Rattle.vx_model.specs.Valid.{Valid}
use Rattle.vx_column.specs.ListParts.{listview_parts}
use Rattle.vx_column.specs.Validity.{valid_of}
use Rattle.vx_interleave.specs.Rows.{IsValidityOf, rows_in}
use Rattle.vx_interleave.proofs.JoinedRows.{integers, view_lists, view_sound}
use Rattle.vx_interleave.proofs.maps.gather_views.Goals as goal

pub no_memory-requires : goal.no_memory-requires
no_memory-requires c =
    let o = c.in_ok-offsets.offsets in let s = c.in_ok-sizes.sizes in let v = c.in_ok-validity.validity in let n = (type_of c.args.maps.now).nullability in
    let valid = subst (λ (m : Nullability). IsValidityOf m (rows_in c.args.cells.now) (valid_of v)) c.nullability.ensures c.in_ok-validity.ensures in
    let none = subst (λ (e : Column). listview_fault (listview_parts e o s v) ≡ None) (sym c.in_ok-into_ref.ensures)
    (view_sound (listview_parts c.args.entries o s v) c.args.starts.numbers n c.args.cells.now valid
    (integers o c.in_ok-offsets.ensures.int c.in_ok-offsets.ensures.valid) (integers s c.in_ok-sizes.ensures.int c.in_ok-sizes.ensures.valid)
    c.in_ok-offsets.ensures.numbers (c.in_ok-sizes.ensures.numbers ∙ ap (map pos) c.in_ok-map_sizes.ensures) c.requires.cut) in
    c.in-Err.ensures.refusal ∙ ap (λ (f : Option ColumnError). unwrap_or f NoMemory) none

pub returns-in-Ok-clause-lists : goal.returns-in-Ok-clause-lists
returns-in-Ok-clause-lists c =
    let o = c.in_ok-offsets.offsets in let s = c.in_ok-sizes.sizes in let v = c.in_ok-validity.validity in let n = (type_of c.args.maps.now).nullability in
    let valid = subst (λ (m : Nullability). IsValidityOf m (rows_in c.args.cells.now) (valid_of v)) c.nullability.ensures c.in_ok-validity.ensures in
    ap (λ (p : ListViewParts). lists_of (listview_spans p)) c.in-Ok.ensures.made
    ∙ ap (λ (e : Column). lists_of (listview_spans (listview_parts e o s v))) c.in_ok-into_ref.ensures
    ∙ view_lists (listview_parts c.args.entries o s v) c.args.starts.numbers n c.args.cells.now valid
    (integers o c.in_ok-offsets.ensures.int c.in_ok-offsets.ensures.valid) (integers s c.in_ok-sizes.ensures.int c.in_ok-sizes.ensures.valid)
    c.in_ok-offsets.ensures.numbers (c.in_ok-sizes.ensures.numbers ∙ ap (map pos) c.in_ok-map_sizes.ensures) c.requires.cut

pub returns-in-Ok-clause-valid : goal.returns-in-Ok-clause-valid
returns-in-Ok-clause-valid c =
    subst (λ (w : Valid). IsValidityOf (type_of c.args.maps.now).nullability (rows_in c.args.cells.now) w)
    (sym (ap (λ (p : ListViewParts). p.valid) c.in-Ok.ensures.made))
    (subst (λ (m : Nullability). IsValidityOf m (rows_in c.args.cells.now) (valid_of c.in_ok-validity.validity)) c.nullability.ensures c.in_ok-validity.ensures)
