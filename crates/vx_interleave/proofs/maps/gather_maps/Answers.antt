-- The entries are those of maps.
use Rattle.std.proofs.Common.{◌≡◌, map, true, None, refl, sym, ap, subst, ◌∙◌}
use Rattle.std.specs.Prelude.{not}
use Rattle.std.specs.Cmp.{first_so}
use Rattle.vx_types.specs.DType.{type_of}
use Rattle.vx_types.specs.Nullability.{is_nullable}
use Rattle.vx_types.specs.TypeTree.{TypeKind, is_entry_kind, is_entry_type}
use Rattle.vx_model.specs.Column.{Column}
use Rattle.vx_model.specs.ListView.{ListViewParts}
use Rattle.vx_model.specs.Map.{map_column, map_fault}
use Rattle.vx_interleave.specs.Rows.{AreCellsOf, rows_in, shown_as}
use Rattle.vx_interleave.proofs.JoinedRows.{maps_shown}
use Rattle.vx_interleave.proofs.maps.gather_maps.Goals as goal
use Rattle.vx_bits.proofs.Results.{made, no_refusal}

pub unreachable-requires : goal.unreachable-requires
unreachable-requires c =
    let p = c.in_ok-gather_views.field-0 in
    let entry : is_entry_type p.elements.dtype ≡ true = ap (λ (e : Column). is_entry_type e.dtype) c.in_ok-gather_views.ensures.entries ∙ c.requires.entry in
    let none : map_fault p ≡ None = rw entry refl in
    no_refusal (map_fault p) p c.in-Err.field-0 none (sym c.in-Err.is ∙ c.try_new.ensures)

pub returns-clause-rows : goal.returns-clause-rows
returns-clause-rows c =
    let p = c.in_ok-gather_views.field-0 in let n = (type_of c.args.maps.now).nullability in let k = c.args.entries.dtype.kind in
    let entry : is_entry_type p.elements.dtype ≡ true = ap (λ (e : Column). is_entry_type e.dtype) c.in_ok-gather_views.ensures.entries ∙ c.requires.entry in
    let none : map_fault p ≡ None = rw entry refl in
    let same : c.in-Ok.column ≡ p = made (map_fault p) p c.in-Ok.column (sym c.in-Ok.is ∙ c.try_new.ensures) in
    ap (λ (a : Column). a.rows) c.into_array.ensures
    ∙ ap (λ (q : ListViewParts). (map_column q).rows) same
    ∙ maps_shown p k n c.args.cells.now (first_so (is_entry_kind k) (not (is_nullable c.args.entries.dtype.nullability)) c.requires.entry)
    (subst (λ (x : TypeKind). AreCellsOf x c.args.cells.now) (sym c.requires.kind) c.requires.of_kind)
    c.in_ok-gather_views.ensures.valid c.in_ok-gather_views.ensures.lists
    ∙ ap (λ (x : TypeKind). map (shown_as (record { kind = x; nullability = n })) (rows_in c.args.cells.now)) c.requires.kind
