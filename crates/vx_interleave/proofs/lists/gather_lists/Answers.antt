-- The offsets cut the elements into the lists.
use Rattle.std.proofs.Common.{◌≡◌, ◌++◌, [], ◌∷◌, map, Option, None, sym, ap, subst, ◌∙◌}
use Rattle.std.specs.Prelude.{pos, unwrap_or}
use Rattle.vx_types.specs.declared.error.ColumnError.{ColumnError}
use Rattle.vx_types.specs.declared.error.ColumnError.TheVariants.{NoMemory}
use Rattle.vx_model.specs.Column.{Column}
use Rattle.vx_model.specs.List.{ListParts, list_column, list_fault}
use Rattle.vx_text.specs.OffsetList.{OffsetList}
use Rattle.vx_column.specs.ListParts.{list_parts}
use Rattle.vx_interleave.proofs.JoinedRows.{integers, lists_rows, lists_sound}
use Rattle.vx_interleave.proofs.lists.gather_lists.Goals as goal

pub no_memory-requires : goal.no_memory-requires
no_memory-requires c =
    let o = c.in_ok-offsets.offsets in let v = c.in_ok-validity.validity in
    let numbers = c.in_ok-offsets.ensures.numbers ∙ ap (λ (l : OffsetList). map pos l.numbers) c.in_ok-push_number.ensures.numbers ∙ ap (λ n. map pos (c.args.starts.numbers ++ n ∷ [])) c.len.ensures in
    let none = subst (λ (e : Column). list_fault (list_parts e o v) ≡ None) (sym c.in_ok-into_ref.ensures)
    (lists_sound (list_parts c.args.elements o v) c.args.starts.numbers c.args.nullability c.args.cells.now c.requires.of_kind c.in_ok-validity.ensures
    (integers o c.in_ok-offsets.ensures.int c.in_ok-offsets.ensures.valid) numbers c.requires.cut) in
    c.in-Err.ensures.refusal ∙ ap (λ (f : Option ColumnError). unwrap_or f NoMemory) none

pub returns-in-Ok-clause-rows : goal.returns-in-Ok-clause-rows
returns-in-Ok-clause-rows c =
    let o = c.in_ok-offsets.offsets in let v = c.in_ok-validity.validity in
    let numbers = c.in_ok-offsets.ensures.numbers ∙ ap (λ (l : OffsetList). map pos l.numbers) c.in_ok-push_number.ensures.numbers ∙ ap (λ n. map pos (c.args.starts.numbers ++ n ∷ [])) c.len.ensures in
    ap (λ (a : Column). a.rows) c.into_array.ensures
    ∙ ap (λ (p : ListParts). (list_column p).rows) c.in-Ok.ensures.made
    ∙ ap (λ (e : Column). (list_column (list_parts e o v)).rows) c.in_ok-into_ref.ensures
    ∙ lists_rows (list_parts c.args.elements o v) c.args.starts.numbers c.args.nullability c.args.cells.now c.requires.of_kind c.in_ok-validity.ensures
    (integers o c.in_ok-offsets.ensures.int c.in_ok-offsets.ensures.valid) numbers c.requires.cut
