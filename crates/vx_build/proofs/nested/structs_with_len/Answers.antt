-- Each row is that row of every column, and no column is refused.
use Rattle.std.proofs.Common.{rules, ◌≡◌, List, length, map, true, refl, sym, ap, ◌∙◌}
use Rattle.vx_types.specs.FieldTypes.{FieldTypes}
use Rattle.vx_model.specs.Column.{Column}
use Rattle.vx_model.specs.Columns.{are_long, rows_across, types_in}
use Rattle.vx_model.specs.Struct.{StructParts, fields_row, struct_column}
use Rattle.vx_model.proofs.ShownRows.{shown_rows-all}
use Rattle.vx_build.proofs.Parts.{struct_sound}
use Rattle.vx_build.proofs.nested.structs_with_len.Goals as goal
use Rattle.vx_bits.proofs.Results.{made, no_refusal}
use Rattle.std.proofs.lemmas.Result.{IfOk-at_ok}

pub returns-in_err-structs-clause-refusal : goal.returns-in_err-structs-clause-refusal
returns-in_err-structs-clause-refusal c =
    let columns = c.in_ok-columns.columns in let types = c.in_ok-types.types in
    let same = IfOk-at_ok (λ (cs : List Column). cs ≡ map (λ f. f.1) c.args.fields.now) c.in_ok-columns.ensures.ok c.columns_in.ensures in
    let typed = IfOk-at_ok (λ (t : FieldTypes). t ≡ record { names = map (λ f. f.0.now) c.args.fields.now; types = types_in (map (λ f. f.1) c.args.fields.now) }) c.in_ok-types.ensures.ok c.struct_fields.ensures in
    let names = map (λ f. f.0.now) c.args.fields.now in
    let long : are_long c.args.len (map (λ f. f.1) c.args.fields.now) ≡ true = search rules in
    absurd (no_refusal _ _ _
    (struct_sound columns names c.args.len types
    (typed ∙ ap (λ (cs : List Column). record { names = map (λ f. f.0.now) c.args.fields.now; types = types_in cs }) (sym same))
    (ap (are_long c.args.len) same ∙ long))
    c.in_err-structs.ensures)

pub returns-clause-rows : goal.returns-clause-rows
returns-clause-rows c =
    let rows = map fields_row (rows_across c.in_ok-columns.columns c.args.len) in
    let same = IfOk-at_ok (λ (cs : List Column). cs ≡ map (λ f. f.1) c.args.fields.now) c.in_ok-columns.ensures.ok c.columns_in.ensures in
    ap (λ (k : Column). k.rows) c.into_array.ensures
    ∙ ap (λ (p : StructParts). (struct_column p).rows) (made _ _ _ c.in_ok-structs.ensures)
    ∙ shown_rows-all (length rows) rows refl
    ∙ ap (λ (columns : List Column). map fields_row (rows_across columns c.args.len)) same
