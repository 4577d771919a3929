-- The next row, and the next field.
use Rattle.std.proofs.Common.{◌≡◌, ◌<◌, [], ◌++◌, ◌∙◌, append_assoc, eqb, length, map, take, get_or, ap, refl, subst, sym, arith}
use Rattle.std.specs.Prelude.{codes}
use Rattle.std.proofs.lemmas.List.{take_all}
use Rattle.vx_types.specs.DType.{type_of}
use Rattle.vx_types.specs.Fields.{names_of}
use Rattle.vx_types.specs.RowValue.{null}
use Rattle.vx_model.specs.Column.{Column}
use Rattle.vx_column.specs.Cell.{row_of, IsOfType}
use Rattle.vx_column.specs.declared.cell.Cell.{Cell}
use Rattle.vx_print.specs.Fields.{texts_at}
use Rattle.vx_print.specs.Text.{gap, comma_list, with_labels, name_label, row_text}
use Rattle.vx_print.proofs.Elements.{fields_text}
use Rattle.vx_print.proofs.Gaps.{row_appended}
use Rattle.vx_print.proofs.Labels.{field_more, length-fields}
use Rattle.vx_print.proofs.nested.+nested.Goals as goal

pub push_elements-loop-i-preserved : goal.push_elements-loop-i-preserved
push_elements-loop-i-preserved t c =
    let s = c.loop-i in
    row_appended c.args.column.now c.args.text.now.items c.args.start s.i s.text.items c.push_next.new.text.items c.push_at.new.text.items (omega arith) (omega arith) s.invariant (c.in_ok-push_next.ensures refl) (c.in_ok-push_at.ensures refl)

pub push_fields-loop-k-preserved : goal.push_fields-loop-k-preserved
push_fields-loop-k-preserved t c =
    let cs = c.args.columns.now in
    let names = map name_label (names_of c.args.names.now) in
    let i = c.args.i in
    let k = c.loop-k.k in
    let u = c.index-columns-k.result in
    let lt : k < length cs = omega arith in
    let init = c.args.text.now.items in
    let text = c.push_label.new.text.items in
    let before = init ++ comma_list (take k (with_labels names (texts_at cs i))) in
    let front = (before ++ gap (eqb k 0)) ++ get_or names k [] in
    let label : text ≡ front =
    c.in_ok-push_label.ensures refl
    ∙ ap (λ l. l ++ (gap (eqb k 0) ++ get_or names k [])) c.loop-k.invariant
    ∙ sym (append_assoc before (gap (eqb k 0)) (get_or names k [])) in
    c.in_ok-push_at.ensures refl
    ∙ ap (λ (v : Column). text ++ row_text v.dtype (get_or v.rows i null)) c.deref.ensures
    ∙ ap (λ l. l ++ row_text u.dtype (get_or u.rows i null)) label
    ∙ ap (λ (v : Column). front ++ row_text v.dtype (get_or v.rows i null)) c.index-columns-k.is
    ∙ field_more names cs i init k u lt

pub push_fields-returns : goal.push_fields-returns
push_fields-returns t c = λ _.
    let cs = c.args.columns.now in
    let names = map name_label (names_of c.args.names.now) in
    let fields = with_labels names (texts_at cs c.args.i) in
    c.loop-k.invariant ∙ ap (λ l. c.args.text.now.items ++ comma_list l) (take_all c.loop-k.k fields (omega (arith, length-fields names cs c.args.i)))

pub push_row-returns-in-Fields : goal.push_row-returns-in-Fields
push_row-returns-in-Fields t c = λ ok.
    let d = type_of c.args.dtype.now in
    let cs = c.in-Fields.fields.columns.now in
    let i = c.in-Fields.fields.row in
    let text = c.args.text.now.items in
    let of_type = subst (λ (r : Cell). IsOfType r d) c.in-Fields.is c.requires.of_type in
    c.push_struct.ensures ok
    ∙ ap (λ ns. text ++ (codes "{" ++ comma_list (with_labels (map name_label ns) (texts_at cs i)) ++ codes "}")) c.names_in.ensures
    ∙ sym (ap (λ l. text ++ l) (fields_text d cs i of_type.kind))
    ∙ sym (ap (λ (r : Cell). text ++ row_text d (row_of r)) c.in-Fields.is)
