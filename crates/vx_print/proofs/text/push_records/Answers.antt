-- Rows of records hold no others.
use Rattle.std.proofs.Common.{◌++◌, ◌∙◌, ap, sym}
use Rattle.vx_bits.specs.Records.{records_of}
use Rattle.vx_types.specs.DType.{type_of}
use Rattle.vx_types.specs.TypeTree.{primitive_kind, decimal_kind}
use Rattle.vx_types.specs.declared.dtype.DType.{DType}
use Rattle.vx_print.specs.Records.{record_rows, bits_in}
use Rattle.vx_print.specs.Text.{lines, row_text}
use Rattle.vx_print.proofs.Lines.{record_lines}
use Rattle.vx_print.proofs.text.push_records.Goals as goal

pub returns-in-Primitive : goal.returns-in-Primitive
returns-in-Primitive c = λ ok.
    let bits = bits_in c.args.bits in let rs = records_of c.args.records.now in let text = c.args.text.now.items in
    c.push_primitive.ensures ok
    ∙ ap (λ l. text ++ l) (record_lines (primitive_kind c.in-Primitive.ptype) bits rs)
    ∙ ap (λ (t : DType). text ++ lines (row_text (type_of t)) (record_rows bits rs)) (sym c.in-Primitive.is)

pub returns-in-Decimal : goal.returns-in-Decimal
returns-in-Decimal c = λ ok.
    let bits = bits_in c.args.bits in let rs = records_of c.args.records.now in let text = c.args.text.now.items in
    let d = c.in-Decimal.field-0 in
    c.push_hex.ensures ok
    ∙ ap (λ l. text ++ l) (record_lines (decimal_kind d.precision d.scale d.width) bits rs)
    ∙ ap (λ (t : DType). text ++ lines (row_text (type_of t)) (record_rows bits rs)) (sym c.in-Decimal.is)
