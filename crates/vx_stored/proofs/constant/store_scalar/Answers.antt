-- The copies that are stored show the rows of the value.
use Rattle.std.proofs.Common.{◌≡◌, true, false, sym, ap, ◌∙◌}
use Rattle.std.specs.Prelude.{replicate}
use Rattle.vx_types.specs.DType.{type_of}
use Rattle.vx_types.specs.PType.{width}
use Rattle.vx_types.specs.TypeTree.{TypeTree, null_type, primitive_kind, decimal_kind, is_bool_kind}
use Rattle.vx_model.specs.Column.{Column}
use Rattle.vx_model.specs.Valid.{present_bits, shown_rows}
use Rattle.vx_model.specs.Null.{null_column}
use Rattle.vx_column.specs.Validity.{valid_of}
use Rattle.vx_stored.specs.Scalars.{copied_bits, copied_records}
use Rattle.vx_stored.proofs.StoredScalars.{of_column, rows-null, rows-bits, rows-bytes}
use Rattle.vx_stored.proofs.constant.store_scalar.Goals as goal

pub returns-in-Null-clause-rows : goal.returns-in-Null-clause-rows
returns-in-Null-clause-rows c =
    let s = c.args.scalar.now in let v = valid_of c.args.validity in let n = c.args.len in
    let t : s.dtype ≡ null_type = sym c.dtype.ensures.value ∙ ap type_of c.in-Null.is in
    ap (λ (a : Column). a.rows) c.into_array.ensures
    ∙ ap (λ k. (null_column k).rows) c.new.ensures
    ∙ rows-null s c.dtype.ensures.valid v n c.requires.null t

pub returns-in-Bool-clause-rows : goal.returns-in-Bool-clause-rows
returns-in-Bool-clause-rows c =
    let s = c.args.scalar.now in let v = valid_of c.args.validity in let n = c.args.len in
    let same = rw c.value-value.ensures.value at c.store_bits.ensures in
    let k : is_bool_kind s.dtype.kind ≡ true = ap (λ (t : TypeTree). is_bool_kind t.kind) (sym c.dtype.ensures.value ∙ ap type_of c.in-Bool.is) in
    of_column (λ a. a.rows ≡ shown_rows (present_bits v n) (replicate n s.row)) c.store_bits.result (copied_bits s.row n v) same
    (rows-bits s c.dtype.ensures.valid v n c.requires.null k)

pub returns-in-Primitive-clause-rows : goal.returns-in-Primitive-clause-rows
returns-in-Primitive-clause-rows c =
    let s = c.args.scalar.now in let v = valid_of c.args.validity in let n = c.args.len in let p = c.in-Primitive.ptype in
    let same = rw c.value-value.ensures.value at c.store_records.ensures in
    let k : is_bool_kind s.dtype.kind ≡ false = ap (λ (t : TypeTree). is_bool_kind t.kind) (sym c.dtype.ensures.value ∙ ap type_of c.in-Primitive.is) in
    of_column (λ a. a.rows ≡ shown_rows (present_bits v n) (replicate n s.row)) c.store_records.result (copied_records (primitive_kind p) s.row n v) same
    (rows-bytes s c.dtype.ensures.valid v n c.requires.null (width p) k)

pub returns-in-Decimal-clause-rows : goal.returns-in-Decimal-clause-rows
returns-in-Decimal-clause-rows c =
    let s = c.args.scalar.now in let v = valid_of c.args.validity in let n = c.args.len in let d = c.in-Decimal.decimal in
    let same = rw c.value-value.ensures.value at c.store_records-in-Decimal.ensures in
    let k : is_bool_kind s.dtype.kind ≡ false = ap (λ (t : TypeTree). is_bool_kind t.kind) (sym c.dtype.ensures.value ∙ ap type_of c.in-Decimal.is) in
    of_column (λ a. a.rows ≡ shown_rows (present_bits v n) (replicate n s.row)) c.store_records-in-Decimal.result (copied_records (decimal_kind d.precision d.scale d.width) s.row n v) same
    (rows-bytes s c.dtype.ensures.valid v n c.requires.null d.width k)
