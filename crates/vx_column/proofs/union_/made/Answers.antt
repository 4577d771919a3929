-- A fault that is told, or sound parts.
use Rattle.std.proofs.Common.{◌≡◌, None, Some, ap, ap₂, sym, ◌∙◌}
use Rattle.std.specs.Prelude.{Err}
use Rattle.vx_bits.specs.Results.{ok_unless}
use Rattle.vx_types.specs.FieldTypes.{VariantTypes}
use Rattle.vx_model.specs.Column.{Column}
use Rattle.vx_model.specs.Union.{UnionParts, union_fault}
use Rattle.vx_column.specs.UnionParts.{union_parts, IsUnion}
use Rattle.vx_column.proofs.union_.made.Goals as goal

pub returns-in-Some : goal.returns-in-Some
returns-in-Some c =
    let p : UnionParts = union_parts c.args.type_ids c.args.offsets c.args.variants c.args.children in
    let fault : union_fault p ≡ Some c.in-Some.fault =
    ap₂ (λ (i : Column) (v : VariantTypes). union_fault (union_parts i c.args.offsets v c.args.children)) (sym c.deref.ensures) (sym c.deref-2.ensures)
    ∙ sym c.fault_of.ensures.fault ∙ c.in-Some.is in
    sym (ap (λ f. ok_unless f p) fault)

pub invariant_of-result : goal.invariant_of-result
invariant_of-result c =
    let p : UnionParts = union_parts c.args.type_ids c.args.offsets c.args.variants c.args.children in
    record {
      valid = ap₂ (λ (i : Column) (v : VariantTypes). union_fault (union_parts i c.args.offsets v c.args.children)) (sym c.deref.ensures) (sym c.deref-2.ensures)
          ∙ sym c.fault_of.ensures.fault ∙ c.in_default.is;
      carried = rw c.deref-2.ensures at (c.fault_of.ensures.carried c.in_default.is);
    }

pub returns : goal.returns
returns c =
    let p : UnionParts = union_parts c.args.type_ids c.args.offsets c.args.variants c.args.children in
    let fault : union_fault p ≡ None =
    ap₂ (λ (i : Column) (v : VariantTypes). union_fault (union_parts i c.args.offsets v c.args.children)) (sym c.deref.ensures) (sym c.deref-2.ensures)
    ∙ sym c.fault_of.ensures.fault ∙ c.in_default.is in
    sym (ap (λ f. ok_unless f p) fault)
