-- The unwrapped form of a column, from those of its parts.
use Rattle.std.proofs.Common.{◌≡◌, length, true, ap, ◌∙◌, arith}
use Rattle.vx_mask.specs.Mask.{mask_bits}
use Rattle.vx_types.specs.TypeTree.{TypeTree, is_flat, is_int_type}
use Rattle.vx_take.specs.Picks.{BoundedPicks}
use Rattle.vx_positions.specs.Positions.{positions_of}
use Rattle.vx_model.specs.Numbers.{numbers_of}
use Rattle.std.specs.Prelude.{IfOk}
use Rattle.vx_model.specs.Step.{IsStep, IsTake}
use Rattle.vx_model.proofs.LazyRows.{int-dict}
use Rattle.vx_model.proofs.DictSteps.{execute-dict, first_bad-execute}
use Rattle.vx_model.proofs.FilterSteps.{execute-filter}
use Rattle.vx_column.specs.Validity.{valid_of}
use Rattle.vx_model.specs.Valid.{is_fitting}
use Rattle.vx_model.specs.Valid.{valid_size}
use Rattle.std.proofs.Common.{◌+◌, ◌<◌, List, take, get_or, refl, sym, subst}
use Rattle.vx_model.specs.Column.{Column}
use Rattle.vx_model.specs.Columns.{AreSteps}
use Rattle.vx_model.specs.Struct.{StructParts}
use Rattle.vx_model.specs.Valid.{nullability_by, present_bits, IsLeft}
use Rattle.vx_model.proofs.Across.{long-same, types-steps}
use Rattle.vx_model.proofs.StructSteps.{fault-struct, fitting-struct, is_same-struct, long-struct}
use Rattle.vx_dispatch.proofs.EachColumn.{same_more}
use Rattle.vx_dispatch.proofs.ListSteps.{fits_same}
use Rattle.std.proofs.Common.{Option}
use Rattle.vx_model.specs.Records.{RecordParts}
use Rattle.vx_model.specs.Union.{UnionParts, union_column, union_fault}
use Rattle.vx_model.proofs.UnionFaults.{fault-union-same, is_same-union}
use Rattle.vx_dispatch.proofs.+execute.Goals as goal
use Rattle.vx_lemmas.proofs.Results.{if_ok}

pub dict::DictArrayExecuteRows::execute-number_picks-requires-clause-int : goal.dict::DictArrayExecuteRows::execute-number_picks-requires-clause-int
dict::DictArrayExecuteRows::execute-number_picks-requires-clause-int t c =
    let p = c.args.self.now in let codes = c.in_ok-codes.codes in
    let coded : IsStep p.codes p.codes.rows p.codes.dtype codes = rw (c.deref.ensures ∙ c.codes.ensures.value) at c.in_ok-codes.ensures.same in
    ap is_int_type coded.dtype ∙ int-dict p c.codes.ensures.valid

pub dict::DictArrayExecuteRows::execute-number_picks-requires-clause-sound : goal.dict::DictArrayExecuteRows::execute-number_picks-requires-clause-sound
dict::DictArrayExecuteRows::execute-number_picks-requires-clause-sound t c =
    let p = c.args.self.now in let codes = c.in_ok-codes.codes in let values = c.in_ok-values.values in
    let coded : IsStep p.codes p.codes.rows p.codes.dtype codes = rw (c.deref.ensures ∙ c.codes.ensures.value) at c.in_ok-codes.ensures.same in
    let valued : IsStep p.values p.values.rows p.values.dtype values = rw (c.deref-2.ensures ∙ c.values.ensures.value) at c.in_ok-values.ensures.same in
    rw c.len.ensures (first_bad-execute p codes values coded valued c.codes.ensures.valid)

pub dict::DictArrayExecuteRows::execute-returns-clause-same : goal.dict::DictArrayExecuteRows::execute-returns-clause-same
dict::DictArrayExecuteRows::execute-returns-clause-same t c =
    let p = c.args.self.now in let codes = c.in_ok-codes.codes in let values = c.in_ok-values.values in
    let coded : IsStep p.codes p.codes.rows p.codes.dtype codes = rw (c.deref.ensures ∙ c.codes.ensures.value) at c.in_ok-codes.ensures.same in
    let valued : IsStep p.values p.values.rows p.values.dtype values = rw (c.deref-2.ensures ∙ c.values.ensures.value) at c.in_ok-values.ensures.same in
    let named : c.in_ok-named.named.picks ≡ positions_of (numbers_of codes) = ap (λ (x : BoundedPicks). x.picks) c.in_ok-named.ensures.picks in
    let nullability : c.nullability.result ≡ codes.dtype.nullability = c.nullability.ensures ∙ ap (λ (t : TypeTree). t.nullability) c.dtype.ensures.value in
    let taken : IfOk c.take_picks.result (IsTake values (positions_of (numbers_of codes)) codes.dtype.nullability) = rw (← named, ← nullability) c.take_picks.ensures in
    if_ok c.take_picks.result taken (λ a. execute-dict p codes values a coded valued)

pub dict::DictArrayExecuteRows::execute-returns-clause-unwrapped : goal.dict::DictArrayExecuteRows::execute-returns-clause-unwrapped
dict::DictArrayExecuteRows::execute-returns-clause-unwrapped t c = λ flat.
    let p = c.args.self.now in
    let values = c.in_ok-values.ensures.unwrapped (ap (λ x. is_flat x.dtype) (c.deref-2.ensures ∙ c.values.ensures.value) ∙ flat) in
    if_ok c.take_picks.result c.take_picks.ensures (λ a taken. taken.unwrapped values)

pub dict::DictArrayExecuteRows::execute-returns-clause-direct : goal.dict::DictArrayExecuteRows::execute-returns-clause-direct
dict::DictArrayExecuteRows::execute-returns-clause-direct t c =
    if_ok c.take_picks.result c.take_picks.ensures (λ a taken. taken.direct c.in_ok-values.ensures.direct)

pub filter_layout::FilterArrayExecuteRows::execute-returns-clause-same : goal.filter_layout::FilterArrayExecuteRows::execute-returns-clause-same
filter_layout::FilterArrayExecuteRows::execute-returns-clause-same t c =
    let p = c.args.self.now in let child = c.in_ok-child.child in
    let same : IsStep p.child p.child.rows p.child.dtype child = rw (c.deref.ensures ∙ c.child.ensures.value) at c.in_ok-child.ensures.same in
    if_ok c.filter.result c.filter.ensures.cut (λ a cut. execute-filter p child a same (rw (ap mask_bits c.mask.ensures.value) at cut))

pub filter_layout::FilterArrayExecuteRows::execute-returns-clause-unwrapped : goal.filter_layout::FilterArrayExecuteRows::execute-returns-clause-unwrapped
filter_layout::FilterArrayExecuteRows::execute-returns-clause-unwrapped t c = λ flat.
    let child = c.in_ok-child.ensures.unwrapped (ap (λ x. is_flat x.dtype) (c.deref.ensures ∙ c.child.ensures.value) ∙ flat) in
    if_ok c.filter.result c.filter.ensures.cut (λ a cut. cut.step.unwrapped child)

pub filter_layout::FilterArrayExecuteRows::execute-returns-clause-direct : goal.filter_layout::FilterArrayExecuteRows::execute-returns-clause-direct
filter_layout::FilterArrayExecuteRows::execute-returns-clause-direct t c =
    if_ok c.filter.result c.filter.ensures.cut (λ a cut. cut.step.direct c.in_ok-child.ensures.direct)

pub stored::StoredExecuteRows::execute-execute_validity-requires : goal.stored::StoredExecuteRows::execute-execute_validity-requires
stored::StoredExecuteRows::execute-execute_validity-requires t c =
    let v = c.validity.ensures in
    let fits : is_fitting (valid_of c.validity.result.now) c.len.result ≡ true = rw (v.value, c.len.ensures) v.fitting in
    (omega (arith, ap valid_size v.value), fits)

-- ---- structs

pub columns::execute_each-loop-column-preserved : goal.columns::execute_each-loop-column-preserved
columns::execute_each-loop-column-preserved t c =
    let cs = c.args.columns.now in let k = c.loop-column.column-index in
    let column = c.column-item.result in let x = c.in_ok-into_ref.field-0 in
    let here : k < length cs = rw (← c.as_slice-column-items.ensures) c.loop-column-test.true in
    let is : column ≡ get_or cs k column = rw (← c.as_slice-column-items.ensures) c.column-item.is in
    let step : IsStep column column.rows column.dtype x = rw (c.in_ok-into_ref.ensures, ← c.deref.ensures) c.in_ok-execute_elements.ensures in
    subst (λ (l : List Column). AreSteps (λ rows. rows) (take (k + 1) cs) l) (sym c.in_ok-push.ensures.items)
    (same_more cs k column c.loop-column.executed.items x here is c.loop-column.invariant step)

pub struct_::StructArrayExecuteRows::execute-with_parts-requires : goal.struct_::StructArrayExecuteRows::execute-with_parts-requires
struct_::StructArrayExecuteRows::execute-with_parts-requires t c =
    let p = c.args.self.now in let h = c.validity.ensures.valid in
    let w = valid_of c.in_ok-validity.validity in let fields = c.in_ok-fields.fields in
    let q : StructParts = record p { columns = fields; len = c.len-len.result; valid = w } in
    let steps : AreSteps (λ rows. rows) p.columns fields = rw c.fields.ensures.value at c.in_ok-fields.ensures in
    let left : IsLeft p.valid (nullability_by p.valid) (present_bits p.valid p.len) w = rw (c.validity.ensures.value, c.len-len.ensures) at c.in_ok-validity.ensures.left in
    fault-struct p q h refl (types-steps _ p.columns fields steps)
    (rw c.len-len.ensures (long-same p.len p.columns fields (long-struct p h) steps))
    (rw c.len-len.ensures (fits_same p.valid w (nullability_by p.valid) p.len (fitting-struct p h) left))

pub struct_::StructArrayExecuteRows::execute-returns-clause-same : goal.struct_::StructArrayExecuteRows::execute-returns-clause-same
struct_::StructArrayExecuteRows::execute-returns-clause-same t c =
    let p = c.args.self.now in let h = c.validity.ensures.valid in
    let w = valid_of c.in_ok-validity.validity in let fields = c.in_ok-fields.fields in
    let q : StructParts = record p { columns = fields; len = c.len-len.result; valid = w } in
    let steps : AreSteps (λ rows. rows) p.columns fields = rw c.fields.ensures.value at c.in_ok-fields.ensures in
    let left : IsLeft p.valid (nullability_by p.valid) (present_bits p.valid p.len) w = rw (c.validity.ensures.value, c.len-len.ensures) at c.in_ok-validity.ensures.left in
    rw (c.into_array.ensures, c.with_parts.ensures) (is_same-struct p q h refl c.len-len.ensures steps left)

-- ---- unions

pub union_::UnionArrayExecuteRows::execute-with_parts-requires :
    goal.union_::UnionArrayExecuteRows::execute-with_parts-requires
union_::UnionArrayExecuteRows::execute-with_parts-requires t c =
    let p = c.args.self.now in let h = c.type_ids.ensures.valid in
    let a = c.in_ok-ids.ids in let cs = c.in_ok-columns.columns in
    let step : IsStep p.ids p.ids.rows p.ids.dtype a = subst (λ (x : Column). IsStep x x.rows x.dtype a) (c.deref.ensures ∙ c.type_ids.ensures.value) (rw c.in_ok-ids.ensures c.in_ok-execute.ensures.same) in
    let steps : AreSteps (λ rows. rows) p.columns cs = rw c.children.ensures.value at c.in_ok-columns.ensures in
    ap (λ (o : Option RecordParts). union_fault (record p { ids = a; offsets = o; columns = cs })) c.shared_offsets-offsets.ensures ∙ fault-union-same p h a step cs steps

pub union_::UnionArrayExecuteRows::execute-returns-clause-same :
    goal.union_::UnionArrayExecuteRows::execute-returns-clause-same
union_::UnionArrayExecuteRows::execute-returns-clause-same t c =
    let p = c.args.self.now in let h = c.type_ids.ensures.valid in
    let a = c.in_ok-ids.ids in let cs = c.in_ok-columns.columns in
    let step : IsStep p.ids p.ids.rows p.ids.dtype a = subst (λ (x : Column). IsStep x x.rows x.dtype a) (c.deref.ensures ∙ c.type_ids.ensures.value) (rw c.in_ok-ids.ensures c.in_ok-execute.ensures.same) in
    let steps : AreSteps (λ rows. rows) p.columns cs = rw c.children.ensures.value at c.in_ok-columns.ensures in
    let q : c.into_array.result ≡ union_column (record p { ids = a; columns = cs }) =
    c.into_array.ensures ∙ ap union_column (c.with_parts.ensures ∙ ap (λ (o : Option RecordParts). let u : UnionParts = record p { ids = a; offsets = o; columns = cs } in u) c.shared_offsets-offsets.ensures) in
    subst (λ (x : Column). IsStep (union_column p) (union_column p).rows (union_column p).dtype x) (sym q) (is_same-union p h a step cs steps)
