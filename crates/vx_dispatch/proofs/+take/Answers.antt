-- A take of a layout's parts, with that of its validity, is the take of its column.
use Rattle.std.proofs.Common.{arith, ◌≡◌, length, false, ap, ◌∙◌, refl, sym, subst, map, true}
use Rattle.vx_mask.specs.Mask.{mask_bits}
use Rattle.vx_types.specs.Nullability.{either_nullable}
use Rattle.std.specs.List.{items_where_true}
use Rattle.vx_types.specs.RowValue.{null}
use Rattle.vx_types.specs.TypeTree.{TypeTree, also_nullable}
use Rattle.vx_take.specs.Picks.{at, AreBelow, run_places}
use Rattle.vx_model.specs.Valid.{is_fitting, nullability_by, present_bits, Valid, non_nullable, all_valid, by_column, is_yes, is_non_null_bool}
use Rattle.vx_model.specs.Bool.{bool_column}
use Rattle.vx_model.proofs.Takes.{is_left-take-none, left_by_bits, left_the_same, all_there, yes-bool}
use Rattle.vx_column.specs.Validity.{valid_of}
use Rattle.vx_types.specs.declared.nullability.Nullability.{Nullability}
use Rattle.vx_model.proofs.StoredRows.{length-stored_rows}
use Rattle.vx_plain.specs.Stored.{parts_of}
use Rattle.std.specs.Prelude.{is_some}
use Rattle.vx_types.specs.declared.nullability.Nullability.TheVariants.{Nullable}
use Rattle.vx_column.specs.Layout.{column_of}
use Rattle.std.proofs.Common.{ap₂}
use Rattle.vx_model.specs.Dict.{dict_column, dict_with}
use Rattle.vx_model.specs.Filter.{filter_column}
use Rattle.vx_model.specs.Step.{IsCut, IsTake}
use Rattle.vx_model.specs.Column.{Column}
use Rattle.vx_model.specs.Numbers.{numbers_of}
use Rattle.vx_positions.specs.Positions.{positions_of}
use Rattle.vx_model.proofs.DictSteps.{bits-dict, dict_fault-take, is_take-dict}
use Rattle.vx_model.proofs.FilterSteps.{is_step-filter, is_take-filter}
use Rattle.vx_model.proofs.LazyRows.{int-dict, sound-dict}
use Rattle.vx_model.specs.Valid.{valid_size}
use Rattle.std.proofs.Common.{ℕ, []}
use Rattle.vx_lists.specs.Plans.{MakesLists}
use Rattle.vx_model.specs.List.{ListParts, list_of, list_spans}
use Rattle.vx_model.specs.ListView.{ListViewParts, listview_spans}
use Rattle.vx_model.specs.Lists.{kept_lists, lists_of}
use Rattle.vx_model.specs.Step.{IsStep}
use Rattle.vx_model.specs.Valid.{IsLeft}
use Rattle.vx_model.proofs.ListRows.{fit-list, fit-listview, rows-list, rows-listview}
use Rattle.std.proofs.Common.{List, Option}
use Rattle.vx_take.specs.Picks.{BoundedPicks, in_runs}
use Rattle.vx_positions.specs.Positions.{AllThere}
use Rattle.vx_pieces.proofs.PieceLists.{all_there-numbers}
use Rattle.vx_dispatch.proofs.RunTakes.{runs_step}
use Rattle.vx_dispatch.proofs.ListSteps.{left_taken, take_kept_step, take_step}
use Rattle.std.proofs.Common.{◌<◌, slice_range}
use Rattle.std.proofs.lemmas.Bool.Decides.{nat_tests}
use Rattle.std.specs.Prelude.{replicate}
use Rattle.vx_model.specs.Filler.{filler_row}
use Rattle.vx_model.specs.FixedSizeList.{FixedParts, fixed_of, fixed_spans}
use Rattle.vx_model.proofs.ListRows.{fit-fixed, rows-fixed, spans-fixed}
use Rattle.vx_model.specs.Columns.{AreSteps, are_long, columns_depth, firsts_for_nulls, types_in}
use Rattle.vx_model.specs.ListView.{listview_column}
use Rattle.vx_model.specs.Struct.{StructParts}
use Rattle.vx_model.proofs.Across.{long-take, there-firsts, types-steps}
use Rattle.vx_model.proofs.ExtensionSteps.{fault-extension, is_step-extension}
use Rattle.vx_model.proofs.MapSteps.{elements-step, fault-map, is_step-map}
use Rattle.vx_model.proofs.StructSteps.{fault-made, fault-struct, is_take-none, is_take-struct, long-struct, rows-struct}
use Rattle.vx_dispatch.proofs.EachColumn.{below-firsts, takes_more}
use Rattle.std.proofs.Common.{◌+◌, take, get_or}
use Rattle.std.proofs.lemmas.List.{length-map}
use Rattle.vx_types.specs.FieldTypes.{FieldTypes}
use Rattle.vx_types.specs.declared.nullability.Nullability.TheVariants.{NonNullable}
use Rattle.std.proofs.Common.{Option, Some, replicate}
use Rattle.vx_model.specs.Records.{RecordParts, records_with}
use Rattle.vx_model.specs.Union.{UnionParts, union_column, union_fault}
use Rattle.vx_types.specs.FieldTypes.{VariantTypes}
use Rattle.vx_model.proofs.UnionFaults.{fault-dense-take, fault-sparse-any, fault-sparse-take, is_take-dense, is_take-sparse, is_take-sparse-none, sparse-long}
use Rattle.vx_dispatch.specs.Union.{IsUnionTake}
use Rattle.vx_dispatch.proofs.Unions.{ids_taken, taken-dense, taken-sparse, types-variants}
use Rattle.vx_dispatch.proofs.+take.Goals as goal
use Rattle.vx_lemmas.proofs.Results.{if_ok}
use Rattle.vx_model.proofs.Steps.{fitting-take}

pub validity::take_validity-returns-in-AllInvalid-default-clause-left : goal.validity::take_validity-returns-in-AllInvalid-default-clause-left
validity::take_validity-returns-in-AllInvalid-default-clause-left t c =
    rw c.in-AllInvalid-default.is-0 (is_left-take-none c.args.nullability c.args.picks.now.bound c.args.picks.now.picks)

pub validity::take_validity-returns-in_ok-taken_bits-in-Array-default-clause-left : goal.validity::take_validity-returns-in_ok-taken_bits-in-Array-default-clause-left
validity::take_validity-returns-in_ok-taken_bits-in-Array-default-clause-left t c =
    let a = c.in-Array-default in let p = c.args.picks.now in let n = c.args.nullability in
    let is : valid_of c.args.validity.now ≡ by_column a.array = ap valid_of a.is-0 in
    let bits = c.in_ok-taken_bits-in-Array-default.field-0 in
    if_ok c.from_bits.result c.from_bits.ensures (λ v h. left_by_bits (valid_of c.args.validity.now) (valid_of v) n p.bound p.picks bits.bits bits.offset
    (ap (λ (v : Valid). either_nullable (nullability_by v) n) is)
    (c.in_ok-taken_bits-in-Array-default.ensures ∙ ap (λ x. at false (map is_yes x.rows) p.picks) c.deref.ensures ∙ ap (λ (v : Valid). at false (present_bits v p.bound) p.picks) (sym is))
    h)

pub validity::take_validity-returns-in-NonNullable-NonNullable-clause-left : goal.validity::take_validity-returns-in-NonNullable-NonNullable-clause-left
validity::take_validity-returns-in-NonNullable-NonNullable-clause-left t c =
    let a = c.in-NonNullable-NonNullable in let p = c.args.picks.now in let n = c.args.nullability in
    let is : valid_of c.args.validity.now ≡ non_nullable = ap valid_of a.is-0 in
    let below : AreBelow p.picks p.bound = subst (AreBelow p.picks) c.bound.ensures.value c.bound.ensures.below in
    rw is (left_the_same non_nullable non_nullable n p.bound p.picks refl (λ k. refl) (λ k. refl) (ap (either_nullable (nullability_by non_nullable)) a.is-1) below (c.requires.there a.is-1) refl)

pub validity::take_validity-returns-in-AllValid-NonNullable-clause-left : goal.validity::take_validity-returns-in-AllValid-NonNullable-clause-left
validity::take_validity-returns-in-AllValid-NonNullable-clause-left t c =
    let a = c.in-AllValid-NonNullable in let p = c.args.picks.now in let n = c.args.nullability in
    let is : valid_of c.args.validity.now ≡ all_valid = ap valid_of a.is-0 in
    let below : AreBelow p.picks p.bound = subst (AreBelow p.picks) c.bound.ensures.value c.bound.ensures.below in
    rw is (left_the_same all_valid all_valid n p.bound p.picks refl (λ k. refl) (λ k. refl) refl below (c.requires.there a.is-1) refl)

pub validity::take_validity-returns-in-NonNullable-Nullable-clause-left : goal.validity::take_validity-returns-in-NonNullable-Nullable-clause-left
validity::take_validity-returns-in-NonNullable-Nullable-clause-left t c =
    let a = c.in-NonNullable-Nullable in let p = c.args.picks.now in let n = c.args.nullability in
    let is : valid_of c.args.validity.now ≡ non_nullable = ap valid_of a.is-0 in
    let below : AreBelow p.picks p.bound = subst (AreBelow p.picks) c.bound.ensures.value c.bound.ensures.below in
    rw is (if_ok c.by_picks.result c.by_picks.ensures (λ v. left_by_bits non_nullable (valid_of v) n p.bound p.picks (map is_some p.picks) 0 (ap (either_nullable (nullability_by non_nullable)) a.is-1) (all_there p.bound p.picks below)))

pub validity::take_validity-returns-in-AllValid-Nullable-clause-left : goal.validity::take_validity-returns-in-AllValid-Nullable-clause-left
validity::take_validity-returns-in-AllValid-Nullable-clause-left t c =
    let a = c.in-AllValid-Nullable in let p = c.args.picks.now in let n = c.args.nullability in
    let is : valid_of c.args.validity.now ≡ all_valid = ap valid_of a.is-0 in
    let below : AreBelow p.picks p.bound = subst (AreBelow p.picks) c.bound.ensures.value c.bound.ensures.below in
    rw is (if_ok c.by_picks-in-AllValid-Nullable.result c.by_picks-in-AllValid-Nullable.ensures (λ v. left_by_bits all_valid (valid_of v) n p.bound p.picks (map is_some p.picks) 0 refl (all_there p.bound p.picks below)))

pub validity::taken_bits-returns-in-Bool : goal.validity::taken_bits-returns-in-Bool
validity::taken_bits-returns-in-Bool t c =
    let p = c.in-Bool.a in let picks = c.args.picks.now.picks in
    let same : bool_column p ≡ c.args.array.now = ap column_of (sym c.in-Bool.is) ∙ c.layout.ensures in
    let bools : is_non_null_bool (bool_column p).dtype ≡ true = ap (λ x. is_non_null_bool x.dtype) same ∙ c.requires.bools in
    let rows = ap (λ b. at false b picks) (ap (λ x. x.bits) c.bits.ensures.bits ∙ sym (yes-bool p bools) ∙ ap (λ x. map is_yes x.rows) same) in
    if_ok c.gather_bits.result c.gather_bits.ensures (λ b h. ap (λ b. b.bits) h ∙ rows)

pub dict::DictArrayTakeRows::take-recoded-requires : goal.dict::DictArrayTakeRows::take-recoded-requires
dict::DictArrayTakeRows::take-recoded-requires t c =
    let p = c.args.self.now in let codes = c.in_ok-codes.codes in let picks = c.args.picks.picks in let n = c.args.nulls in
    let taken : IsTake p.codes picks n codes = rw (c.deref.ensures ∙ c.codes.ensures.value) at c.in_ok-codes.ensures in
    dict_fault-take p codes picks n c.codes.ensures.valid taken

pub dict::DictArrayTakeRows::take-returns : goal.dict::DictArrayTakeRows::take-returns
dict::DictArrayTakeRows::take-returns t c =
    let p = c.args.self.now in let codes = c.in_ok-codes.codes in let picks = c.args.picks.picks in let n = c.args.nulls in
    let taken : IsTake p.codes picks n codes = rw (c.deref.ensures ∙ c.codes.ensures.value) at c.in_ok-codes.ensures in
    if_ok c.recoded.result c.recoded.ensures (λ a is. rw is (is_take-dict p codes picks n c.codes.ensures.valid taken))

-- the rows that the mask keeps are materialized
pub filter_layout::FilterArrayTakeRows::take-returns-then-is_materialized : goal.filter_layout::FilterArrayTakeRows::take-returns-then-is_materialized
filter_layout::FilterArrayTakeRows::take-returns-then-is_materialized t c =
    let p = c.args.self.now in let picks = c.args.picks.picks in let n = c.args.nulls in
    let child = c.deref-then-is_materialized.ensures ∙ c.child-child.ensures.value in
    let cut : IsCut p.child (items_where_true (mask_bits p.mask) p.child.rows) c.in_ok-kept.kept = rw (child, ap mask_bits c.mask-mask.ensures.value) at c.in_ok-kept.ensures.cut in
    if_ok c.take_picks.result c.take_picks.ensures (λ a taken. is_step-filter p _ _ a
    (taken.rows ∙ ap (λ r. at null r picks) cut.step.rows)
    (taken.dtype ∙ ap (λ d. also_nullable d n) cut.step.dtype)
    (taken.form ∙ cut.step.form))

pub filter_layout::FilterArrayTakeRows::take-returns : goal.filter_layout::FilterArrayTakeRows::take-returns
filter_layout::FilterArrayTakeRows::take-returns t c =
    let p = c.args.self.now in let picks = c.args.picks.picks in let n = c.args.nulls in
    let child = c.deref-2.ensures ∙ c.child-child.ensures.value in
    if_ok c.take_picks-2.result c.take_picks-2.ensures (λ a taken. is_take-filter p picks n a c.child-child.ensures.valid c.child_picks.ensures.below (rw (child, c.in_ok-positions.ensures.picks) at taken))

pub dict::DictArrayTakeBits::bits-number_picks-requires-clause-int : goal.dict::DictArrayTakeBits::bits-number_picks-requires-clause-int
dict::DictArrayTakeBits::bits-number_picks-requires-clause-int t c =
    let p = c.args.self.now in let codes = c.in_ok-codes.codes in let picks = c.in_ok-copy.copy.picks in
    let taken : IsTake p.codes picks Nullable codes = rw (c.deref.ensures ∙ c.codes.ensures.value) at c.in_ok-codes.ensures in
    int-dict (dict_with p codes) (dict_fault-take p codes picks Nullable c.codes.ensures.valid taken)

pub dict::DictArrayTakeBits::bits-number_picks-requires-clause-sound : goal.dict::DictArrayTakeBits::bits-number_picks-requires-clause-sound
dict::DictArrayTakeBits::bits-number_picks-requires-clause-sound t c =
    let p = c.args.self.now in let codes = c.in_ok-codes.codes in let picks = c.in_ok-copy.copy.picks in
    let taken : IsTake p.codes picks Nullable codes = rw (c.deref.ensures ∙ c.codes.ensures.value) at c.in_ok-codes.ensures in
    rw (c.len.ensures ∙ ap (λ (x : Column). length x.rows) (c.deref-2.ensures ∙ c.values-values.ensures.value))
    (sound-dict (dict_with p codes) (dict_fault-take p codes picks Nullable c.codes.ensures.valid taken))

pub dict::DictArrayTakeBits::bits-returns : goal.dict::DictArrayTakeBits::bits-returns
dict::DictArrayTakeBits::bits-returns t c =
    let p = c.args.self.now in let codes = c.in_ok-codes.codes in let picks = c.in_ok-copy.copy.picks in
    let taken : IsTake p.codes picks Nullable codes = rw (c.deref.ensures ∙ c.codes.ensures.value) at c.in_ok-codes.ensures in
    let named : c.in_ok-named.named.picks ≡ positions_of (numbers_of codes) = ap (λ x. x.picks) c.in_ok-named.ensures.picks in
    let rows = ap₂ (λ (x : Column) l. at false (map is_yes x.rows) l) (c.deref-3.ensures ∙ c.values-values.ensures.value) named in
    let same = ap (λ x. at false (map is_yes (dict_column p).rows) x.picks) c.in_ok-copy.ensures in
    if_ok c.taken_bits.result c.taken_bits.ensures (λ b h. h ∙ rows ∙ bits-dict p codes picks Nullable taken ∙ same)

-- the rows that the mask keeps are materialized
pub filter_layout::FilterArrayTakeBits::bits-returns : goal.filter_layout::FilterArrayTakeBits::bits-returns
filter_layout::FilterArrayTakeBits::bits-returns t c =
    let p = c.args.self.now in let picks = c.args.picks.now.picks in
    let kept : c.in_ok-kept.kept.rows ≡ (filter_column p).rows =
    rw (c.deref.ensures ∙ c.child.ensures.value, ap mask_bits c.mask.ensures.value) at c.in_ok-kept.ensures.cut.step.rows in
    if_ok c.taken_bits.result c.taken_bits.ensures (λ b h. h ∙ ap (λ r. at false (map is_yes r) picks) kept)

pub stored::StoredTakeRows::take-take_validity-requires : goal.stored::StoredTakeRows::take-take_validity-requires
stored::StoredTakeRows::take-take_validity-requires t c =
    let p = parts_of c.args.self.now in let v = c.validity.ensures in
    let long = c.requires.bound ∙ length-stored_rows p.valid p.items v.fitting in
    let fits : is_fitting (valid_of c.validity.result.now) c.args.picks.bound ≡ true = rw (v.value, long) v.fitting in
    (omega (arith, ap valid_size v.value), (fits, c.requires.there))

pub stored::StoredTakeRows::take-take_stored-requires-clause-bound : goal.stored::StoredTakeRows::take-take_stored-requires-clause-bound
stored::StoredTakeRows::take-take_stored-requires-clause-bound t c =
    let p = parts_of c.args.self.now in c.requires.bound ∙ length-stored_rows p.valid p.items c.validity.ensures.fitting

pub stored::StoredTakeRows::take-take_stored-requires-clause-left : goal.stored::StoredTakeRows::take-take_stored-requires-clause-left
stored::StoredTakeRows::take-take_stored-requires-clause-left t c =
    let p = parts_of c.args.self.now in let v = c.validity.ensures in
    let long = c.requires.bound ∙ length-stored_rows p.valid p.items v.fitting in
    let left = c.in_ok-validity.ensures.left in
    rw (left.nullability) (rw (← long, ← v.value) left)

pub stored::StoredTakeRows::take-returns : goal.stored::StoredTakeRows::take-returns
stored::StoredTakeRows::take-returns t c =
    let p = parts_of c.args.self.now in let v = c.validity.ensures in
    let same = c.in_ok-validity.ensures.left.nullability ∙ ap (λ (x : Valid). either_nullable (nullability_by x) c.args.nulls) v.value in
    if_ok c.take_stored.result c.take_stored.ensures (λ a step. record {
      rows = step.rows;
      dtype = step.dtype ∙ ap (λ (n : Nullability). let u : TypeTree = record { kind = p.kind; nullability = n } in u) same;
      layout = step.layout;
      unwrapped = step.unwrapped;
      direct = step.direct;
      form = step.form;
    })

-- ---- lists

pub list::take_lists-plan_list_take-requires : goal.list::take_lists-plan_list_take-requires
list::take_lists-plan_list_take-requires t c =
    let p = c.args.array.now in let h = c.validity.ensures.valid in let picks = c.args.picks.picks in
    let w = valid_of c.in_ok-validity.validity in let n = either_nullable (nullability_by p.valid) c.args.nullability in
    let m = length (list_spans p).spans in let bound = c.requires.bound ∙ rows-list p h in
    let left : IsLeft p.valid n (at false (present_bits p.valid m) picks) w = rw (c.validity.ensures.value, bound) at c.in_ok-validity.ensures.left in
    record { bound = omega (arith, bound); fitting = fitting-take p.valid w n m picks left }

pub list::take_lists-returns-clause-taken : goal.list::take_lists-returns-clause-taken
list::take_lists-returns-clause-taken t c =
    let p = c.args.array.now in let h = c.validity.ensures.valid in let picks = c.args.picks.picks in
    let w = valid_of c.in_ok-validity.validity in let plan = c.in_ok-plan.plan in let x = c.in_ok-elements.elements in
    let n = either_nullable (nullability_by p.valid) c.args.nullability in
    let q : ListParts = record { elements = x; offsets = plan.offsets; valid = w } in
    let left = left_taken picks c.args.nullability c.validity.ensures.value (c.requires.bound ∙ rows-list p h) c.in_ok-validity.ensures.left in
    let same = c.in_ok-plan.ensures.valid in
    let taken : IsStep p.elements (in_runs p.elements.rows plan.runs) p.elements.dtype x = rw (c.deref.ensures ∙ c.elements.ensures.value) at c.in_ok-elements.ensures in
    let makes : MakesLists plan.offsets w (in_runs p.elements.rows plan.runs) (kept_lists (present_bits w (length picks)) (at [] (lists_of (list_spans p)) picks)) = c.in_ok-plan.ensures.lists.makes in
    if_ok c.relisted.result c.relisted.ensures (λ a is. rw (is, same)
    (take_kept_step (list_spans p) (list_spans q) refl refl (ap list_of taken.dtype) (fit-list p h) picks n (makes x taken.rows).1 left))

pub list::take_lists-returns-clause-offsets : goal.list::take_lists-returns-clause-offsets
list::take_lists-returns-clause-offsets t c =
    if_ok c.relisted.result c.relisted.ensures (λ a is. ap (λ (l : ListParts). l.offsets.kind) is ∙ c.in_ok-plan.ensures.kind)

pub listview::take_views-plan_view_take-requires : goal.listview::take_views-plan_view_take-requires
listview::take_views-plan_view_take-requires t c =
    let p = c.args.array.now in let h = c.validity.ensures.valid in let picks = c.args.picks.now.picks in
    let w = valid_of c.in_ok-validity.validity in let n = either_nullable (nullability_by p.valid) c.args.nullability in
    let m = length (listview_spans p).spans in let bound = c.requires.bound ∙ rows-listview p h in
    let left : IsLeft p.valid n (at false (present_bits p.valid m) picks) w = rw (c.validity.ensures.value, bound) at c.in_ok-validity.ensures.left in
    record { bound = omega (arith, bound); fitting = fitting-take p.valid w n m picks left }

pub listview::take_views-returns : goal.listview::take_views-returns
listview::take_views-returns t c =
    let p = c.args.array.now in let h = c.validity.ensures.valid in let picks = c.args.picks.now.picks in
    let w = valid_of c.in_ok-validity.validity in let plan = c.in_ok-plan.plan in
    let n = either_nullable (nullability_by p.valid) c.args.nullability in
    let q : ListViewParts = record { elements = p.elements; offsets = plan.offsets; sizes = plan.sizes; valid = w } in
    let left = left_taken picks c.args.nullability c.validity.ensures.value (c.requires.bound ∙ rows-listview p h) c.in_ok-validity.ensures.left in
    rw (c.relisted.ensures, c.in_ok-plan.ensures.valid)
    (take_step (listview_spans p) (listview_spans q) refl refl refl (fit-listview p h) [] picks n c.in_ok-plan.ensures.lists.1 left)

-- ---- runs

pub runs::take_runs-take_picks-requires : goal.runs::take_runs-take_picks-requires
runs::take_runs-take_picks-requires t c =
    let made = c.in_ok-picks-in-None.ensures in (
      omega arith,
      (ap (λ (p : BoundedPicks). p.bound) made ∙ c.len.ensures, λ _. subst (λ (ps : List (Option ℕ)). AllThere ps) (sym (ap (λ (p : BoundedPicks). p.picks) made)) (all_there-numbers (run_places c.args.runs))),
    )

pub runs::take_runs-returns-in-Some : goal.runs::take_runs-returns-in-Some
runs::take_runs-returns-in-Some t c =
    runs_step c.args.array.now c.args.runs c.in-Some.taken c.requires (rw c.in-Some.is at c.in_ok-taken.ensures)

pub runs::take_runs-returns-in_ok-picks-in-None : goal.runs::take_runs-returns-in_ok-picks-in-None
runs::take_runs-returns-in_ok-picks-in-None t c =
    let made = ap (λ (p : BoundedPicks). p.picks) c.in_ok-picks-in-None.ensures in
    if_ok c.take_picks.result c.take_picks.ensures (λ a take. runs_step c.args.array.now c.args.runs a c.requires (rw made at take))

-- ---- lists of one size

pub fixed_size_list::FixedSizeListArrayTakeRows::take-plan_fixed_take-requires : goal.fixed_size_list::FixedSizeListArrayTakeRows::take-plan_fixed_take-requires
fixed_size_list::FixedSizeListArrayTakeRows::take-plan_fixed_take-requires t c =
    let p = c.args.self.now in let h = c.validity.ensures.valid in let picks = c.args.picks.picks in
    let w = valid_of c.in_ok-validity.validity in let n = either_nullable (nullability_by p.valid) c.args.nulls in
    let m = length (fixed_spans p).spans in let bound = c.requires.bound ∙ rows-fixed p h in
    let left : IsLeft p.valid n (at false (present_bits p.valid m) picks) w = rw (c.validity.ensures.value, bound) at c.in_ok-validity.ensures.left in
    record { bound = omega (arith, bound, spans-fixed p); fitting = fitting-take p.valid w n m picks left }

pub fixed_size_list::FixedSizeListArrayTakeRows::take-returns-then-len-eq0 : goal.fixed_size_list::FixedSizeListArrayTakeRows::take-returns-then-len-eq0
fixed_size_list::FixedSizeListArrayTakeRows::take-returns-then-len-eq0 t c =
    let p = c.args.self.now in let h = c.validity.ensures.valid in let picks = c.args.picks.picks in
    let w = valid_of c.in_ok-validity.validity in let plan = c.in_ok-validity-2.field-0 in let x = c.in_ok-elements.elements in
    let n = either_nullable (nullability_by p.valid) c.args.nulls in let fill = filler_row p.elements.dtype in
    let q : FixedParts = record { elements = x; size = p.size; len = length picks; valid = w } in
    let left = left_taken picks c.args.nulls c.validity.ensures.value (c.requires.bound ∙ rows-fixed p h) c.in_ok-validity.ensures.left in
    let none : p.len ≡ 0 = grind (arith, nat_tests, c.len.ensures.value, c.if-len-eq0.true) in
    let typed = c.dtype.ensures.value ∙ ap (λ (k : Column). k.dtype) (c.deref.ensures ∙ c.elements.ensures.value) in
    let rows = c.in_ok-elements.ensures.rows ∙ ap (λ (k : TypeTree). replicate plan.filler (filler_row k)) typed in
    let makes = c.in_ok-validity-2.ensures.fillers none fill in
    if_ok c.relisted.result c.relisted.ensures (λ a is. rw (is, c.in_ok-validity-2.ensures.valid, c.len-len.ensures)
    (take_step (fixed_spans p) (fixed_spans q) refl refl (ap (λ k. fixed_of k p.size) (c.in_ok-elements.ensures.dtype ∙ typed)) (fit-fixed p h) (replicate p.size fill) picks n (makes x rows).1 left))

pub fixed_size_list::FixedSizeListArrayTakeRows::take-returns : goal.fixed_size_list::FixedSizeListArrayTakeRows::take-returns
fixed_size_list::FixedSizeListArrayTakeRows::take-returns t c =
    let p = c.args.self.now in let h = c.validity.ensures.valid in let picks = c.args.picks.picks in
    let w = valid_of c.in_ok-validity.validity in let plan = c.in_ok-validity-2.field-0 in let x = c.in_ok-elements-2.elements in
    let n = either_nullable (nullability_by p.valid) c.args.nulls in
    let q : FixedParts = record { elements = x; size = p.size; len = length picks; valid = w } in
    let left = left_taken picks c.args.nulls c.validity.ensures.value (c.requires.bound ∙ rows-fixed p h) c.in_ok-validity.ensures.left in
    let some : 0 < p.len = grind (arith, nat_tests, c.len.ensures.value, c.if-len-eq0.false) in
    let taken : IsStep p.elements (in_runs p.elements.rows plan.runs) p.elements.dtype x = rw (c.deref-2.ensures ∙ c.elements-2.ensures.value) at c.in_ok-elements-2.ensures in
    let makes = c.in_ok-validity-2.ensures.lists some in
    if_ok c.relisted-2.result c.relisted-2.ensures (λ a is. rw (is, c.in_ok-validity-2.ensures.valid, c.len-len.ensures)
    (take_step (fixed_spans p) (fixed_spans q) refl refl (ap (λ k. fixed_of k p.size) taken.dtype) (fit-fixed p h) (slice_range p.elements.rows 0 p.size) picks n (makes x taken.rows).1 left))

-- ---- extensions and maps

pub extension::ExtensionArrayTakeRows::take-restored-requires : goal.extension::ExtensionArrayTakeRows::take-restored-requires
extension::ExtensionArrayTakeRows::take-restored-requires t c =
    let p = c.args.self.now in let x = c.in_ok-storage.storage in let picks = c.args.picks.picks in let n = c.args.nulls in
    let taken : IsTake p.storage picks n x = rw (c.deref.ensures ∙ c.storage.ensures.value) at c.in_ok-storage.ensures in
    fault-extension p x c.storage.ensures.valid (ap (λ (t : TypeTree). t.kind) taken.dtype)

pub extension::ExtensionArrayTakeRows::take-returns : goal.extension::ExtensionArrayTakeRows::take-returns
extension::ExtensionArrayTakeRows::take-returns t c =
    let p = c.args.self.now in let x = c.in_ok-storage.storage in let picks = c.args.picks.picks in let n = c.args.nulls in
    let taken : IsTake p.storage picks n x = rw (c.deref.ensures ∙ c.storage.ensures.value) at c.in_ok-storage.ensures in
    if_ok c.restored.result c.restored.ensures (λ a is. rw is (is_step-extension p x _ (also_nullable p.storage.dtype n) taken))

pub map::MapArrayTakeRows::take-of_entries-requires : goal.map::MapArrayTakeRows::take-of_entries-requires
map::MapArrayTakeRows::take-of_entries-requires t c =
    let p = c.args.self.now in let q = c.in_ok-entries.entries in let picks = c.args.picks.picks in let n = c.args.nulls in
    let taken : IsTake (listview_column p) picks n (listview_column q) = rw c.entries.ensures.value at c.in_ok-entries.ensures in
    fault-map p q c.entries.ensures.valid (elements-step p q _ (either_nullable (nullability_by p.valid) n) taken)

pub map::MapArrayTakeRows::take-returns : goal.map::MapArrayTakeRows::take-returns
map::MapArrayTakeRows::take-returns t c =
    let p = c.args.self.now in let q = c.in_ok-entries.entries in let picks = c.args.picks.picks in let n = c.args.nulls in
    let taken : IsTake (listview_column p) picks n (listview_column q) = rw c.entries.ensures.value at c.in_ok-entries.ensures in
    rw c.of_entries.ensures (is_step-map p q _ (either_nullable (nullability_by p.valid) n) taken)

-- ---- structs

pub columns::take_each-loop-column-preserved : goal.columns::take_each-loop-column-preserved
columns::take_each-loop-column-preserved t c =
    let picks = c.args.picks.now.picks in let cs = c.args.columns.now in let k = c.loop-column.column-index in
    let column = c.column-item.result in let x = c.in_ok-into_ref.field-0 in
    let here : k < length cs = rw (← c.as_slice-column-items.ensures) c.loop-column-test.true in
    let is : column ≡ get_or cs k column = rw (← c.as_slice-column-items.ensures) c.column-item.is in
    let same : c.in_ok-copy.copy.picks ≡ picks = ap (λ (b : BoundedPicks). b.picks) c.in_ok-copy.ensures in
    let taken : IsTake column picks NonNullable x = rw (c.in_ok-into_ref.ensures, ← c.deref.ensures, ← same) c.in_ok-rows.ensures in
    subst (λ (l : List Column). AreSteps (λ rows. at null rows picks) (take (k + 1) cs) l) (sym c.in_ok-push.ensures.items)
    (takes_more picks cs k column c.loop-column.taken.items x here is c.loop-column.invariant taken)

pub struct_::StructArrayTakeRows::take-with_parts-requires : goal.struct_::StructArrayTakeRows::take-with_parts-requires
struct_::StructArrayTakeRows::take-with_parts-requires t c =
    let p = c.args.self.now in let h = c.validity.ensures.valid in let picks = c.args.picks.picks in
    let w = valid_of c.in_ok-validity.validity in let fields = c.in_ok-fields.fields in
    let n = either_nullable (nullability_by p.valid) c.args.nulls in
    let q : StructParts = record p { columns = fields; len = length picks; valid = w } in
    let left = left_taken picks c.args.nulls c.validity.ensures.value (c.requires.bound ∙ rows-struct p h) c.in_ok-validity.ensures.left in
    let types : types_in fields ≡ p.types.types = c.in_ok-fields.ensures.types ∙ c.types-types.ensures.value ∙ ap (λ (f : FieldTypes). f.types) (c.deref.ensures ∙ c.struct_fields.ensures.value) in
    rw c.len-len.ensures
    (fault-made q types (rw c.len-len.ensures at c.in_ok-fields.ensures.long) (fitting-take p.valid w n p.len picks left))

pub struct_::StructArrayTakeRows::take-returns-then-bound-eq0 : goal.struct_::StructArrayTakeRows::take-returns-then-bound-eq0
struct_::StructArrayTakeRows::take-returns-then-bound-eq0 t c =
    let p = c.args.self.now in let h = c.validity.ensures.valid in let picks = c.args.picks.picks in
    let w = valid_of c.in_ok-validity.validity in let fields = c.in_ok-fields.fields in
    let q : StructParts = record p { columns = fields; len = length picks; valid = w } in
    let rows : c.args.picks.bound ≡ p.len = c.requires.bound ∙ rows-struct p h in
    let left = left_taken picks c.args.nulls c.validity.ensures.value rows c.in_ok-validity.ensures.left in
    let none : p.len ≡ 0 = grind (arith, nat_tests, rows, c.bound.ensures.value, c.if-bound-eq0.true) in
    let below : AreBelow picks p.len = subst (AreBelow picks) (c.bound.ensures.value ∙ rows) c.bound.ensures.below in
    rw (c.into_array.ensures, c.with_parts.ensures, c.len-len.ensures)
    (is_take-none p q h refl _ picks _ none below (rw c.len-len.ensures at c.in_ok-fields.ensures.rows) left)

pub struct_::StructArrayTakeRows::take-take_each-requires : goal.struct_::StructArrayTakeRows::take-take_each-requires
struct_::StructArrayTakeRows::take-take_each-requires t c =
    let p = c.args.self.now in let h = c.validity.ensures.valid in
    let firsts = c.in_ok-firsts.ensures in
    let long : are_long c.in_ok-firsts.firsts.bound c.fields.result.now ≡ true =
    rw (ap (λ (b : BoundedPicks). b.bound) firsts ∙ c.requires.bound ∙ rows-struct p h, c.fields.ensures.value) (long-struct p h) in
    let there : AllThere c.in_ok-firsts.firsts.picks = rw (ap (λ (b : BoundedPicks). b.picks) firsts) (there-firsts c.args.picks.picks) in (
      omega (arith, ap columns_depth c.fields.ensures.value),
      (long, there),
    )

pub struct_::StructArrayTakeRows::take-with_parts-requires-2 : goal.struct_::StructArrayTakeRows::take-with_parts-requires-2
struct_::StructArrayTakeRows::take-with_parts-requires-2 t c =
    let p = c.args.self.now in let h = c.validity.ensures.valid in let picks = c.args.picks.picks in
    let w = valid_of c.in_ok-validity.validity in let fields = c.in_ok-fields-2.fields in
    let n = either_nullable (nullability_by p.valid) c.args.nulls in
    let q : StructParts = record p { columns = fields; len = length picks; valid = w } in
    let left = left_taken picks c.args.nulls c.validity.ensures.value (c.requires.bound ∙ rows-struct p h) c.in_ok-validity.ensures.left in
    let steps : AreSteps (λ rows. at null rows (firsts_for_nulls picks)) p.columns fields =
    rw (ap (λ (b : BoundedPicks). b.picks) c.in_ok-firsts.ensures, c.fields.ensures.value) at c.in_ok-fields-2.ensures in
    let many : length (firsts_for_nulls picks) ≡ length picks = length-map picks _ in
    rw c.len-len.ensures
    (fault-struct p q h refl (types-steps _ p.columns fields steps)
    (rw many at (long-take p.len p.columns fields (long-struct p h) (firsts_for_nulls picks) steps))
    (fitting-take p.valid w n p.len picks left))

pub struct_::StructArrayTakeRows::take-returns : goal.struct_::StructArrayTakeRows::take-returns
struct_::StructArrayTakeRows::take-returns t c =
    let p = c.args.self.now in let h = c.validity.ensures.valid in let picks = c.args.picks.picks in
    let w = valid_of c.in_ok-validity.validity in let fields = c.in_ok-fields-2.fields in
    let q : StructParts = record p { columns = fields; len = length picks; valid = w } in
    let rows : c.args.picks.bound ≡ p.len = c.requires.bound ∙ rows-struct p h in
    let left = left_taken picks c.args.nulls c.validity.ensures.value rows c.in_ok-validity.ensures.left in
    let some : 0 < p.len = grind (arith, nat_tests, rows, c.bound.ensures.value, c.if-bound-eq0.false) in
    let below : AreBelow picks p.len = subst (AreBelow picks) (c.bound.ensures.value ∙ rows) c.bound.ensures.below in
    let steps : AreSteps (λ rows. at null rows (firsts_for_nulls picks)) p.columns fields =
    rw (ap (λ (b : BoundedPicks). b.picks) c.in_ok-firsts.ensures, c.fields.ensures.value) at c.in_ok-fields-2.ensures in
    rw (c.into_array-2.ensures, c.with_parts-2.ensures, c.len-len.ensures)
    (is_take-struct p q h refl picks _ below (below-firsts picks p.len some below) refl steps left)

-- ---- unions

pub union_::take_variants-with_parts-requires :
    goal.union_::take_variants-with_parts-requires
union_::take_variants-with_parts-requires t c =
    let p = c.args.array.now in let h = c.type_ids.ensures.valid in let picks = c.args.picks.now.picks in let n = c.args.nullability in
    let a = c.in_ok-ids.ids in let o = c.in-Some.offsets.now in
    let some : p.offsets ≡ Some o = sym c.in-Some.ensures.value in
    let step = ids_taken n (c.deref.ensures ∙ c.type_ids.ensures.value) c.in_ok-copy.ensures c.in_ok-ids.ensures c.in_ok-taken.ensures in
    ap₂ (λ (r : RecordParts) (cs : List Column). union_fault (record p { ids = a; offsets = Some r; columns = cs })) c.in_ok-places-in-Some.ensures (c.share-columns.ensures ∙ c.children.ensures.value)
    ∙ fault-dense-take p o h some a (replicate o.width 0) picks n step

pub union_::take_variants-returns-in_ok-places-in-Some-clause-taken :
    goal.union_::take_variants-returns-in_ok-places-in-Some-clause-taken
union_::take_variants-returns-in_ok-places-in-Some-clause-taken t c =
    let p = c.args.array.now in let h = c.type_ids.ensures.valid in let picks = c.args.picks.now.picks in let n = c.args.nullability in
    let a = c.in_ok-ids.ids in let o = c.in-Some.offsets.now in
    let some : p.offsets ≡ Some o = sym c.in-Some.ensures.value in
    let step = ids_taken n (c.deref.ensures ∙ c.type_ids.ensures.value) c.in_ok-copy.ensures c.in_ok-ids.ensures c.in_ok-taken.ensures in
    let q : c.with_parts.result ≡ record p { ids = a; offsets = Some (records_with o (at (replicate o.width 0) o.records picks) non_nullable) } =
    c.with_parts.ensures
    ∙ ap₂ (λ (r : RecordParts) (cs : List Column). let u : UnionParts = record p { ids = a; offsets = Some r; columns = cs } in u) c.in_ok-places-in-Some.ensures (c.share-columns.ensures ∙ c.children.ensures.value) in
    subst (λ (u : UnionParts). IsTake (union_column p) picks n (union_column u)) (sym q) (is_take-dense p o h some a (replicate o.width 0) picks n step)

pub union_::take_variants-returns-in_ok-places-in-Some-clause-parts :
    goal.union_::take_variants-returns-in_ok-places-in-Some-clause-parts
union_::take_variants-returns-in_ok-places-in-Some-clause-parts t c =
    let p = c.args.array.now in let picks = c.args.picks.now.picks in let n = c.args.nullability in
    let a = c.in_ok-ids.ids in let o = c.in-Some.offsets.now in
    let some : p.offsets ≡ Some o = sym c.in-Some.ensures.value in
    let step = ids_taken n (c.deref.ensures ∙ c.type_ids.ensures.value) c.in_ok-copy.ensures c.in_ok-ids.ensures c.in_ok-taken.ensures in
    let q : c.with_parts.result ≡ record p { ids = a; offsets = Some (records_with o (at (replicate o.width 0) o.records picks) non_nullable) } =
    c.with_parts.ensures
    ∙ ap₂ (λ (r : RecordParts) (cs : List Column). let u : UnionParts = record p { ids = a; offsets = Some r; columns = cs } in u) c.in_ok-places-in-Some.ensures (c.share-columns.ensures ∙ c.children.ensures.value) in
    subst (IsUnionTake p picks n) (sym q) (taken-dense p picks n a step o some)

pub union_::take_sparse-with_parts-requires :
    goal.union_::take_sparse-with_parts-requires
union_::take_sparse-with_parts-requires t c =
    let p = c.args.array.now in let h = c.variants.ensures.valid in let picks = c.args.picks.now.picks in let n = c.args.nullability in
    let cs = c.in_ok-columns.columns in
    let types : types_in cs ≡ p.variants.types = c.in_ok-columns.ensures.types ∙ c.types-types.ensures.value ∙ ap (λ (v : VariantTypes). v.types) (c.deref.ensures ∙ c.variants.ensures.value) in
    fault-sparse-any p h c.requires.sparse c.args.ids cs picks n c.requires.ids (types ∙ types-variants p h) (rw c.len.ensures at c.in_ok-columns.ensures.long)

pub union_::take_sparse-returns-then-bound-eq0-clause-taken :
    goal.union_::take_sparse-returns-then-bound-eq0-clause-taken
union_::take_sparse-returns-then-bound-eq0-clause-taken t c =
    let p = c.args.array.now in let h = c.variants.ensures.valid in let picks = c.args.picks.now.picks in let n = c.args.nullability in
    let none : length p.ids.rows ≡ 0 = grind (arith, nat_tests, c.requires.bound, c.bound.ensures.value, c.if-bound-eq0.true) in
    let below : AreBelow picks (length p.ids.rows) = subst (AreBelow picks) (c.bound.ensures.value ∙ c.requires.bound) c.bound.ensures.below in
    rw c.with_parts.ensures
    (is_take-sparse-none p h c.requires.sparse c.args.ids c.in_ok-columns.columns _ picks n none below c.requires.ids (rw c.len.ensures at c.in_ok-columns.ensures.rows))

pub union_::take_sparse-returns-then-bound-eq0-clause-parts :
    goal.union_::take_sparse-returns-then-bound-eq0-clause-parts
union_::take_sparse-returns-then-bound-eq0-clause-parts t c =
    let p = c.args.array.now in let picks = c.args.picks.now.picks in let n = c.args.nullability in
    let none : length p.ids.rows ≡ 0 = grind (arith, nat_tests, c.requires.bound, c.bound.ensures.value, c.if-bound-eq0.true) in
    rw c.with_parts.ensures
    (taken-sparse p picks n c.args.ids c.requires.ids c.in_ok-columns.columns c.requires.sparse (λ some. absurd (omega (arith, some, none))))

pub union_::take_sparse-take_each-requires :
    goal.union_::take_sparse-take_each-requires
union_::take_sparse-take_each-requires t c =
    let p = c.args.array.now in let h = c.children.ensures.valid in
    let firsts = c.in_ok-firsts.ensures in
    let long : are_long c.in_ok-firsts.firsts.bound c.children.result.now ≡ true =
    rw (ap (λ (b : BoundedPicks). b.bound) firsts ∙ c.requires.bound, c.children.ensures.value) (sparse-long p h c.requires.sparse) in
    let there : AllThere c.in_ok-firsts.firsts.picks = rw (ap (λ (b : BoundedPicks). b.picks) firsts) (there-firsts c.args.picks.now.picks) in (
      omega (arith, ap columns_depth c.children.ensures.value),
      (long, there),
    )

pub union_::take_sparse-with_parts-requires-2 :
    goal.union_::take_sparse-with_parts-requires-2
union_::take_sparse-with_parts-requires-2 t c =
    let p = c.args.array.now in let h = c.children.ensures.valid in let picks = c.args.picks.now.picks in let n = c.args.nullability in
    let cs = c.in_ok-columns-2.columns in
    let steps : AreSteps (λ rows. at null rows (firsts_for_nulls picks)) p.columns cs =
    rw (ap (λ (b : BoundedPicks). b.picks) c.in_ok-firsts.ensures, c.children.ensures.value) at c.in_ok-columns-2.ensures in
    fault-sparse-take p h c.requires.sparse c.args.ids cs picks n c.requires.ids steps

pub union_::take_sparse-returns-clause-taken :
    goal.union_::take_sparse-returns-clause-taken
union_::take_sparse-returns-clause-taken t c =
    let p = c.args.array.now in let h = c.children.ensures.valid in let picks = c.args.picks.now.picks in let n = c.args.nullability in
    let cs = c.in_ok-columns-2.columns in
    let some : 0 < length p.ids.rows = grind (arith, nat_tests, c.requires.bound, c.bound.ensures.value, c.if-bound-eq0.false) in
    let below : AreBelow picks (length p.ids.rows) = subst (AreBelow picks) (c.bound.ensures.value ∙ c.requires.bound) c.bound.ensures.below in
    let steps : AreSteps (λ rows. at null rows (firsts_for_nulls picks)) p.columns cs =
    rw (ap (λ (b : BoundedPicks). b.picks) c.in_ok-firsts.ensures, c.children.ensures.value) at c.in_ok-columns-2.ensures in
    rw c.with_parts-2.ensures
    (is_take-sparse p h c.requires.sparse c.args.ids cs picks n below (below-firsts picks (length p.ids.rows) some below) c.requires.ids steps)

pub union_::take_sparse-returns-clause-parts :
    goal.union_::take_sparse-returns-clause-parts
union_::take_sparse-returns-clause-parts t c =
    let p = c.args.array.now in let picks = c.args.picks.now.picks in let n = c.args.nullability in
    let cs = c.in_ok-columns-2.columns in
    let steps : AreSteps (λ rows. at null rows (firsts_for_nulls picks)) p.columns cs =
    rw (ap (λ (b : BoundedPicks). b.picks) c.in_ok-firsts.ensures, c.children.ensures.value) at c.in_ok-columns-2.ensures in
    rw c.with_parts-2.ensures (taken-sparse p picks n c.args.ids c.requires.ids cs c.requires.sparse (λ _. steps))
