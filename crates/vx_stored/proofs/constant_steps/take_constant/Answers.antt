-- One value at picks: a null, a value where no pick is null, and a value beside nulls.
use Rattle.std.proofs.Common.{◌≡◌, ℕ, true, map, refl, sym, ap, ap₂, ◌∙◌, subst}
use Rattle.std.specs.Prelude.{is_some, replicate, Result, Ok, Err, IfOk}
use Rattle.std.proofs.lemmas.List.{length-map}
use Rattle.vx_types.specs.Nullability.{is_nullable}
use Rattle.vx_types.specs.RowValue.{RowValue, null, is_null}
use Rattle.vx_types.specs.Scalar.{TypedRow}
use Rattle.vx_types.specs.TypeTree.{also_nullable, with_nullability}
use Rattle.vx_types.specs.declared.nullability.Nullability.TheVariants.{Nullable}
use Rattle.vx_take.specs.Picks.{AreBelow}
use Rattle.vx_model.specs.Constant.{constant_column}
use Rattle.vx_model.specs.Valid.{non_nullable, nullability_by, present_bits, shown_rows}
use Rattle.vx_model.proofs.LazyRows.{length-constant}
use Rattle.vx_model.proofs.ConstantSteps.{is_take-constant}
use Rattle.vx_model.proofs.Takes.{is_left-bits_column}
use Rattle.vx_model.proofs.Nullabilities.{also_nullable-own, also_nullable-nullable}
use Rattle.vx_model.proofs.ConstantRows.{null_is, is_take-null_constant, is_take-stored_constant}
use Rattle.std.proofs.lemmas.Result.{IfOk-at_ok}
use Rattle.vx_stored.proofs.constant_steps.take_constant.Goals as goal

if_ok : {T E : Type 0} (r : Result T E) (P : T → Type 0) → ((x : T) → r ≡ Ok x → P x) → IfOk r P
if_ok (Ok x) P h = h x refl
if_ok (Err e) P h = tt

pub returns-then-is_null : goal.returns-then-is_null
returns-then-is_null c =
    let p = c.args.array.now in let picks = c.args.picks.now.picks in let same = c.scalar-scalar.ensures in
    let is : p.scalar.row ≡ null = null_is p.scalar.row (ap (λ (s : TypedRow). is_null s.row) (sym same) ∙ sym c.is_null.ensures.value ∙ c.if-is_null.true) in
    let nullable : is_nullable p.scalar.dtype.nullability ≡ true = rw same at (c.is_null.ensures.nullable c.if-is_null.true) in
    rw (c.into_array.ensures ∙ ap constant_column (c.new.ensures ∙ ap₂ (λ (x : TypedRow) (n : ℕ). record { scalar = x; len = n }) (c.share.ensures ∙ same) c.len-len.ensures))
    (is_take-null_constant p picks c.args.nullability is (also_nullable-own p.scalar.dtype c.args.nullability nullable))

pub store_scalar-requires-clause-fitting : goal.store_scalar-requires-clause-fitting
store_scalar-requires-clause-fitting c =
    let picks = c.args.picks.now.picks in
    let left = is_left-bits_column non_nullable (map is_some picks) 0 Nullable refl in
    rw (c.in_ok-validity-in-Nullable.ensures, c.len-len.ensures ∙ sym (length-map picks is_some)) left.fitting

pub returns-in-NonNullable : goal.returns-in-NonNullable
returns-in-NonNullable c =
    let p = c.args.array.now in let picks = c.args.picks.now.picks in let is = c.in-NonNullable.is in
    let below : AreBelow picks p.len = rw (← length-constant p, ← c.requires.bound) (subst (AreBelow picks) c.bound.ensures.value c.bound.ensures.below) in
    rw (c.into_array-in-NonNullable.ensures ∙ ap constant_column (c.new-in-NonNullable.ensures ∙ ap₂ (λ (x : TypedRow) (n : ℕ). record { scalar = x; len = n }) (c.share-in-NonNullable.ensures ∙ c.scalar-scalar.ensures) c.len-len.ensures), is)
    (is_take-constant p picks (c.requires.there is) below)

pub returns-in_ok-validity-in-Nullable : goal.returns-in_ok-validity-in-Nullable
returns-in_ok-validity-in-Nullable c =
    let p = c.args.array.now in let picks = c.args.picks.now.picks in let same = c.scalar-scalar.ensures in
    let validity = c.in_ok-validity-in-Nullable.ensures in
    let below : AreBelow picks p.len = rw (← length-constant p, ← c.requires.bound) (subst (AreBelow picks) c.bound.ensures.value c.bound.ensures.below) in
    let left = is_left-bits_column non_nullable (map is_some picks) 0 Nullable refl in
    let present = ap₂ present_bits validity (c.len-len.ensures ∙ sym (length-map picks is_some)) ∙ left.bits in
    let values = ap₂ (λ (n : ℕ) (x : RowValue). replicate n x) c.len-len.ensures (ap (λ (s : TypedRow). s.row) same) in
    let stored = c.store_scalar.ensures in
    if_ok _ _ (λ a e. is_take-stored_constant p picks c.args.nullability a below
    (IfOk-at_ok _ e stored.rows ∙ ap₂ shown_rows present values)
    (IfOk-at_ok _ e stored.dtype ∙ ap₂ with_nullability (ap (λ (s : TypedRow). s.dtype) same) (ap nullability_by validity)
    ∙ sym (also_nullable-nullable p.scalar.dtype) ∙ ap (also_nullable p.scalar.dtype) (sym c.in-Nullable.is))
    (IfOk-at_ok _ e stored.form))
