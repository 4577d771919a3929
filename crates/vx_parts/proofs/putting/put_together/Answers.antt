-- What is put together is the whole's answer, and own answers are refused only when memory runs out.
use Rattle.std.proofs.Common.{◌≡◌, None, Some, true, false, sym, ap, ◌∙◌, subst}
use Rattle.std.specs.List.{All}
use Rattle.vx_types.specs.DType.{type_of}
use Rattle.vx_types.specs.TypeTree.{TypeTree, also_nullable, is_carried, is_flat}
use Rattle.vx_model.proofs.LazyRows.{carried-also}
use Rattle.vx_interleave.specs.Sources.{IsSourceOf}
use Rattle.vx_parts.specs.Plan.{lens_in, order_in}
use Rattle.vx_parts.specs.Putting.{IsOrderFor, put_fault}
use Rattle.vx_parts.proofs.OwnFit.{own_fit, own_refusal}
use Rattle.vx_parts.proofs.PutFaults.{not_memory, put_fault_is, sources_are}
use Rattle.vx_parts.proofs.PutWhole.{put_whole}
use Rattle.vx_parts.proofs.putting.put_together.Goals as goal

pub returns-in-Some-clause-fault : goal.returns-in-Some-clause-fault
returns-in-Some-clause-fault c =
    let t = type_of c.args.dtype.now in let plan = c.args.plan.now in let answers = c.args.answers.now in
    let is : put_fault (type_of c.args.dtype.now) (lens_in c.args.plan.now.parts.items) c.args.answers.now ≡ Some c.in-Some.fault =
    ap (λ parts. put_fault t (lens_in parts) answers) (sym c.deref.ensures.value) ∙ sym c.put_fault.ensures ∙ c.in-Some.is in
    put_fault_is t plan answers c.in-Some.fault is

pub returns-in-Some-clause-own : goal.returns-in-Some-clause-own
returns-in-Some-clause-own c = λ parts steps a.
    let t = type_of c.args.dtype.now in let plan = c.args.plan.now in let answers = c.args.answers.now in
    let is : put_fault (type_of c.args.dtype.now) (lens_in c.args.plan.now.parts.items) c.args.answers.now ≡ Some c.in-Some.fault =
    ap (λ parts. put_fault t (lens_in parts) answers) (sym c.deref.ensures.value) ∙ sym c.put_fault.ensures ∙ c.in-Some.is in
    own_refusal t parts steps plan answers a c.in-Some.fault (put_fault_is t plan answers c.in-Some.fault is)

pub returns-then-not-is_order_for-clause-own : goal.returns-then-not-is_order_for-clause-own
returns-then-not-is_order_for-clause-own c = λ parts steps a.
    let fit = own_fit (type_of c.args.dtype.now) parts steps c.args.plan.now c.args.answers.now a in
    let order = subst (λ (u : TypeTree). IsOrderFor u c.args.answers.now (order_in c.args.plan.now)) (sym c.also_nullable-dtype.ensures) fit.1 in
    let yes = c.is_order_for.ensures.1 order in
    let no : true ≡ false = sym yes ∙ c.if-not-is_order_for.true in cc

pub put_rows-requires-clause-carried : goal.put_rows-requires-clause-carried
put_rows-requires-clause-carried c =
    subst (λ (u : TypeTree). is_carried u ≡ true) (sym c.also_nullable-dtype.ensures)
    (carried-also (type_of c.args.dtype.now) c.args.plan.now.nullability c.requires.carried)

pub put_rows-requires-clause-sources : goal.put_rows-requires-clause-sources
put_rows-requires-clause-sources c =
    let t = type_of c.args.dtype.now in let plan = c.args.plan.now in let answers = c.args.answers.now in
    let none : put_fault (type_of c.args.dtype.now) (lens_in c.args.plan.now.parts.items) c.args.answers.now ≡ None =
    ap (λ parts. put_fault t (lens_in parts) answers) (sym c.deref.ensures.value) ∙ sym c.put_fault.ensures ∙ c.in_default.is in
    subst (λ (u : TypeTree). All (IsSourceOf u) answers) (sym c.also_nullable-dtype.ensures) (sources_are t plan.nullability (lens_in plan.parts.items) answers none)

pub returns-clause-whole : goal.returns-clause-whole
returns-clause-whole c = λ parts steps a.
    put_whole (type_of c.args.dtype.now) parts steps c.args.plan.now c.args.answers.now a c.in_ok-put_rows.field-0.dtype c.in_ok-put_rows.field-0.rows
    (c.in_ok-put_rows.ensures.dtype ∙ c.also_nullable-dtype.ensures) c.in_ok-put_rows.ensures.rows

-- ---- nulls alone, and rows in their place

pub returns-in-Some-clause-null : goal.returns-in-Some-clause-null
returns-in-Some-clause-null c = λ nulls few same.
    let t = type_of c.args.dtype.now in let plan = c.args.plan.now in let answers = c.args.answers.now in
    let is : put_fault (type_of c.args.dtype.now) (lens_in c.args.plan.now.parts.items) c.args.answers.now ≡ Some c.in-Some.fault =
    ap (λ parts. put_fault t (lens_in parts) answers) (sym c.deref.ensures.value) ∙ sym c.put_fault.ensures ∙ c.in-Some.is in
    not_memory t plan answers c.in-Some.fault is cc

pub returns-in_err-put_rows-clause-null : goal.returns-in_err-put_rows-clause-null
returns-in_err-put_rows-clause-null c = λ nulls few same.
    let n = c.args.plan.now.nullability in
    let no : false ≡ true = c.in_err-put_rows.ensures.null (record { dtype = c.also_nullable-dtype.ensures ∙ ap (λ (u : TypeTree). also_nullable u n) nulls.dtype; layouts = nulls.layouts }) few in
    absurd cc

pub returns-clause-unwrapped : goal.returns-clause-unwrapped
returns-clause-unwrapped c = λ flat. c.in_ok-put_rows.ensures.unwrapped (ap is_flat c.also_nullable-dtype.ensures ∙ flat)
