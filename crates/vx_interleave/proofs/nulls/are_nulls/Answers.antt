-- One column of layout `Null` more.
use Rattle.std.proofs.Common.{◌≡◌, ◌<◌, ◌≤◌, List, length, get_or, true, refl, sym, ap, ◌∙◌, subst, arith}
use Rattle.vx_model.specs.Column.{Column}
use Rattle.vx_model.specs.Plain.{is_null_layout}
use Rattle.vx_interleave.proofs.NullRows.{IsNulls, each_one, one_more}
use Rattle.vx_interleave.proofs.nulls.are_nulls.Goals as goal

pub loop-column-preserved : goal.loop-column-preserved
loop-column-preserved c =
    let cs = c.args.columns.now in let k = c.loop-column.column-index in
    let is = c.deref.ensures ∙ c.column-item.is ∙ ap (λ (l : List Column). get_or l k c.column-item.result) c.as_slice-column-items.ensures in
    let below : c.loop-column.column-index < length c.args.columns.now = omega (arith, ap (length {A = Column}) c.as_slice-column-items.ensures, c.loop-column-test.true) in
    let HasLayout : Column → Type 0 = λ x. is_null_layout x.layout ≡ true in
    record {
      layouts = one_more HasLayout cs k c.column-item.result below c.loop-column.invariant.layouts (subst HasLayout is (sym c.is_null.ensures.layout ∙ c.if-not-is_null.false));
      rows = one_more IsNulls cs k c.column-item.result below c.loop-column.invariant.rows (subst IsNulls is (c.is_null.ensures.rows c.if-not-is_null.false));
    }

pub returns-clause-exactly : goal.returns-clause-exactly
returns-clause-exactly c =
    let cs = c.args.columns.now in let k = c.loop-column.column-index in
    let all : length c.args.columns.now ≤ c.loop-column.column-index = omega (arith, ap (length {A = Column}) c.as_slice-column-items.ensures, c.loop-column-test.false) in (
      λ told. record {
        dtype = c.same.ensures.0 c.if-not-same.false;
        layouts = each_one (λ (x : Column). is_null_layout x.layout ≡ true) cs k all c.loop-column.invariant.layouts;
      },
      λ nulls. refl,
    )

pub returns-clause-rows : goal.returns-clause-rows
returns-clause-rows c = λ told.
    let all : length c.args.columns.now ≤ c.loop-column.column-index = omega (arith, ap (length {A = Column}) c.as_slice-column-items.ensures, c.loop-column-test.false) in
    each_one IsNulls c.args.columns.now c.loop-column.column-index all c.loop-column.invariant.rows
