-- The columns inside nest less deep, and mean what their members mean.
use Rattle.std.proofs.Common.{List, [], ◌∷◌, ◌++◌, ◌+◌, rules, codes, sym, ap, subst, ◌∙◌, arith}
use Rattle.std.proofs.lemmas.Result.{err_from_is_err_and}
use Rattle.serde_json.specs.View.{view, items_view}
use Rattle.vx_model.specs.Column.{Column}
use Rattle.vx_json.proofs.Reading.{IsReading, reading_starts, reading_goes_on, reading_fails, reading_ends}
use Rattle.vx_document.specs.Columns.{column_by, column_of, each_column}
use Rattle.vx_document.proofs.Inside.{column_of-is, each_column-is, depth-get, depth-list, depth-item}
use Rattle.vx_document.proofs.columns.+columns.Goals as goal

pub column_of-returns : goal.column_of-returns
unfolding column_by
column_of-returns t c = rw (column_of-is (view c.args.value.now)) (search rules)

pub column_member-column_of-requires : goal.column_member-column_of-requires
column_member-column_of-requires t c =
    let h = depth-get c.args.name.now (view c.args.value.now) (view c.in_ok-member.field-0.now) c.in_ok-member.ensures.value in
    (omega (arith, h), tt)

pub validity_stated-validity_from-requires : goal.validity_stated-validity_from-requires
validity_stated-validity_from-requires t c =
    let h = depth-get (codes "validity") (view c.args.value.now) (view c.in-Some.stated.now) (sym c.in-Some.ensures) in
    (omega (arith, h, c.decreases), tt)

pub columns_member-each_column-requires : goal.columns_member-each_column-requires
columns_member-each_column-requires t c =
    let h = depth-list c.args.name.now (view c.args.value.now) (items_view c.in_ok-list_member.field-0.now.items) c.in_ok-list_member.ensures.value in
    (omega (arith, h), tt)

-- ---- one item after another

pub each_column-loop-item-init : goal.each_column-loop-item-init
each_column-loop-item-init t c =
    let vs = c.args.items.now.items in let whole = each_column (items_view vs) in
    let P : List Column → Type 0 = λ l. IsReading column_of vs 0 l whole in
    record {
      reading = subst P (sym c.in_ok-columns.ensures.items) (subst (IsReading column_of vs 0 []) (sym (each_column-is (items_view vs))) (reading_starts column_of vs));
      len = search rules;
      room = search rules;
    }

pub each_column-column_of-requires : goal.each_column-column_of-requires
each_column-column_of-requires t c =
    let vs = c.args.items.now.items in
    let h = depth-item vs c.loop-item.item-index c.item-item.result (rw (← c.deref-item-items.ensures.value) c.loop-item-test.true) (rw (← c.deref-item-items.ensures.value) c.item-item.is) in
    (omega (arith, h, c.decreases), tt)

pub each_column-returns-in_err-column_of : goal.each_column-returns-in_err-column_of
each_column-returns-in_err-column_of t c =
    let r = c.from_residual-in_err-column_of in
    let p = err_from_is_err_and r.result r.ensures.1 in
    let vs = c.args.items.now.items in
    rw (p.1, p.2) (reading_fails column_of vs c.loop-item.item-index c.loop-item.columns.items {whole = each_column (items_view vs)} c.loop-item.invariant.reading c.in_err-column_of.field-0.0 c.item-item.result (rw (← c.deref-item-items.ensures.value) c.loop-item-test.true) (rw (← c.deref-item-items.ensures.value) c.item-item.is) c.in_err-column_of.ensures)

pub each_column-loop-item-preserved : goal.each_column-loop-item-preserved
each_column-loop-item-preserved t c =
    let vs = c.args.items.now.items in let whole = each_column (items_view vs) in
    let before = c.loop-item.columns.items in let x = c.in_ok-column_of.field-0 in let v = c.loop-item.invariant in
    let pushed = c.push_reserved.ensures.items ∙ ap (λ (y : Column). before ++ y ∷ []) c.in_ok-into_ref.ensures in
    let P : List Column → Type 0 = λ l. IsReading column_of vs (c.loop-item.item-index + 1) l whole in
    record {
      reading = subst P (sym pushed) (reading_goes_on column_of vs c.loop-item.item-index before {whole = whole} v.reading c.item-item.result x (rw (← c.deref-item-items.ensures.value) c.loop-item-test.true) (rw (← c.deref-item-items.ensures.value) c.item-item.is) c.in_ok-column_of.ensures);
      len = omega (arith, c.push_reserved.ensures.len, v.len);
      room = c.push_reserved.ensures.capacity ∙ v.room;
    }

pub each_column-returns : goal.each_column-returns
each_column-returns t c =
    let vs = c.args.items.now.items in
    reading_ends column_of vs c.loop-item.item-index c.loop-item.columns.items {whole = each_column (items_view vs)} c.loop-item.invariant.reading (rw (← c.deref-item-items.ensures.value) c.loop-item-test.false)
