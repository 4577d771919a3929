-- One text behind another.
use Rattle.std.proofs.Common.{◌+◌, sym, ap₂, ◌∙◌, subst, Some, List, ℕ, arith}
use Rattle.std.proofs.lemmas.Result.{err_from_is_err_and}
use Rattle.serde_json.specs.View.{items_view}
use Rattle.vx_types.specs.declared.text.BinaryView.{BinaryView}
use Rattle.vx_json.specs.Items.{each}
use Rattle.vx_json.specs.Texts.{text_or_empty}
use Rattle.vx_json.specs.Views.{views_and_buffer}
use Rattle.vx_json.proofs.TextLists.{text_fails}
use Rattle.vx_json.proofs.ViewLists.{IsPlaced, placed_ends, placed_next, placed_no_more}
use Rattle.vx_json.proofs.views.placed_texts.Goals as goal

pub returns-in_err-append_text : goal.returns-in_err-append_text
returns-in_err-append_text c =
    let p = err_from_is_err_and c.from_residual-in_err-append_text.result c.from_residual-in_err-append_text.ensures.1 in
    rw (p.1, p.2) (text_fails views_and_buffer c.args.kind c.args.items.now.items c.loop-item.item-index c.loop-item.invariant.placed.texts {whole = each (text_or_empty c.args.kind) (items_view c.args.items.now.items)} c.loop-item.invariant.placed.reading c.loop-item.bytes.items c.in_err-append_text.field-0.0 c.item-item.result (rw (← c.deref-item-items.ensures.value) c.loop-item-test.true) (rw (← c.deref-item-items.ensures.value) c.item-item.is) c.in_err-append_text.ensures)

pub returns-in_err-place : goal.returns-in_err-place
returns-in_err-place c =
    let r = c.from_residual-in_err-place in
    let p = err_from_is_err_and r.result r.ensures.1 in
    let vs = c.args.items.now.items in let kind = c.args.kind in
    let whole = each (text_or_empty kind) (items_view vs) in
    rw (p.1, p.2) (placed_no_more kind vs c.loop-item.item-index c.loop-item.views.items c.loop-item.bytes.items {whole = whole} c.loop-item.invariant.placed c.item-item.result c.append_text.new.bytes.items (rw (← c.deref-item-items.ensures.value) c.loop-item-test.true) (rw (← c.deref-item-items.ensures.value) c.item-item.is) c.in_ok-append_text.ensures c.len-start.result c.in_err-place.field-0.0 (c.len-start.ensures ∙ c.loop-item.bytes.ok.0) c.in_err-place.ensures.view)

pub loop-item-preserved : goal.loop-item-preserved
loop-item-preserved c =
    let vs = c.args.items.now.items in let kind = c.args.kind in
    let v = c.loop-item.invariant in
    let whole = each (text_or_empty kind) (items_view vs) in
    let next = placed_next kind vs c.loop-item.item-index c.loop-item.views.items c.loop-item.bytes.items {whole = whole} v.placed c.item-item.result c.append_text.new.bytes.items (rw (← c.deref-item-items.ensures.value) c.loop-item-test.true) (rw (← c.deref-item-items.ensures.value) c.item-item.is) c.in_ok-append_text.ensures c.len-start.result c.in_ok-place.field-0 c.place.new.bytes.items (c.len-start.ensures ∙ c.loop-item.bytes.ok.0) c.in_ok-place.ensures.view c.in_ok-place.ensures.bytes in
    record {
      placed = subst (λ (l : List BinaryView). IsPlaced kind vs (c.loop-item.item-index + 1) l c.place.new.bytes.items whole) (sym c.push_reserved.ensures.items) next.0;
      small = next.1;
      len = omega (arith, c.push_reserved.ensures.len, v.len);
      room = c.push_reserved.ensures.capacity ∙ v.room;
    }

pub returns : goal.returns
returns c =
    let vs = c.args.items.now.items in let kind = c.args.kind in
    let whole = each (text_or_empty kind) (items_view vs) in
    placed_ends kind vs c.loop-item.item-index c.loop-item.views.items c.loop-item.bytes.items {whole = whole} c.loop-item.invariant.placed (rw (← c.deref-item-items.ensures.value) c.loop-item-test.false) c.loop-item.invariant.small
    ∙ ap₂ (λ (l : List BinaryView) (m : List ℕ). Some (l, m)) (sym c.in_ok-from_vec.ensures) (sym c.in_ok-from_vec-2.ensures)
