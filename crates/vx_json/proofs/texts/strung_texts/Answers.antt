-- One text behind another.
use Rattle.std.proofs.Common.{◌≡◌, ◌+◌, ◌<◌, ◌^◌, ◌++◌, length, sym, ap, ap₂, ◌∙◌, ◌∷◌, [], subst, Some, List, ℕ, arith}
use Rattle.std.proofs.lemmas.Result.{err_from_is_err_and}
use Rattle.std.specs.Int.{w128}
use Rattle.std.proofs.lemmas.Int.{to_z_pos}
use Rattle.vx_types.specs.PType as ptypes
use Rattle.vx_types.specs.PType.{record_of}
use Rattle.vx_json.specs.Texts.{text_or_empty, offset_record, strung}
use Rattle.vx_json.proofs.TextLists.{text_fails, IsStrung, strung_starts, strung_goes_on, strung_ends, strung_past}
use Rattle.serde_json.specs.View.{items_view}
use Rattle.vx_json.specs.Items.{each}
use Rattle.vx_json.proofs.texts.strung_texts.Goals as goal

pub loop-item-init : goal.loop-item-init
unfolding ptypes.record_of
loop-item-init c =
    let kind = c.args.kind in let vs = c.args.items.now.items in
    let first : c.push_reserved.new.self.items ≡ offset_record 0 ∷ [] = c.push_reserved.ensures.items ∙ ap (λ (l : List (List ℕ)). l ++ (0 ∷ 0 ∷ 0 ∷ 0 ∷ []) ∷ []) c.in_ok-offsets.ensures.items in
    let start = strung_starts kind vs c.push_reserved.new.self.items first in
    record {
      strung = subst (λ (l : List ℕ). IsStrung kind vs 0 c.push_reserved.new.self.items l (each (text_or_empty kind) (items_view vs))) (sym c.new-bytes.ensures.items) start;
      len = omega (arith, c.push_reserved.ensures.len, c.in_ok-offsets.ensures.len);
      room = omega (arith, c.push_reserved.ensures.capacity, c.in_ok-offsets.ensures.exact, c.in_ok-offsets.ensures.capacity, c.len.ensures, c.args.items.now.ok.0);
    }

pub returns-in_err-append_text : goal.returns-in_err-append_text
returns-in_err-append_text c =
    let p = err_from_is_err_and c.from_residual-in_err-append_text.result c.from_residual-in_err-append_text.ensures.1 in
    rw (p.1, p.2) (text_fails strung c.args.kind c.args.items.now.items c.loop-item.item-index c.loop-item.invariant.strung.texts {whole = each (text_or_empty c.args.kind) (items_view c.args.items.now.items)} c.loop-item.invariant.strung.reading c.loop-item.bytes.items c.in_err-append_text.field-0.0 c.item-item.result (rw (← c.deref-item-items.ensures.value) c.loop-item-test.true) (rw (← c.deref-item-items.ensures.value) c.item-item.is) c.in_err-append_text.ensures)

pub loop-item-preserved : goal.loop-item-preserved
loop-item-preserved c =
    let vs = c.args.items.now.items in let kind = c.args.kind in
    let v = c.loop-item.invariant in let new = c.append_text.new.bytes in
    let whole = each (text_or_empty kind) (items_view vs) in
    let next = strung_goes_on kind vs c.loop-item.item-index c.loop-item.offsets.items c.loop-item.bytes.items {whole = whole} v.strung c.item-item.result new.items (rw (← c.deref-item-items.ensures.value) c.loop-item-test.true) (rw (← c.deref-item-items.ensures.value) c.item-item.is) c.in_ok-append_text.ensures in
    let small : c.len-in-loop-item.result < 2 ^ 127 = omega (arith, c.len-in-loop-item.type_inv) in
    let end : c.record_of.result ≡ offset_record (length new.items) = c.record_of.ensures ∙ ap (record_of 4) (to_z_pos w128 c.len-in-loop-item.result small) ∙ ap offset_record (c.len-in-loop-item.ensures ∙ new.ok.0) in
    let pushed = c.push_reserved-in-loop-item.ensures.items ∙ ap (λ (r : List ℕ). c.loop-item.offsets.items ++ r ∷ []) end in
    record {
      strung = subst (λ (l : List (List ℕ)). IsStrung kind vs (c.loop-item.item-index + 1) l new.items whole) (sym pushed) next;
      len = omega (arith, c.push_reserved-in-loop-item.ensures.len, v.len);
      room = c.push_reserved-in-loop-item.ensures.capacity ∙ v.room;
    }

pub returns-then-len-gt-GREATEST_OFFSET : goal.returns-then-len-gt-GREATEST_OFFSET
returns-then-len-gt-GREATEST_OFFSET c =
    let vs = c.args.items.now.items in let kind = c.args.kind in
    let whole = each (text_or_empty kind) (items_view vs) in
    strung_past kind vs c.loop-item.item-index c.loop-item.offsets.items c.loop-item.bytes.items {whole = whole} c.loop-item.invariant.strung (rw (← c.deref-item-items.ensures.value) c.loop-item-test.false) (omega (arith, c.if-len-gt-GREATEST_OFFSET.true, c.len-2.ensures, c.loop-item.bytes.ok.0))

pub returns : goal.returns
returns c =
    let vs = c.args.items.now.items in let kind = c.args.kind in
    let whole = each (text_or_empty kind) (items_view vs) in
    strung_ends kind vs c.loop-item.item-index c.loop-item.offsets.items c.loop-item.bytes.items {whole = whole} c.loop-item.invariant.strung (rw (← c.deref-item-items.ensures.value) c.loop-item-test.false) (omega (arith, c.if-len-gt-GREATEST_OFFSET.false, c.len-2.ensures, c.loop-item.bytes.ok.0))
    ∙ ap₂ (λ (l : List (List ℕ)) (m : List ℕ). Some (l, m)) (sym c.in_ok-from_vec.ensures) (sym c.in_ok-from_vec-2.ensures)
