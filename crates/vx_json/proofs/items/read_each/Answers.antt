-- One item after another.
use Rattle.std.proofs.Common.{map, ◌∷◌, [], ap, sym, ◌∙◌, subst, List, ◌+◌, arith}
use Rattle.std.proofs.lemmas.List.{map-append}
use Rattle.std.proofs.lemmas.Result.{err_from_is_err_and}
use Rattle.serde_json.specs.View.{items_view}
use Rattle.vx_json.specs.Items.{each}
use Rattle.vx_json.proofs.Reading.{IsReading, reading_goes_on, reading_fails, reading_ends}
use Rattle.vx_json.proofs.items.read_each.Goals as goal

pub returns-in_err-read-2 : goal.returns-in_err-read-2
returns-in_err-read-2 g c =
    let meaning = g.R.ReadItem.meaning c.args.reader.now in
    let r = c.from_residual-in_err-read-2 in
    let p = err_from_is_err_and r.result r.ensures.1 in
    let vs = c.args.items.now.items in let whole = each meaning (items_view vs) in
    rw (p.1, p.2) (reading_fails meaning vs c.loop-item.item-index (map g.R.ReadItem.seen c.loop-item.read.items) {whole = whole} c.loop-item.invariant.reading c.in_err-read-2.field-0.0 c.item-item.result (rw (← c.deref-item-items.ensures.value) c.loop-item-test.true) (rw (← c.deref-item-items.ensures.value) c.item-item.is) c.in_err-read-2.ensures)

pub loop-item-preserved : goal.loop-item-preserved
loop-item-preserved g c =
    let meaning = g.R.ReadItem.meaning c.args.reader.now in let seen = g.R.ReadItem.seen in
    let vs = c.args.items.now.items in let before = c.loop-item.read.items in let x = c.in_ok-read-2.field-0 in
    let v = c.loop-item.invariant in let whole = each meaning (items_view vs) in
    let pushed = ap (map seen) c.push_reserved.ensures.items ∙ map-append seen before (x ∷ []) in
    let P : List g.R.ReadItem.Seen → Type 0 = λ l. IsReading meaning vs (c.loop-item.item-index + 1) l whole in
    record {
      reading = subst P (sym pushed) (reading_goes_on meaning vs c.loop-item.item-index (map seen before) {whole = whole} v.reading c.item-item.result (seen x) (rw (← c.deref-item-items.ensures.value) c.loop-item-test.true) (rw (← c.deref-item-items.ensures.value) c.item-item.is) c.in_ok-read-2.ensures);
      len = omega (arith, c.push_reserved.ensures.len, v.len);
      room = c.push_reserved.ensures.capacity ∙ v.room;
    }

pub returns : goal.returns
returns g c =
    let meaning = g.R.ReadItem.meaning c.args.reader.now in
    let vs = c.args.items.now.items in
    reading_ends meaning vs c.loop-item.item-index (map g.R.ReadItem.seen c.loop-item.read.items) {whole = each meaning (items_view vs)} c.loop-item.invariant.reading (rw (← c.deref-item-items.ensures.value) c.loop-item-test.false)
