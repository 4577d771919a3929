-- One block after another.
use Rattle.std.proofs.Common.{◌+◌, List, ℕ, take, sym, subst}
use Rattle.std.proofs.lemmas.Result.{err_from_is_err_and}
use Rattle.serde_json.specs.View.{items_view}
use Rattle.vx_json.specs.Items.{each}
use Rattle.vx_json.proofs.Reading.{IsReading, reading_ends, reading_fails, reading_goes_on}
use Rattle.vx_rows.specs.FileDocument.{block_of}
use Rattle.vx_rows.proofs.file_document.blocks_in.Goals as goal

pub returns-in_err-len : goal.returns-in_err-len
returns-in_err-len c =
    let r = c.from_residual in
    let p = err_from_is_err_and r.result r.ensures.1 in
    let vs = c.args.items.now.items in let whole = each block_of (items_view vs) in
    rw (p.1, p.2) (reading_fails block_of vs c.loop-item.item-index c.loop-item.blocks {whole = whole} c.loop-item.invariant c.in_err-len.field-0.0 c.item-item.result (rw (← c.deref-item-items.ensures.value) c.loop-item-test.true) (rw (← c.deref-item-items.ensures.value) c.item-item.is) c.in_err-len.ensures.fails)

pub loop-item-preserved : goal.loop-item-preserved
loop-item-preserved c =
    let vs = c.args.items.now.items in let whole = each block_of (items_view vs) in
    let k = c.loop-item.item-index in let n = c.in_ok-len.len in
    let P : List (List ℕ) → Type 0 = λ l. IsReading block_of vs (k + 1) l whole in
    subst P (sym c.in_ok-push.ensures.ok) (reading_goes_on block_of vs k c.loop-item.blocks {whole = whole} c.loop-item.invariant c.item-item.result (take n c.put_block.new.dst) (rw (← c.deref-item-items.ensures.value) c.loop-item-test.true) (rw (← c.deref-item-items.ensures.value) c.item-item.is) c.in_ok-len.ensures.bytes)

pub returns : goal.returns
returns c =
    let vs = c.args.items.now.items in
    reading_ends block_of vs c.loop-item.item-index c.loop-item.blocks {whole = each block_of (items_view vs)} c.loop-item.invariant (rw (← c.deref-item-items.ensures.value) c.loop-item-test.false)
