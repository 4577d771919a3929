use Rattle.std.proofs.Common.{◌+◌, ◌∙◌, arith}
use Rattle.std.specs.List.{slice_get}
use Rattle.vx_filter.proofs.Bytes.{byte_pick_pushed, row_cut}
use Rattle.std.proofs.Common.{map, Some}
use Rattle.vx_filter.proofs.compress.push_byte.Goals as goal

pub loop-place-preserved : goal.loop-place-preserved
loop-place-preserved g c =
    let v = c.loop-place.invariant in
    let i = c.loop-place.place-index in
    record {
      items = byte_pick_pushed c.args.items.now c.loop-place.kept.items _ (map Some c.args.kept.now.items) c.args.base i c.args.row.now c.index-items-base.result c.loop-place-test.true (c.requires.within i 0 c.loop-place-test.true) c.index-items-base.is c.push_reserved.ensures.items v.items;
      len = omega (arith, c.push_reserved.ensures.len, v.len);
      room = c.push_reserved.ensures.capacity ∙ v.room;
    }

pub returns-clause-items : goal.returns-clause-items
returns-clause-items g c =
    row_cut c.args.kept.now.items c.loop-place.kept.items _ (λ p. slice_get c.args.items.now (c.args.base + p)) c.args.row.now c.loop-place.place-index c.args.count _ (omega arith) (omega (arith, c.len.ensures, c.args.kept.now.ok.0)) c.truncate.ensures.items c.loop-place.invariant.items
