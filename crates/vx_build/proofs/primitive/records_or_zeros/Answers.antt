-- One number more.
use Rattle.std.proofs.Common.{◌∙◌, ap, length, arith}
use Rattle.std.specs.Option.{option_map}
use Rattle.std.proofs.lemmas.List.{length-append}
use Rattle.vx_types.specs.PType.{number}
use Rattle.vx_types.specs.RowValue.{bytes}
use Rattle.vx_build.proofs.Shown.{alike_more, shown_more}
use Rattle.vx_build.proofs.primitive.records_or_zeros.Goals as goal

pub loop-number-preserved : goal.loop-number-preserved
loop-number-preserved g c =
    let n = g.T.NativePType in
    let v = c.loop-number.invariant in
    let more = c.push_reserved.ensures.items in
    let i = c.loop-number.number-index in
    let xs = c.args.numbers.now in
    let l = c.loop-number-test.true in
    let there = c.number-item.is in
    let put = c.record_or_zeros.ensures in
    record {
      rows = shown_more (λ x. bytes (n.record_of x)) xs c.loop-number.records.items c.push_reserved.new.self.items c.record_or_zeros.result i c.number-item.result v.len l there more v.rows put.row;
      numbers = alike_more (option_map (λ x. number n.ptype (n.record_of x))) (option_map n.integer) xs i c.number-item.result l there v.numbers put.number;
      len = omega (arith, simp length-append at (ap length more), v.len);
      room = c.push_reserved.ensures.capacity ∙ v.room;
    }
