use Rattle.std.proofs.Common.{◌+◌, ◌-◌, ◌*◌, ◌++◌, ◌≡◌, take, drop, sym, ap, ap₂, ◌∙◌, arith}
use Rattle.std.proofs.lemmas.List.FromFn.{length-range_with_len}
use Rattle.vx_fixed.proofs.Rows.{range_rows}
use Rattle.vx_fixed.proofs.range.write_range.Goals as goal

pub returns : goal.returns
returns c =
    let n = c.args.count in
    let w = c.args.width in
    let at = (c.args.from + c.args.start) * w in
    let src = c.args.src.now in
    let some : at + n * w - at ≡ n * w = omega arith in
    ap₂ (λ l k. l ++ drop (k * w) c.args.out.now)
    (c.copy_from_slice.ensures.after ∙ ap (λ k. take k (drop at src)) some ∙ sym (range_rows w src c.args.from c.args.start n))
    (sym (length-range_with_len c.args.start n))
