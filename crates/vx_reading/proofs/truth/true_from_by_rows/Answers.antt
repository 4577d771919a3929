-- The next row's bit.
use Rattle.std.proofs.Common.{◌≡◌, ℕ, ◌+◌, ◌-◌, ◌^◌, ◌<◌, min, false, drop, take, get_or, length, ap, sym, subst, ◌∙◌, arith}
use Rattle.std.proofs.lemmas.List.{get_or-drop, get_or-map, length-drop}
use Rattle.vx_bits.specs.BitBuffer.{number_of}
use Rattle.vx_bits.proofs.BitLists.{number_more, number_take_below, set_next_at}
use Rattle.vx_types.specs.RowValue.{null}
use Rattle.vx_model.specs.Valid.{is_yes}
use Rattle.vx_column.specs.Truth.{true_bits}
use Rattle.vx_reading.proofs.Stretches.{stretch-of}
use Rattle.vx_reading.proofs.TruthBits.{length-true_bits}
use Rattle.vx_reading.proofs.truth.true_from_by_rows.Goals.{then-is_true_at, else-is_true_at}
use Rattle.vx_reading.proofs.truth.true_from_by_rows.Goals as goal

pub loop-k-preserved : goal.loop-k-preserved
loop-k-preserved c =
    let column = c.args.column.now in let k = c.loop-k.k in let start = c.args.start in
    let bits = true_bits column in
    let behind = drop start bits in
    let long : length behind ≡ length column.rows - start = length-drop start bits ∙ ap (λ n. n - start) (length-true_bits column) in
    let more = number_more behind k (omega (arith, long)) in
    let below = subst (λ (n : ℕ). n < 2 ^ k) (sym c.loop-k.invariant) (number_take_below behind k (omega (arith, long))) in
    let plus = set_next_at 64 c.loop-k.word k below (omega arith) in
    let read : get_or behind k false ≡ is_yes (get_or column.rows (start + k) null) =
    get_or-drop start bits k false ∙ get_or-map is_yes column.rows (start + k) null false (omega arith) in
    elim c.if-is_true_at.branch [
      | then-is_true_at w ↦ grind (arith, more, plus, read)
      | else-is_true_at w ↦ grind (arith, more, read)
    ]

pub returns : goal.returns
returns c =
    let column = c.args.column.now in
    let bits = true_bits column in
    let long = length-true_bits column in
    let end : c.loop-k.k ≡ min (length bits - c.args.start) 64 = omega (arith, long) in
    let all : c.min-len.result ≡ c.loop-k.k = omega arith in
    stretch-of bits c.args.start c.loop-k.word c.min-len.result (omega (arith, long)) (all ∙ end) (c.loop-k.invariant ∙ ap (λ n. number_of (take n (drop c.args.start bits))) (sym all))
