use Rattle.std.proofs.Common.{◌≡◌, ◌+◌, ◌-◌, ◌*◌, ◌++◌, ◌∙◌, ℕ, refl, eqb, ap, map, min, slice_range, arith}
use Rattle.vx_print.specs.Text.{gap, comma_list, row_text}
use Rattle.vx_print.proofs.Gaps.{IsFirst, elements_more}
use Rattle.std.proofs.lemmas.Bool.Decides.{nat_tests}
use Rattle.vx_print.proofs.cells.push_joined.Goals as goal

pub loop-k-preserved : goal.loop-k-preserved
loop-k-preserved c =
    let s = c.loop-k in
    let f = row_text c.args.column.now.dtype in
    let rows = c.args.column.now.rows in
    let start = c.args.start in
    let from = start + 64 * s.k in
    let to = from + c.min.result in
    let init = c.args.text.now.items in
    let now : min from c.args.end ≡ from = omega arith in
    let next : to ≡ min (start + 64 * (s.k + 1)) c.args.end = omega arith in
    let block = comma_list (map f (slice_range rows from to)) in
    let first : IsFirst (eqb s.k 0) (from - start) = record { yes = λ t. grind (arith, nat_tests); no = λ t. grind (arith, nat_tests) } in
    c.in_ok-push_block.ensures refl
    ∙ ap (λ l. l ++ block) (c.in_ok-push_next.ensures refl ∙ ap (λ l. l ++ gap (eqb s.k 0)) (s.invariant ∙ ap (λ (n : ℕ). init ++ comma_list (map f (slice_range rows start n))) now))
    ∙ elements_more f init rows start from to (eqb s.k 0) first (omega arith) (omega arith) (omega arith)
    ∙ ap (λ (n : ℕ). init ++ comma_list (map f (slice_range rows start n))) next
