-- One column on either side.
use Rattle.std.proofs.Common.{◌≡◌, ◌∙◌, sym, subst}
use Rattle.std.specs.Prelude.{IfOk}
use Rattle.vx_join.specs.Cells.{rows_of}
use Rattle.vx_join.specs.Keys.{rows_from, rows_match}
use Rattle.vx_join.specs.Pairs.{lefts, pairs, rights}
use Rattle.vx_join.proofs.SmallRecords.{pairs_of_singles}
use Rattle.vx_join.proofs.FlatKeys.{flat_left, flat_right}
use Rattle.vx_join.proofs.Tied.{one_long}
use Rattle.vx_join.proofs.keys.join_columns.Goals as goal

pub returns-in-Some-small_width-clause-left : goal.returns-in-Some-small_width-clause-left
returns-in-Some-small_width-clause-left c =
    let l = c.in-Some.l.now in let r = c.in-Some-only.r.now in let a = c.in-Some.ensures in let b = c.in-Some-only.ensures in
    subst (λ ps. IfOk c.join_numbers.result (λ found. found.left.items ≡ lefts ps))
    (pairs_of_singles l.rows r.rows c.args.left_len c.args.right_len (one_long c.args.left_len c.args.left.now l a c.requires.left) (one_long c.args.right_len c.args.right.now r b c.requires.right)
    ∙ (λ i. pairs rows_match (rows_from (rows_of (sym a i)) 0 c.args.left_len) (rows_from (rows_of (sym b i)) 0 c.args.right_len)))
    c.join_numbers.ensures.left

pub returns-in-Some-small_width-clause-right : goal.returns-in-Some-small_width-clause-right
returns-in-Some-small_width-clause-right c =
    let l = c.in-Some.l.now in let r = c.in-Some-only.r.now in let a = c.in-Some.ensures in let b = c.in-Some-only.ensures in
    subst (λ ps. IfOk c.join_numbers.result (λ found. found.right.items ≡ rights ps))
    (pairs_of_singles l.rows r.rows c.args.left_len c.args.right_len (one_long c.args.left_len c.args.left.now l a c.requires.left) (one_long c.args.right_len c.args.right.now r b c.requires.right)
    ∙ (λ i. pairs rows_match (rows_from (rows_of (sym a i)) 0 c.args.left_len) (rows_from (rows_of (sym b i)) 0 c.args.right_len)))
    c.join_numbers.ensures.right

pub join_cells-requires-clause-flat : goal.join_cells-requires-clause-flat
join_cells-requires-clause-flat c = flat_left c.args.left.now c.args.right.now c.requires.alike

pub join_cells-requires-clause-flat_right : goal.join_cells-requires-clause-flat_right
join_cells-requires-clause-flat_right c = flat_right c.args.left.now c.args.right.now c.requires.alike
