-- The pairs of the numbers are those of the rows.
use Rattle.std.proofs.Common.{◌≡◌, ◌∙◌, subst}
use Rattle.std.specs.Prelude.{IfOk}
use Rattle.std.specs.Ordering.{eq_by_cmp, nat_cmp}
use Rattle.vx_join.specs.Chains.{keys_match}
use Rattle.vx_join.specs.Pairs.{lefts, pairs, rights}
use Rattle.vx_join.proofs.SmallRecords.{pairs_of_numbers}
use Rattle.vx_join.proofs.numbers.join_numbers.Goals as goal

pub returns-clause-left : goal.returns-clause-left
returns-clause-left c =
    let l = c.deref.ensures.value ∙ c.in_ok-left_keys.ensures.keys in let r = c.deref-2.ensures.value ∙ c.in_ok-right_keys.ensures.keys in
    subst (λ ps. IfOk c.join_sorted.result (λ found. found.left.items ≡ lefts ps))
    ((λ i. pairs (keys_match (eq_by_cmp nat_cmp)) (l i) (r i))
    ∙ pairs_of_numbers c.args.width c.args.left.now.rows c.args.right.now.rows c.requires.left.few c.in_ok-left_keys.ensures.records c.in_ok-right_keys.ensures.records)
    c.join_sorted.ensures.left

pub returns-clause-right : goal.returns-clause-right
returns-clause-right c =
    let l = c.deref.ensures.value ∙ c.in_ok-left_keys.ensures.keys in let r = c.deref-2.ensures.value ∙ c.in_ok-right_keys.ensures.keys in
    subst (λ ps. IfOk c.join_sorted.result (λ found. found.right.items ≡ rights ps))
    ((λ i. pairs (keys_match (eq_by_cmp nat_cmp)) (l i) (r i))
    ∙ pairs_of_numbers c.args.width c.args.left.now.rows c.args.right.now.rows c.requires.left.few c.in_ok-left_keys.ensures.records c.in_ok-right_keys.ensures.records)
    c.join_sorted.ensures.right
