-- The rows of the pairs, side by side.
use Rattle.std.proofs.Common.{◌∙◌, ap, sym, subst}
use Rattle.vx_positions.specs.Positions.{AllThere}
use Rattle.vx_take.specs.Picks.{BoundedPicks}
use Rattle.vx_join.specs.Join.{JoinValue}
use Rattle.vx_join.specs.Keys.{matching_pairs}
use Rattle.vx_join.specs.Pairs.{lefts, rights}
use Rattle.vx_join.proofs.Tied.{all_some, joined}
use Rattle.vx_join.proofs.joining.join.Goals as goal

pub rows_at-requires-clause-there : goal.rows_at-requires-clause-there
rows_at-requires-clause-there c =
    let ps = matching_pairs c.args.left.now c.args.right.now c.args.keys.now in
    subst AllThere (sym (ap (λ (p : BoundedPicks). p.picks) c.left.ensures ∙ ap (λ (j : JoinValue). j.left.picks) c.in_ok-found.ensures.pairs)) (all_some (lefts ps))

pub rows_at-requires-2-clause-there : goal.rows_at-requires-2-clause-there
rows_at-requires-2-clause-there c =
    let ps = matching_pairs c.args.left.now c.args.right.now c.args.keys.now in
    subst AllThere (sym (ap (λ (p : BoundedPicks). p.picks) c.right.ensures ∙ ap (λ (j : JoinValue). j.right.picks) c.in_ok-found.ensures.pairs)) (all_some (rights ps))

pub returns-clause-rows : goal.returns-clause-rows
returns-clause-rows c =
    let ps = matching_pairs c.args.left.now c.args.right.now c.args.keys.now in
    let l = ap (λ (p : BoundedPicks). p.picks) c.left.ensures ∙ ap (λ (j : JoinValue). j.left.picks) c.in_ok-found.ensures.pairs in
    let r = ap (λ (p : BoundedPicks). p.picks) c.right.ensures ∙ ap (λ (j : JoinValue). j.right.picks) c.in_ok-found.ensures.pairs in
    joined c.args.left.now c.args.right.now c.in_ok-left_rows.left_rows c.in_ok-right_rows.right_rows ps c.left.result.now.picks c.right.result.now.picks l r
    c.in_ok-left_rows.ensures c.in_ok-right_rows.ensures c.in_ok-beside.field-0 c.in_ok-beside.ensures
