use Rattle.std.proofs.Common.{◌<◌, ◌++◌, ℕ, None, Some, drop, map, sym, ap, ◌∙◌, List, arith}
use Rattle.std.specs.Prelude.{slice_index_or}
use Rattle.std.specs.Ordering.{eq_by_cmp}
use Rattle.std.proofs.lemmas.Cmp.{eq_by_cmp_equiv}
use Rattle.vx_join.specs.Chains.{keys_match}
use Rattle.vx_join.specs.Pairs.{positions_from}
use Rattle.vx_join.proofs.Found.{match_skips, match_passes, link_after, link_passes, left_more, right_more}
use Rattle.vx_join.proofs.matching.push_chain.Goals as goal

pub loop-j-init : goal.loop-j-init
loop-j-init g c =
    let same = eq_by_cmp g.K.Ord.cmp in
    let row = Some c.args.key in
    let rows = c.args.rows.now in
    let e = match_skips same rows row 0 ∙ ap (λ (n : ℕ). positions_from (keys_match same row) n (drop n rows)) (sym c.requires.starts) in
    record {
      matched = λ h. ap (λ (n : ℕ). keys_match same row (slice_index_or rows n None)) c.requires.starts ∙ match_passes same rows row 0 (omega (arith, c.requires.starts));
      left = ap (λ (ps : List ℕ). c.args.found.now.left.items ++ map (λ _. c.args.i) ps) (sym e);
      right = ap (λ (ps : List ℕ). c.args.found.now.right.items ++ ps) (sym e);
    }

pub loop-j-smaller : goal.loop-j-smaller
loop-j-smaller g c =
    let h : c.loop-j.j < c.index-j.result.now = link_after (eq_by_cmp_equiv g.met.K.Ord.total) c.args.key c.args.rows.now _ _ c.requires.linked c.loop-j.j c.loop-j-test.true (c.loop-j.invariant.matched c.loop-j-test.true) _ _ c.index-j.ensures in
    omega arith

pub loop-j-preserved : goal.loop-j-preserved
loop-j-preserved g c =
    let laws = eq_by_cmp_equiv g.met.K.Ord.total in
    let rows = c.args.rows.now in
    let j = c.loop-j.j in
    let matched = c.loop-j.invariant.matched c.loop-j-test.true in
    record {
      matched = link_passes laws c.args.key rows _ _ c.requires.linked j c.loop-j-test.true matched _ _ c.index-j.ensures;
      left = rw c.in_ok-push.ensures.items (left_more laws c.args.key rows _ _ c.requires.linked j c.loop-j-test.true matched _ _ c.index-j.ensures c.args.i _ _ c.loop-j.invariant.left);
      right = rw c.in_ok-push-2.ensures.items (right_more laws c.args.key rows _ _ c.requires.linked j c.loop-j-test.true matched _ _ c.index-j.ensures _ _ c.loop-j.invariant.right);
    }
