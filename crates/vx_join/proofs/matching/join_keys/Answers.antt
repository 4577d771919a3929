use Rattle.std.proofs.Common.{◌++◌, ℕ, None, Some, map, sym, ap, ◌∙◌, List}
use Rattle.std.specs.Ordering.{eq_by_cmp}
use Rattle.std.proofs.lemmas.List.{append-nil}
use Rattle.vx_join.proofs.Found.{none_matches, lefts_more, rights_more}
use Rattle.vx_join.proofs.matching.join_keys.Goals as goal
use Rattle.vx_join.proofs.matching.join_keys.Goals.{in-Some+in_ok-push_chain, in_default}

pub loop-i-preserved : goal.loop-i-preserved
loop-i-preserved g c =
    let same = eq_by_cmp g.K.Ord.cmp in
    let left = c.args.left.now in
    let right = c.args.right.now in
    elim c.match-left-i.branch [
      | in-Some+in_ok-push_chain w ↦
          let done = w.in_ok-push_chain.ensures in
          let row = Some w.in-Some.key in
          record {
            left = lefts_more same left right c.loop-i.i _ c.loop-i-test.true row w.in-Some.is _ _ _ c.loop-i.invariant.left (ap (λ f. f.left.items) w.found-is ∙ done.left);
            right = rights_more same left right c.loop-i.i _ c.loop-i-test.true row w.in-Some.is _ _ _ c.loop-i.invariant.right (ap (λ f. f.right.items) w.found-is ∙ done.right);
          }
      | in_default w ↦
          let none = none_matches same 0 right in
          record {
            left = lefts_more same left right c.loop-i.i _ c.loop-i-test.true None w.in_default.is _ _ _ c.loop-i.invariant.left (ap (λ f. f.left.items) w.found-is ∙ sym (ap (λ (ps : List ℕ). c.loop-i.found.left.items ++ map (λ _. c.loop-i.i) ps) none ∙ append-nil c.loop-i.found.left.items));
            right = rights_more same left right c.loop-i.i _ c.loop-i-test.true None w.in_default.is _ _ _ c.loop-i.invariant.right (ap (λ f. f.right.items) w.found-is ∙ sym (ap (λ (ps : List ℕ). c.loop-i.found.right.items ++ ps) none ∙ append-nil c.loop-i.found.right.items));
          }
    ]
