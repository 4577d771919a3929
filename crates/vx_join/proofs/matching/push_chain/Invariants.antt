use Rattle.std.proofs.Common.{◌≡◌, ◌<◌, ◌-◌, ◌++◌, true, None, Some, length, drop, map}
use Rattle.std.specs.Prelude.{slice_index_or}
use Rattle.std.specs.Ordering.{eq_by_cmp}
use Rattle.vx_join.specs.Chains.{keys_match}
use Rattle.vx_join.specs.Pairs.{positions_from}
use Rattle.vx_join.proofs.matching.push_chain.Given as goal

abbrev pub invariant-loop-j : goal.invariant-loop-j
invariant-loop-j g l =
    let test = keys_match (eq_by_cmp g.K.Ord.cmp) (Some l.fn.key) in
    record {
      matched : l.j < length l.rows → test (slice_index_or l.rows l.j None) ≡ true;
      left : l.found.left.items ++ map (λ _. l.i) (positions_from test l.j (drop l.j l.rows)) ≡ l.fn.found.left.items ++ map (λ _. l.i) (positions_from test 0 l.rows);
      right : l.found.right.items ++ positions_from test l.j (drop l.j l.rows) ≡ l.fn.found.right.items ++ positions_from test 0 l.rows;
    }

abbrev pub decreases-loop-j : goal.decreases-loop-j
decreases-loop-j g l = length l.rows - l.j
