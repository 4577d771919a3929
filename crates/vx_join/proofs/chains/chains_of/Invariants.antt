use Rattle.std.specs.Ordering.{eq_by_cmp}
use Rattle.std.specs.BTreeMap as tree
use Rattle.vx_join.specs.Chains.{AreLinked}
use Rattle.vx_join.proofs.chains.chains_of.Given as goal

abbrev pub invariant-loop-j : goal.invariant-loop-j
invariant-loop-j g l = AreLinked (eq_by_cmp g.K.Ord.cmp) l.rows l.j (tree.get g.K.Ord.cmp l.first) l.next.items
