use Rattle.std.proofs.Common.{◌≡◌, map, take}
use Rattle.std.specs.Ordering.{eq_by_cmp}
use Rattle.vx_join.specs.Chains.{first_match}
use Rattle.vx_join.proofs.matching.starts_of.Given as goal

abbrev pub invariant-loop-i : goal.invariant-loop-i
invariant-loop-i g l = l.starts.items ≡ map (λ row. first_match (eq_by_cmp g.K.Ord.cmp) l.rows row 0) (take l.i l.keys)
