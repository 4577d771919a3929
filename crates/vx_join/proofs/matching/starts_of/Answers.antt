use Rattle.std.proofs.Common.{sym, ap, arith}
use Rattle.std.specs.Ordering.{eq_by_cmp}
use Rattle.vx_join.specs.Chains.{first_match}
use Rattle.vx_join.proofs.Found.{map_all, map_more}
use Rattle.vx_join.proofs.matching.starts_of.Goals as goal

pub loop-i-preserved : goal.loop-i-preserved
loop-i-preserved g c =
    let row = sym (ap (λ row. first_match (eq_by_cmp g.K.Ord.cmp) c.args.rows.now row 0) c.index-keys-i.is) in
    map_more (λ row. first_match (eq_by_cmp g.K.Ord.cmp) c.args.rows.now row 0) c.args.keys.now c.loop-i.i _ c.loop-i.starts.items _ _ c.loop-i-test.true c.loop-i.invariant row c.start_of.ensures c.in_ok-push.ensures.items

pub returns : goal.returns
returns g c = map_all (λ row. first_match (eq_by_cmp g.K.Ord.cmp) c.args.rows.now row 0) c.args.keys.now c.loop-i.i c.loop-i.starts.items (omega (arith, c.loop-i-test.false)) c.loop-i.invariant
