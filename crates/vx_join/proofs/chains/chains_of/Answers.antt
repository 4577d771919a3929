use Rattle.std.proofs.Common.{◌-◌, sym, ap, ◌∙◌, arith}
use Rattle.std.specs.BTreeMap as tree
use Rattle.std.specs.Map.{lookup}
use Rattle.std.proofs.lemmas.Cmp.{eq_by_cmp_equiv}
use Rattle.vx_join.proofs.Links.{linked_none, linked_null, linked_last, linked_more}
use Rattle.vx_join.proofs.chains.chains_of.Goals as goal

pub loop-j-init : goal.loop-j-init
loop-j-init g c =
    linked_none _ _ _ _
    (λ q. ap (lookup (tree.is_at (g.K.Ord.cmp q))) c.new-first.ensures.empty)
    (c.in_ok-next.ensures.items_if_clones_equal (λ y e. e))

pub loop-j-preserved-in-Some-2 : goal.loop-j-preserved-in-Some-2
loop-j-preserved-in-Some-2 g c =
    linked_more (eq_by_cmp_equiv g.met.K.Ord.total) c.args.rows.now (c.loop-j.j - 1) c.loop-j.j (omega arith) (omega arith) _ _ _ c.loop-j.invariant
    c.in-Some.key c.in-Some.is _ c.in_ok-later.ensures.updates.0 c.in-Some-2.later (sym c.in_ok-later.ensures.old ∙ c.in-Some-2.is)

pub loop-j-preserved-in_default-2 : goal.loop-j-preserved-in_default-2
loop-j-preserved-in_default-2 g c =
    linked_last (eq_by_cmp_equiv g.met.K.Ord.total) c.args.rows.now (c.loop-j.j - 1) c.loop-j.j (omega arith) (omega arith) _ _ _ c.loop-j.invariant
    c.in-Some.key c.in-Some.is _ c.in_ok-later.ensures.updates.0 (sym c.in_ok-later.ensures.old ∙ c.in_default-2.is)

pub loop-j-preserved : goal.loop-j-preserved
loop-j-preserved g c =
    linked_null (eq_by_cmp_equiv g.met.K.Ord.total) c.args.rows.now (c.loop-j.j - 1) c.loop-j.j (omega arith) (omega arith) _ _ _ c.loop-j.invariant c.in_default.is
