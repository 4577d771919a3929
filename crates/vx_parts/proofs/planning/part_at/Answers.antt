-- The part's own picks are below the rows that are left of it.
use Rattle.std.proofs.Common.{◌<◌, ℕ, length, subst, sym, ◌∙◌, arith, Option}
use Rattle.std.specs.Prelude.{Vec}
use Rattle.std.specs.declared.alloc.Global.{Global}
use Rattle.std.proofs.lemmas.List.{length-map}
use Rattle.vx_parts.specs.Own.{lists_in}
use Rattle.vx_parts.specs.Plan.{AreBelow, own_in}
use Rattle.vx_parts.specs.declared.own.OwnPicks.{OwnPicks}
use Rattle.vx_parts.proofs.PickCuts.{list_in}
use Rattle.vx_parts.proofs.Planned.{below_at}
use Rattle.vx_parts.proofs.planning.part_at.Goals as goal

pub with_take-requires : goal.with_take-requires
with_take-requires c =
    let left = c.args.left.now in let k = c.args.k in let own = c.in-Some.cut.own.items in
    let below = subst (λ (rest : Option OwnPicks). AreBelow left (own_in rest)) c.in-Some.is c.requires.own in
    let many = length-map own (λ (v : Vec ℕ Global). v.items) in
    let here : c.args.k < length c.in-Some.cut.own.items = omega (arith, below.0, many, c.requires.within, c.requires.as_many) in
    below_at left (lists_in own) k c.saturating_sub-len.result c.deref.result.now below (omega (arith, here, many)) c.saturating_sub-len.ensures
    (c.deref.ensures.value ∙ sym (list_in own k c.index.result.now here c.index.ensures))
