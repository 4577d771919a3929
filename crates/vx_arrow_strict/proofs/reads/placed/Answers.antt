-- The rows have places, or not.
use Rattle.std.proofs.Common.{◌+◌, ◌^◌, ◌≤◌, sym, ◌∙◌, arith}
use Rattle.std.proofs.lemmas.Bool.{le-ltb}
use Rattle.vx_arrow_image.specs.Image.{part_of}
use Rattle.vx_arrow_image.proofs.Stacks.{placed_if, placed_not}
use Rattle.vx_arrow_strict.proofs.reads.placed.Goals as goal

pub returns-in_default-clause-placed : goal.returns-in_default-clause-placed
returns-in_default-clause-placed c =
    let n = c.args.node.now in
    let none = c.in_default.ensures in
    let far : 2 ^ 60 ≤ n.offset + n.len = omega (arith, none) in
    placed_not (part_of n) far

pub returns-then-end-clause-placed : goal.returns-then-end-clause-placed
returns-then-end-clause-placed c = placed_if (part_of c.args.node.now) _ _ (sym c.in-Some.ensures.1) c.if-end.true c.holds_valid.ensures

pub returns-else-end-clause-placed : goal.returns-else-end-clause-placed
returns-else-end-clause-placed c =
    let n = c.args.node.now in
    let e = c.in-Some.ensures.1 in
    let far : 2 ^ 60 ≤ n.offset + n.len = omega (arith, e, c.if-end.false) in
    le-ltb _ _ c.if-end.false ∙ placed_not (part_of n) far
