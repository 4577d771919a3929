-- What was tested.
use Rattle.std.proofs.Common.{◌<◌, ◌≤◌, ◌-◌, ℕ, min, sym, arith}
use Rattle.std.proofs.lemmas.Bool.{false_from_ne_true}
use Rattle.vx_arrow_image.specs.declared.format.Offsets.{Offsets}
use Rattle.vx_arrow_image.specs.Image.{limit_of, part_of}
use Rattle.vx_arrow_image.proofs.CutRows.{cut_end, cut_from, cut_small}
use Rattle.vx_arrow_image.proofs.Stacks.{cut_not_up}
use Rattle.vx_arrow_columns.proofs.MeasureSteps.{limit_some}
use Rattle.vx_arrow_columns.proofs.needs.tested_cut.Goals as goal

-- the end is below both bounds
ends_low : (z : Offsets) (count end : ℕ) → end ≤ min count (limit_of z - 1) → (end < limit_of z) × (end ≤ count)
ends_low z count end h = let some = limit_some z in (omega arith, omega arith)

pub returns-clause-small : goal.returns-clause-small
returns-clause-small c = (ends_low c.args.size c.args.count c.cut_at-cut.result.end (omega (arith, c.limit.ensures, c.min.ensures, c.if-cut-min.false))).0

pub returns-clause-cut : goal.returns-clause-cut
returns-clause-cut c =
    let low = ends_low c.args.size c.args.count c.cut_at-cut.result.end (omega (arith, c.limit.ensures, c.min.ensures, c.if-cut-min.false)) in
    cut_from c.args.size (part_of c.args.node.now) c.args.count c.args.i (omega (arith, c.cut_at-cut.ensures.start, c.cut_at-cut.ensures.end)) (omega (arith, low.0, c.cut_at-cut.ensures.end)) (omega (arith, low.1, c.cut_at-cut.ensures.end))

pub returns-then-cut-clause-fault : goal.returns-then-cut-clause-fault
returns-then-cut-clause-fault c = sym (cut_not_up c.args.size (part_of c.args.node.now) c.args.count c.args.i c.cut_at-cut.result.start c.cut_at-cut.result.end c.cut_at-cut.ensures.start c.cut_at-cut.ensures.end c.if-cut.true)

pub returns-then-cut-min-clause-fault : goal.returns-then-cut-min-clause-fault
returns-then-cut-min-clause-fault c =
    let z = c.args.size in
    let p = part_of c.args.node.now in
    false_from_ne_true _ (λ t.
    let small = cut_small z p c.args.count c.args.i t in
    let low = cut_end z p c.args.count c.args.i t in
    omega (arith, c.limit.ensures, c.min.ensures, c.cut_at-cut.ensures.end, c.if-cut-min.true))
