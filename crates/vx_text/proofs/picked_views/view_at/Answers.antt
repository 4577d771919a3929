-- The text ends no later than the last, so that its place and its length are small.
use Rattle.std.proofs.Common.{◌+◌, ◌-◌, ◌<◌, ℕ, Option, length, drop, subst, arith, length-take}
use Rattle.std.specs.Prelude.{IfSome}
use Rattle.vx_text.proofs.TextViews.{ends_near}
use Rattle.vx_text.proofs.picked_views.view_at.Goals as goal

pub overflow_cast-start : goal.overflow_cast-start
overflow_cast-start g c =
    let row = subst (λ (o : Option ℕ). IfSome o (λ r. r + 1 < length c.args.records.now)) c.in-Some.is c.requires.row in
    omega (arith, ends_near c.args.bytes.now c.args.ptype c.args.records.now c.in-Some.row 2147483647 c.requires.offsets c.requires.near row, c.span_at-start.ensures.end, c.span_at-start.ensures.ordered)

pub make_view-requires : goal.make_view-requires
make_view-requires g c =
    let row = subst (λ (o : Option ℕ). IfSome o (λ r. r + 1 < length c.args.records.now)) c.in-Some.is c.requires.row in
    let start = c.span_at-start.result.0 in let end = c.span_at-start.result.1 in
    omega (arith, ends_near c.args.bytes.now c.args.ptype c.args.records.now c.in-Some.row 2147483647 c.requires.offsets c.requires.near row, c.span_at-start.ensures.end, length-take (end - start) (drop start c.args.bytes.now))
