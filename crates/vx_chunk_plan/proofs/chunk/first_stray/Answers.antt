-- The first number that isn't, or that there is none.
use Rattle.std.proofs.Common.{ℕ, not, sym, ap, ◌∙◌, arith}
use Rattle.vx_chunk_plan.specs.Faults.{is_among}
use Rattle.vx_chunk_plan.proofs.Firsts.{found_at, found_none}
use Rattle.vx_chunk_plan.proofs.chunk.first_stray.Goals as goal

pub returns-then-not-is_among : goal.returns-then-not-is_among
returns-then-not-is_among c =
    let s = c.args.span in
    sym (found_at (λ (j : ℕ). not (is_among c.args.places.now s.first s.rows j)) c.args.order.now c.loop-i.i 0 (omega arith) (λ k h. ap not (c.loop-i.invariant k h)) (ap not (sym c.is_among.ensures ∙ c.if-not-is_among.true)))

pub returns : goal.returns
returns c =
    let s = c.args.span in
    sym (found_none (λ (j : ℕ). not (is_among c.args.places.now s.first s.rows j)) c.args.order.now 0 (λ k h. ap not (c.loop-i.invariant k (omega arith))))
