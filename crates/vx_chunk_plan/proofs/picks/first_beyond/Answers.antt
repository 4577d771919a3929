-- The first pick that is past the rows, or that there is none.
use Rattle.std.proofs.Common.{ℕ, length, sym, ◌∙◌, arith}
use Rattle.vx_chunk_plan.specs.Faults.{first_beyond, is_beyond}
use Rattle.vx_chunk_plan.specs.Picks.{pick_at}
use Rattle.vx_chunk_plan.proofs.Firsts.{first_at, first_none}
use Rattle.vx_chunk_plan.proofs.picks.first_beyond.Goals as goal

pub returns-then-is_beyond : goal.returns-then-is_beyond
unfolding first_beyond
returns-then-is_beyond c = sym (first_at (λ (j : ℕ). is_beyond c.args.len (pick_at c.args.places.now c.args.valid.now j)) (length c.args.places.now) c.loop-j.j (omega arith) c.loop-j.invariant (sym c.is_beyond.ensures ∙ c.if-is_beyond.true))

pub returns : goal.returns
unfolding first_beyond
returns c = sym (first_none (λ (j : ℕ). is_beyond c.args.len (pick_at c.args.places.now c.args.valid.now j)) (length c.args.places.now) (λ k h. c.loop-j.invariant k (omega arith)))
