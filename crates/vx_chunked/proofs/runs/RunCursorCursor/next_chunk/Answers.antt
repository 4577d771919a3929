use Rattle.std.proofs.Common.{◌≡◌, ℕ, zero, suc, ◌+◌, ◌*◌, ◌/◌, ◌^◌, ◌≤◌, true, eqb, ne_eqb, sym, ◌∙◌, arith}
use Rattle.std.proofs.lemmas.Bool.{false≢true}
use Rattle.vx_chunked.proofs.Ascends.{ascend_all}
use Rattle.vx_chunked.proofs.Spans.{first_of_run, run_beyond, runs_beyond}
use Rattle.vx_chunked.proofs.runs.RunCursorCursor.next_chunk.Goals as goal

none_of : (n : ℕ) → eqb n 0 ≡ true → n ≤ 0
none_of zero e = omega arith
none_of (suc n) e = absurd (false≢true (sym (ne_eqb (suc n) 0 (λ q. omega arith)) ∙ e))

pub overflow_add-result : goal.overflow_add-result
overflow_add-result g c =
    let s = c.args.self.now in
    let next = first_of_run s.offset (1024 * c.args.chunk) (2 ^ 64) s.runs.start s.runs.end s.runs.later.now c.if-start-end.true c.requires.ahead in
    omega (arith, next.1)

pub returns-then-start-end-clause-onward : goal.returns-then-start-end-clause-onward
returns-then-start-end-clause-onward g c =
    let s = c.args.self.now in
    let next = first_of_run s.offset (1024 * c.args.chunk) (2 ^ 64) s.runs.start s.runs.end s.runs.later.now c.if-start-end.true c.requires.ahead in
    omega (arith, next.0)

pub returns-then-start-end-clause-passed : goal.returns-then-start-end-clause-passed
returns-then-start-end-clause-passed g c =
    let s = c.args.self.now in
    run_beyond s.offset (1024 * c.args.chunk) (2 ^ 64) (1024 * ((s.offset + s.runs.start) / 1024)) s.runs.start s.runs.end s.runs.later.now c.if-start-end.true c.requires.ahead (omega arith)

pub returns-then-is_empty-clause-passed : goal.returns-then-is_empty-clause-passed
returns-then-is_empty-clause-passed g c =
    let s = c.args.self.now in
    runs_beyond s.offset _ s.runs.start s.runs.end s.runs.later.now 0 c.if-start-end.false (none_of _ (sym c.is_empty.ensures ∙ c.if-is_empty.true))

pub returns-else-is_empty-clause-passed : goal.returns-else-is_empty-clause-passed
returns-else-is_empty-clause-passed g c = ascend_all (1024 * c.args.chunk) (2 ^ 64) (1024 * c.args.chunk) _ c.requires.ahead (omega arith)
