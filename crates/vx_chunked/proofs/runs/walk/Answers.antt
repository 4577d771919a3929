use Rattle.std.proofs.Common.{◌≡◌, ℕ, ◌+◌, ◌-◌, ◌*◌, ◌^◌, ◌≤◌, List, length, take, drop, map, subst, sym, ap, ◌∙◌, arith}
use Rattle.std.specs.List.{All}
use Rattle.std.proofs.lemmas.List.{length-drop, take_all}
use Rattle.vx_chunked.specs.Positions.{AscendFrom, with_runs}
use Rattle.vx_chunked.proofs.Ascends.{ascend_lower}
use Rattle.vx_chunked.proofs.Spans.{PartTaken, next_left, part_is_taken, run_beyond, runs_beyond}
use Rattle.vx_chunked.proofs.runs.walk.Goals as goal
use Rattle.vx_chunked.proofs.runs.walk.Goals.{After-saturating_sub-more, then-start-end, else-start-end+then-used-later}

-- the part that a turn takes
taken : (c : After-saturating_sub-more) → PartTaken (with_runs c.args.runs.now.start c.args.runs.now.end c.args.runs.now.later.now) c.args.offset (1024 * c.args.chunk) c.run.count c.run.start c.run.end c.saturating_sub-more.result (drop c.run.used c.args.runs.now.later.now)
taken c =
    let v = c.run.invariant in
    let runs = c.args.runs.now in
    part_is_taken (with_runs runs.start runs.end runs.later.now) c.args.offset (1024 * c.args.chunk) c.run.count c.run.start c.run.end c.saturating_sub-more.result c.saturating_sub-beyond.result (drop c.run.used runs.later.now) v.few v.enough v.behind v.inside v.ahead
    (omega (arith, c.saturating_sub-beyond.ensures)) (omega (arith, c.saturating_sub-more.ensures, c.min.ensures))

-- the runs behind the last one that was begun
rest : (later : List (ℕ × ℕ)) (used : ℕ) → drop used later ≡ take (length later - used) (drop used later)
rest later used = sym (take_all (length later - used) (drop used later) (omega (arith, length-drop used later)))

pub overflow_add-count : goal.overflow_add-count
overflow_add-count c = omega (arith, (taken c).few)

pub overflow_add-start : goal.overflow_add-start
overflow_add-start c = omega (arith, c.saturating_sub-more.ensures, c.min.ensures)

pub run-preserved : goal.run-preserved
run-preserved c =
    let part = taken (goal.at.run-preserved c).After-saturating_sub-more in
    let base = 1024 * c.args.chunk in
    let count = c.run.count in
    let more = c.saturating_sub-more.result in
    let next = next_left (with_runs c.args.runs.now.start c.args.runs.now.end c.args.runs.now.later.now) (count + more) (c.run.start + more) c.run.end c.run.used c.args.runs.now.later.now c.if-start-end.false (omega arith) part.left in
    record {
      within = omega arith;
      enough = part.enough;
      few = part.few;
      behind = next;
      inside = part.inside;
      ahead = subst (λ (l : List ℕ). AscendFrom (base + (count + more)) (2 ^ 64) (map (λ i. c.args.offset + i) l)) (sym part.left ∙ next) (ascend_lower (base + count + more) (base + (count + more)) (2 ^ 64) _ part.ahead (omega arith));
    }

pub returns-clause-enough : goal.returns-clause-enough
returns-clause-enough c = (taken (goal.at.returns-clause-enough c).After-saturating_sub-more).enough

pub returns-clause-taken : goal.returns-clause-taken
returns-clause-taken c =
    let part = taken (goal.at.returns-clause-taken c).After-saturating_sub-more in
    part.left ∙ ap (with_runs (c.run.start + c.saturating_sub-more.result) c.run.end) (rest c.args.runs.now.later.now c.run.used)

pub returns-clause-inside : goal.returns-clause-inside
returns-clause-inside c = (taken (goal.at.returns-clause-inside c).After-saturating_sub-more).inside

pub returns-clause-beyond : goal.returns-clause-beyond
returns-clause-beyond c =
    let part = taken (goal.at.returns-clause-beyond c).After-saturating_sub-more in
    let offset = c.args.offset in
    let start = c.run.start + c.saturating_sub-more.result in
    let end = c.run.end in
    let later = c.args.runs.now.later.now in
    let mid = 1024 * (c.args.chunk + 1) in
    subst (λ (l : List (ℕ × ℕ)). All (λ p. mid ≤ p) (map (λ i. offset + i) (with_runs start end l))) (rest later c.run.used) (elim c.if-start-end.branch [
      | then-start-end w ↦ run_beyond offset _ (2 ^ 64) mid start end _ w.if-start-end.true part.ahead (omega (arith, w.if-start-end.true, c.saturating_sub-more.ensures, c.min.ensures, c.saturating_sub-beyond.ensures))
      | else-start-end+then-used-later w ↦ runs_beyond offset mid start end later c.run.used w.if-start-end.false (omega (arith, w.if-used-later.true))
    ])
