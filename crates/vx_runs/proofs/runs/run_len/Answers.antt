-- One run more.
use Rattle.std.proofs.Common.{◌≤◌, ◌^◌, length, get_or, ap, sym, subst, refl, arith, ℕ, Option}
use Rattle.std.specs.Prelude.{IfNone}
use Rattle.vx_runs.specs.Runs.{run_places}
use Rattle.vx_runs.proofs.RunPlaces.{len_within, more_len, no_places, no_run}
use Rattle.vx_runs.proofs.runs.run_len.Goals as goal

pub loop-k-init : goal.loop-k-init
loop-k-init c = sym (ap length (no_places c.args.runs.now))

pub loop-k-preserved : goal.loop-k-preserved
loop-k-preserved c =
    let rs = c.args.runs.now in
    let k = c.loop-k.k in
    omega (arith, c.in_ok-len.ensures, c.loop-k.invariant, more_len rs k (get_or rs k no_run) c.loop-k-test.true refl)

pub returns-in_err-len-clause-long : goal.returns-in_err-len-clause-long
returns-in_err-len-clause-long c =
    let rs = c.args.runs.now in
    let k = c.loop-k.k in
    let within = len_within rs k (get_or rs k no_run) c.loop-k-test.true refl in
    let far : 2 ^ 64 ≤ length (run_places rs) = omega (arith, c.in_err-len.ensures, c.loop-k.invariant, within) in
    subst (λ (o : Option ℕ). IfNone o (2 ^ 64 ≤ length (run_places rs))) (sym c.from_residual.ensures) far
