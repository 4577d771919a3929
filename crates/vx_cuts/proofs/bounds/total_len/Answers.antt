-- No length is left.
use Rattle.std.proofs.Common.{◌≡◌, ◌≤◌, drop, length, ap, arith}
use Rattle.std.proofs.lemmas.List.{drop_all}
use Rattle.std.specs.List.{sum}
use Rattle.vx_cuts.proofs.bounds.total_len.Goals as goal

pub returns : goal.returns
returns c =
    let done : length c.args.lengths.now ≤ c.loop-n.n-index = omega arith in
    let rest : sum (drop c.loop-n.n-index c.args.lengths.now) ≡ 0 = ap sum (drop_all c.loop-n.n-index c.args.lengths.now done) in
    (omega arith, omega arith)
