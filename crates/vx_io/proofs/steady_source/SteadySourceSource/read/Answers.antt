use Rattle.std.proofs.Common.{ap, sym, arith}
use Rattle.vx_io.proofs.Transfers.{took}
use Rattle.vx_io.proofs.steady_source.SteadySourceSource.read.Goals as goal

pub returns-clause-taken : goal.returns-clause-taken
returns-clause-taken c =
    took c.args.self.now.bytes c.self.inside.bytes c.as_slice.result.now c.copy_from_slice.new.self c.args.dst.now
    c.self.inside.at c.min-n.result
    (ap (λ s. s.bytes) (sym c.self.view_is)) c.as_slice.ensures c.copy_from_slice.ensures.after
    (grind (arith, c.self.invariant))
