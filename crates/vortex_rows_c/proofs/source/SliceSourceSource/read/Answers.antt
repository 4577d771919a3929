use Rattle.std.proofs.Common.{Some, ap, sym, arith}
use Rattle.vortex_rows_c.proofs.Taken.{took}
use Rattle.vortex_rows_c.proofs.source.SliceSourceSource.read.Goals as goal

pub returns-clause-taken : goal.returns-clause-taken
returns-clause-taken c =
    ap (λ left. Some left) (took c.args.self.now c.self.inside.bytes.now c.copy_from_slice.new.self c.args.dst.now
    c.self.inside.at c.min-n.result (sym c.self.view_is) c.copy_from_slice.ensures.after
    (grind (arith, c.self.invariant)))
