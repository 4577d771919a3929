-- No row matches where there is no key.
use Rattle.std.proofs.Common.{sym, ap, ◌∙◌, arith}
use Rattle.std.specs.Ordering.{eq_by_cmp}
use Rattle.vx_join.specs.Chains.{first_match}
use Rattle.vx_join.proofs.Links.{no_match}
use Rattle.vx_join.proofs.matching.start_of.Goals as goal

pub returns-in-None : goal.returns-in-None
returns-in-None g c =
    let same = eq_by_cmp g.K.Ord.cmp in
    sym (ap (λ row. first_match same c.args.rows.now row 0) c.in-None.is ∙ no_match same c.args.rows.now 0 (omega arith))
