-- Rows of layout `Null`.
use Rattle.std.proofs.Common.{sym, ◌∙◌}
use Rattle.vx_select.proofs.Parts.{null_part_if}
use Rattle.vx_select.proofs.part.Part.is_null.Goals as goal

pub returns-clause-nulls : goal.returns-clause-nulls
returns-clause-nulls c = λ told.
    let p = c.self.inside in
    null_part_if c.as_null.result (λ n. n.now) p.column c.args.self.now p.start p.end c.as_null.ensures.value (sym c.is_some.ensures ∙ told) c.self.invariant.0 c.self.invariant.1 c.self.view_is
