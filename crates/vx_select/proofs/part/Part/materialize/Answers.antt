-- Where the part is the whole column, that is it.
use Rattle.std.proofs.Common.{rules, ◌≡◌, length, sym, ◌∙◌}
use Rattle.vx_select.proofs.Parts.{whole_part, same_step}
use Rattle.vx_select.proofs.part.Part.materialize.Goals as goal

pub returns-then-self-len-clause-step : goal.returns-then-self-len-clause-step
returns-then-self-len-clause-step c =
    let part = c.self.inside in
    let start : part.start ≡ 0 = search rules in
    let end : part.end ≡ length part.column.rows = search rules in
    same_step c.args.self.now c.share.result (c.share.ensures ∙ sym (whole_part part.column part.start part.end start end) ∙ c.self.view_is)
