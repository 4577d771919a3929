-- Where the rows that a column is made of are positions, its own are.
use Rattle.std.proofs.Common.{◌≡◌, None, ◌∙◌, sym, ap}
use Rattle.vx_positions.specs.Positions.{first_bad}
use Rattle.vx_model.specs.Column.{Column}
use Rattle.vx_model.specs.Numbers.{numbers_of}
use Rattle.vx_model.proofs.DictSteps.{sound-values}
use Rattle.vx_model.proofs.FilterSteps.{sound-child}
use Rattle.vx_column.specs.Layout.{column_of}
use Rattle.vx_column.proofs.array.Array.+tells_positions.Goals as goal

pub returns-in-Dict : goal.returns-in-Dict
returns-in-Dict t c = λ h.
    let p = c.in-Dict.a in let n = c.args.len in
    let values : first_bad n (numbers_of p.values) ≡ None = rw (c.deref.ensures ∙ c.values.ensures.value) at (c.tells_positions.ensures h) in
    let same = sym c.layout.ensures ∙ ap column_of c.in-Dict.is in
    ap (λ (x : Column). first_bad n (numbers_of x)) same ∙ sound-values p n values

pub returns-in-Filter : goal.returns-in-Filter
returns-in-Filter t c = λ h.
    let p = c.in-Filter.a in let n = c.args.len in
    let child : first_bad n (numbers_of p.child) ≡ None = rw (c.deref-in-Filter.ensures ∙ c.child.ensures.value) at (c.tells_positions-in-Filter.ensures h) in
    let same = sym c.layout.ensures ∙ ap column_of c.in-Filter.is in
    ap (λ (x : Column). first_bad n (numbers_of x)) same ∙ sound-child p n child
