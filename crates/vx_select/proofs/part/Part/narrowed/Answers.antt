-- A part of a part lies in the column.
use Rattle.std.proofs.Common.{◌≤◌, length, slice_range, sym, ap, ◌∙◌, arith}
use Rattle.vx_model.specs.Column.{Column}
use Rattle.vx_model.proofs.Items.{length-slice_range}
use Rattle.vx_select.proofs.Parts.{part_of_part}
use Rattle.vx_select.proofs.part.Part.narrowed.Goals as goal

pub overflow_add-result : goal.overflow_add-result
overflow_add-result c =
    let p = c.self.inside in let rows = p.column.rows in
    let long = ap (λ (x : Column). length x.rows) (sym c.self.view_is) ∙ length-slice_range rows p.start p.end c.self.invariant.0 c.self.invariant.1 in
    omega (arith, c.requires.ordered, c.requires.within, long, c.self.invariant.1, c.len.ensures, c.len.type_inv)

pub overflow_add-result-2 : goal.overflow_add-result-2
overflow_add-result-2 c =
    let p = c.self.inside in let rows = p.column.rows in
    let long = ap (λ (x : Column). length x.rows) (sym c.self.view_is) ∙ length-slice_range rows p.start p.end c.self.invariant.0 c.self.invariant.1 in
    omega (arith, c.requires.within, long, c.self.invariant.1, c.len.ensures, c.len.type_inv)

pub invariant_of-result : goal.invariant_of-result
invariant_of-result c =
    let p = c.self.inside in let rows = p.column.rows in
    let long = ap (λ (x : Column). length x.rows) (sym c.self.view_is) ∙ length-slice_range rows p.start p.end c.self.invariant.0 c.self.invariant.1 in
    (omega (arith, c.requires.ordered), omega (arith, c.requires.within, long, c.self.invariant.0, c.self.invariant.1))

pub returns : goal.returns
returns c =
    let p = c.self.inside in let t = c.args.start in let f = c.args.end in
    let within : f ≤ length (slice_range p.column.rows p.start p.end) = rw (← c.self.view_is) at c.requires.within in
    part_of_part p.column p.start p.end t f c.self.invariant.0 c.self.invariant.1 c.requires.ordered within
    ∙ ap (λ (x : Column). record x { rows = slice_range x.rows t f }) c.self.view_is
