-- A row lies between two offsets that ascend.
use Rattle.std.proofs.Common.{◌+◌, arith, ap₂, sym, ◌∙◌}
use Rattle.vx_model.proofs.ListRows.{ends-list, ascends-list, within-list, span-list}
use Rattle.vx_column.proofs.list.ListArray.span_at.Goals as goal

pub offset_at-requires : goal.offset_at-requires
offset_at-requires c = omega (arith, ends-list c.args.self.now c.elements.ensures.valid c.args.i c.requires)

pub offset_at-requires-2 : goal.offset_at-requires-2
offset_at-requires-2 c = ends-list c.args.self.now c.elements.ensures.valid c.args.i c.requires

pub returns-clause-span : goal.returns-clause-span
returns-clause-span c =
    span-list c.args.self.now c.elements.ensures.valid c.args.i c.requires
    ∙ ap₂ (λ a b. (a, b)) (sym c.offset_at.ensures) (sym c.offset_at-2.ensures)

pub returns-clause-ordered : goal.returns-clause-ordered
returns-clause-ordered c =
    let p = c.args.self.now in let valid = c.elements.ensures.valid in
    omega (arith, ascends-list p valid c.args.i (ends-list p valid c.args.i c.requires), c.offset_at.ensures, c.offset_at-2.ensures)

pub returns-clause-within : goal.returns-clause-within
returns-clause-within c =
    let p = c.args.self.now in let valid = c.elements.ensures.valid in
    omega (arith, within-list p valid (c.args.i + 1) (ends-list p valid c.args.i c.requires), c.offset_at-2.ensures)
