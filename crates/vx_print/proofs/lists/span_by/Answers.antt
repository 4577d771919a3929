-- The offsets cut the elements, and their records spell them.
use Rattle.std.proofs.Common.{◌∙◌, length, ap}
use Rattle.vx_model.specs.Column.{Column}
use Rattle.vx_print.proofs.Spans.{narrow, int_told, offsets_told, row_told, span_told}
use Rattle.vx_print.proofs.lists.span_by.Goals as goal

pub span_at-requires : goal.span_at-requires
span_at-requires g c =
    let p = c.args.lists.now in
    let t = c.args.ptype in
    let rs = c.args.records.now in
    let f = c.elements.ensures.valid in
    let r = c.requires.records in
    let long = c.len.ensures ∙ ap (λ (k : Column). length k.rows) (c.deref.ensures ∙ c.elements.ensures.value) in
    (narrow _ t c.requires.width, (int_told p t f c.requires.kind, (c.requires.width, (offsets_told p t f c.requires.kind rs c.len.result r long, row_told p t f c.requires.kind rs c.args.i r c.requires.row))))

pub returns-clause-span : goal.returns-clause-span
returns-clause-span g c =
    span_told c.args.lists.now c.args.ptype c.elements.ensures.valid c.requires.kind c.args.records.now c.args.i c.span_at.result c.requires.records c.requires.row c.span_at.ensures.start c.span_at.ensures.end
