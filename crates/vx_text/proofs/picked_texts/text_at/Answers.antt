-- The text lies between two offsets.
use Rattle.std.proofs.Common.{◌+◌, ◌<◌, ℕ, Option, length, slice_range, subst, sym, ap₂, ◌∙◌, arith}
use Rattle.std.specs.Prelude.{IfSome}
use Rattle.std.proofs.lemmas.List.{length-map}
use Rattle.vx_offsets.specs.Offsets.{offset_positions, record_numbers}
use Rattle.vx_positions.specs.Positions.{position_of}
use Rattle.vx_offsets.proofs.Ascending.{length-numbers}
use Rattle.vx_model.proofs.Texts.{get_or-lists_at}
use Rattle.vx_text.proofs.picked_texts.text_at.Goals as goal

pub returns-in-Some : goal.returns-in-Some
returns-in-Some g c =
    let xs = c.args.records.now in let b = c.args.bytes.now in let zs = record_numbers c.args.ptype xs in
    let row = subst (λ (o : Option ℕ). IfSome o (λ r. r + 1 < length xs)) c.in-Some.is c.requires.row in
    rw c.in-Some.is
    (ap₂ (λ (i j : ℕ). slice_range b i j) c.span_at-start.ensures.start c.span_at-start.ensures.end
    ∙ sym (get_or-lists_at (offset_positions zs) b c.in-Some.row (omega (arith, row, length-map zs position_of, length-numbers c.args.ptype xs))))
