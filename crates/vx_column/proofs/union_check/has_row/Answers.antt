-- The place is one of the column that the id names, or of none.
use Rattle.std.proofs.Common.{◌≡◌, Some, None, get_or, length, ap, sym, ◌∙◌}
use Rattle.std.specs.Prelude.{pos}
use Rattle.vx_positions.specs.Positions.{is_position}
use Rattle.vx_model.specs.Column.{Column}
use Rattle.vx_model.specs.Numbers.{integers_of}
use Rattle.vx_model.specs.Union.{has_row}
use Rattle.vx_model.proofs.UnionSteps.{place-index}
use Rattle.vx_column.proofs.union_check.has_row.Goals as goal

pub returns-in-Some-variant_of : goal.returns-in-Some-variant_of
returns-in-Some-variant_of c =
    let ids = c.args.ids.now in let cs = c.args.children.now in let z = get_or (integers_of c.args.offsets.now) c.args.i (pos 0) in
    let child = c.index-children-k.result in
    let is = sym c.variant_of.ensures ∙ c.in-Some-variant_of.is in
    c.is_place.ensures
    ∙ ap (λ n. is_position n z) (c.len.ensures ∙ ap (λ (x : Column). length x.rows) (c.deref.ensures ∙ c.index-children-k.is))
    ∙ sym (place-index ids cs c.in-Some.id z c.in-Some-variant_of.k child c.requires.many is)
    ∙ ap (λ t. has_row ids cs t z) (sym c.in-Some.is)
