-- What a filter leaves.
use Rattle.std.proofs.Common.{◌≡◌, length, sym, ◌∙◌}
use Rattle.std.proofs.lemmas.Bool.{eqb-true}
use Rattle.vx_arrow.specs.Image.{step_parts}
use Rattle.vx_arrow.proofs.KnownLists.{filter_leaves}
use Rattle.vx_arrow.proofs.known.filter_picks.Goals as goal

pub returns-clause-picks : goal.returns-clause-picks
returns-clause-picks c =
    let none : length c.args.image.now.valid.now ≡ 0 = eqb-true _ 0 (sym c.is_empty.ensures ∙ c.if-not-is_empty.false) in
    filter_leaves c.args.rows (step_parts c.args.image.now) c.in_ok-bits.bits c.requires.kind none c.if-image-rows.false c.in_ok-bits.ensures
