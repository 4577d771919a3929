-- The items are among those of the only child.
use Rattle.std.proofs.Common.{ℕ, Option, Some, refl, subst, sym, ◌∙◌}
use Rattle.vx_arrow_image.specs.declared.format.Format.{Format}
use Rattle.vx_arrow_image.specs.declared.format.Format.TheVariants.{ListView}
use Rattle.vx_arrow_image.specs.Image.{is_list_view, part_of, parts_of}
use Rattle.vx_arrow_columns.specs.Picks.{picks_of}
use Rattle.vx_arrow_columns.specs.Planned.{child_lens}
use Rattle.vx_arrow_columns.specs.Sound.{HoldsBelow}
use Rattle.vx_arrow_columns.specs.Taken.{AllAt}
use Rattle.vx_arrow_columns.proofs.Measures.{list_views_inside, one_len}
use Rattle.vx_arrow_columns.proofs.OwnTaken.{held_by}
use Rattle.vx_arrow_columns.proofs.kept.test_list_views.Goals as goal

pub returns-clause-inside : goal.returns-clause-inside
returns-clause-inside c =
    let p = part_of c.args.node.now in
    let ps = c.args.picks.now in
    let q = picks_of ps.places.now ps.valid.now ps.add in
    let held = held_by p q (Some (ListView c.args.size)) c.requires.format c.requires.readable in
    list_views_inside c.args.size p q c.args.behind.now c.first_len.result c.requires.format held.0 c.first_len.ensures (c.if-not-are_list_views.ensures.all refl)

pub returns-then-not-are_list_views-clause-fault : goal.returns-then-not-are_list_views-clause-fault
returns-then-not-are_list_views-clause-fault c b =
    let p = part_of c.args.node.now in
    let ps = c.args.picks.now in
    let q = picks_of ps.places.now ps.valid.now ps.add in
    let nodes = c.args.behind.now in
    let held = held_by p q (Some (ListView c.args.size)) c.requires.format c.requires.readable in
    let here = subst (λ (f : Option Format). HoldsBelow f p q (child_lens p (parts_of nodes))) c.requires.format b in
    c.if-not-are_list_views.ensures.some refl (subst (λ (n : ℕ). AllAt p q (is_list_view c.args.size p n)) (one_len p nodes held.0 ∙ sym c.first_len.ensures) here)
