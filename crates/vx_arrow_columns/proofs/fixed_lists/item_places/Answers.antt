-- One place more.
use Rattle.std.proofs.Common.{◌≡◌, ◌++◌, ◌∷◌, [], length, ap, ◌∙◌, subst, ℕ, arith, rules}
use Rattle.std.specs.Prelude.{unwrap_or}
use Rattle.vx_arrow_image.specs.Image.{part_of}
use Rattle.vx_arrow_columns.specs.Measured.{AreItemPlaces}
use Rattle.vx_arrow_columns.specs.Picks.{picks_of}
use Rattle.vx_arrow_columns.proofs.FixedLists.{more_items, no_items, width_some}
use Rattle.vx_arrow_columns.proofs.fixed_lists.item_places.Goals as goal

pub loop-m-init : goal.loop-m-init
loop-m-init c = no_items _ _ _ c.new-places.ensures.items

pub item_at-requires-clause-width : goal.item_at-requires-clause-width
item_at-requires-clause-width c = width_some c.args.node.now.width (length c.args.picks.now.places.now) c.loop-m.m (omega (arith, c.requires.count))

pub loop-m-preserved : goal.loop-m-preserved
loop-m-preserved c =
    let ps = c.args.picks.now in
    let pushed : c.push.new.self.items ≡ c.loop-m.places.items ++ c.unwrap_or-place.result ∷ [] = search rules in
    more_items (part_of c.args.node.now) (picks_of ps.places.now ps.valid.now ps.add) c.loop-m.m c.unwrap_or-place.result c.loop-m.places.items _
    (λ y e. c.unwrap_or-place.ensures ∙ ap (λ o. unwrap_or o 0) (c.item_at.ensures ∙ e)) pushed c.loop-m.invariant

pub returns-clause-places : goal.returns-clause-places
returns-clause-places c = subst (λ (n : ℕ). AreItemPlaces (part_of c.args.node.now) (picks_of c.args.picks.now.places.now c.args.picks.now.valid.now c.args.picks.now.add) n c.loop-m.places.items) (omega arith) c.loop-m.invariant
