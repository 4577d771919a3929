-- One child more.
use Rattle.std.proofs.Common.{◌≡◌, ◌++◌, ◌∷◌, [], ℕ, subst, arith, rules}
use Rattle.vx_arrow_image.specs.Image.{part_of}
use Rattle.vx_arrow_columns.specs.declared.needs.Items.{Items}
use Rattle.vx_arrow_columns.specs.declared.places.Places.TheVariants.{Each}
use Rattle.vx_arrow_columns.specs.Measured.{AreDenseItems}
use Rattle.vx_arrow_columns.specs.Picks.{picking_of}
use Rattle.vx_arrow_columns.proofs.DenseItems.{item_of, more_items, no_items_yet}
use Rattle.vx_arrow_columns.proofs.dense.child_items.Goals as goal

pub loop-j-init : goal.loop-j-init
loop-j-init c = no_items_yet _ _ _ c.new-all.ensures.items

pub loop-j-preserved : goal.loop-j-preserved
loop-j-preserved c =
    let p = part_of c.args.node.now in
    let ps = c.args.picks.now in
    let rows = c.in_ok-rows.rows in
    let item : Items = record { list = Each (record { places = rows.places; valid = c.in_ok-valid.valid }); end = rows.end } in
    let pushed : c.push.new.self.items ≡ c.loop-j.all.items ++ item ∷ [] = search rules in
    more_items p (picking_of ps.places.now ps.valid.now ps.add) c.loop-j.j item c.loop-j.all.items c.push.new.self.items pushed
    (item_of p ps.places.now ps.valid.now ps.add c.loop-j.j item c.in_ok-rows.ensures.rows c.in_ok-valid.ensures.bits) c.loop-j.invariant

pub returns-clause-items : goal.returns-clause-items
returns-clause-items c =
    let ps = c.args.picks.now in
    subst (λ (n : ℕ). AreDenseItems (part_of c.args.node.now) (picking_of ps.places.now ps.valid.now ps.add) n c.loop-j.all.items) (omega arith) c.loop-j.invariant
