-- The lists are tested, as runs or as places.
use Rattle.std.proofs.Common.{ℕ, ◌≡◌, [], arith, refl, subst, sym, ◌∙◌}
use Rattle.std.proofs.lemmas.Result.{err_from_is_err_and}
use Rattle.vx_arrow_image.specs.declared.format.Format.TheVariants.{List as Lists}
use Rattle.vx_arrow_image.specs.Image.{limit_of, part_of, parts_of}
use Rattle.vx_arrow_columns.specs.declared.needs.Inner.TheVariants as inners
use Rattle.vx_arrow_columns.specs.declared.needs.Items.{Items}
use Rattle.vx_arrow_columns.specs.Asked.{the_picking, the_picks}
use Rattle.vx_arrow_columns.specs.Measured.{AreItems, IsMeasured, list_places, list_valid}
use Rattle.vx_arrow_columns.specs.Picks.{items_len}
use Rattle.vx_arrow_columns.specs.Planned.{child_lens}
use Rattle.vx_arrow_columns.specs.Taken.{AreCutAt}
use Rattle.vx_arrow_columns.proofs.Lacking.{fault_weaker, many_by, node_lack}
use Rattle.vx_arrow_columns.proofs.Measures.{list_measured, one_len}
use Rattle.vx_arrow_columns.proofs.measuring.measure_list.Goals as goal
use Rattle.vx_arrow_columns.proofs.measuring.measure_list.Goals.{then-behind-gt0+then-is_plain+in_ok-items, else-behind-gt0+in_ok-items-2}

pub returns-clause-measured : goal.returns-clause-measured
returns-clause-measured c =
    let ps = c.args.picks.now in
    let p = part_of c.args.node.now in
    let z = c.args.size in
    let one : c.args.node.now.children ≡ 1 = omega arith in
    let made : (items : Items) → AreItems z p (the_picks ps) (list_places items.list) items.end → list_valid items.list ≡ [] → IsMeasured p (the_picking ps) (record { values = 0; inner = inners.Listed items }) =
    λ items are there. list_measured z p ps.places.now ps.valid.now ps.add items c.requires.format c.requires.few c.requires.placed c.requires.within one are there in
    elim c.if-behind-gt0.branch [
      | then-behind-gt0+then-is_plain+in_ok-items w ↦
          subst (λ (i : Items). IsMeasured p (the_picking ps) (record { values = 0; inner = inners.Listed i })) (sym w.items-is) (made w.in_ok-items.items w.in_ok-items.ensures.items w.in_ok-items.ensures.there)
      | else-behind-gt0+in_ok-items-2 w ↦
          subst (λ (i : Items). IsMeasured p (the_picking ps) (record { values = 0; inner = inners.Listed i })) (sym w.items-is) (made w.in_ok-items-2.items w.in_ok-items-2.ensures.items w.in_ok-items-2.ensures.there)
    ]

pub returns-in_err-items-clause-fault : goal.returns-in_err-items-clause-fault
returns-in_err-items-clause-fault c =
    let p = part_of c.args.node.now in
    let q = the_picks c.args.picks.now in
    let z = c.args.size in
    let nodes = c.args.behind.now in
    let r = err_from_is_err_and c.from_residual.result c.from_residual.ensures.1 in
    rw (r.1, r.2) (fault_weaker _ _ _ _ _
    (λ lack. node_lack p q (child_lens p (parts_of nodes)) (Lists z) c.requires.format (λ h b. lack (subst (λ (n : ℕ). AreCutAt z p q n) (one_len p nodes h.0 ∙ sym c.first_len-count.ensures) b)))
    (λ many. many_by p q (Lists z) (items_len z p q) (limit_of z) c.requires.format refl many) c.in_err-items.ensures.fault)

pub returns-in_err-items-2-clause-fault : goal.returns-in_err-items-2-clause-fault
returns-in_err-items-2-clause-fault c =
    let p = part_of c.args.node.now in
    let q = the_picks c.args.picks.now in
    let z = c.args.size in
    let nodes = c.args.behind.now in
    let r = err_from_is_err_and c.from_residual-in_err-items-2.result c.from_residual-in_err-items-2.ensures.1 in
    rw (r.1, r.2) (fault_weaker _ _ _ _ _
    (λ lack. node_lack p q (child_lens p (parts_of nodes)) (Lists z) c.requires.format (λ h b. lack (subst (λ (n : ℕ). AreCutAt z p q n) (one_len p nodes h.0 ∙ sym c.first_len-count.ensures) b)))
    (λ many. many_by p q (Lists z) (items_len z p q) (limit_of z) c.requires.format refl many) c.in_err-items-2.ensures.fault)
