-- The texts are tested.
use Rattle.std.proofs.Common.{refl}
use Rattle.std.proofs.lemmas.Result.{err_from_is_err_and}
use Rattle.vx_arrow_image.specs.declared.format.Format.TheVariants.{Text}
use Rattle.vx_arrow_image.specs.Image.{limit_of, part_of}
use Rattle.vx_arrow_columns.specs.Picks.{items_len}
use Rattle.vx_arrow_columns.specs.Asked.{the_picks}
use Rattle.vx_arrow_columns.proofs.Lacking.{fault_weaker, leaf_fault, many_by, own_lack}
use Rattle.vx_arrow_columns.proofs.Measures.{ok_weaker, text_measured}
use Rattle.vx_arrow_columns.proofs.measuring.measure_text.Goals as goal

pub returns-clause-measured : goal.returns-clause-measured
returns-clause-measured c = let ps = c.args.picks.now in ok_weaker _ _ c.leaf.result (λ m l. text_measured c.args.size (part_of c.args.node.now) ps.places.now ps.valid.now ps.add c.in_ok-len.len m c.requires.format c.requires.few c.requires.placed c.requires.within c.in_ok-len.ensures.len l) c.leaf.ensures.leaf

pub returns-clause-fault : goal.returns-clause-fault
returns-clause-fault c = leaf_fault (part_of c.args.node.now) (the_picks c.args.picks.now) (Text c.args.size) c.leaf.result c.requires.format (λ h. h.0) c.leaf.ensures.fault

pub returns-in_err-len-clause-fault : goal.returns-in_err-len-clause-fault
returns-in_err-len-clause-fault c =
    let p = part_of c.args.node.now in
    let q = the_picks c.args.picks.now in
    let z = c.args.size in
    let r = err_from_is_err_and c.from_residual.result c.from_residual.ensures.1 in
    rw (r.1, r.2) (fault_weaker _ _ _ _ _ (λ lack. own_lack p q (Text z) c.requires.format (λ h. lack h.1)) (λ many. many_by p q (Text z) (items_len z p q) (limit_of z) c.requires.format refl many) c.in_err-len.ensures.fault)
