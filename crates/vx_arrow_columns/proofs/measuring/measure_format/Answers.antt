-- A struct has no values of its own.
use Rattle.std.proofs.Common.{◌≡◌, refl, subst}
use Rattle.std.specs.Prelude.{Some}
use Rattle.vx_arrow_image.specs.declared.format.Format.{Format}
use Rattle.vx_arrow_image.specs.Image.{format_in, part_of, parts_of}
use Rattle.vx_arrow_columns.specs.Asked.{the_picks}
use Rattle.vx_arrow_columns.specs.Planned.{child_lens}
use Rattle.vx_arrow_columns.proofs.Lacking.{err_weaker, own_fault}
use Rattle.vx_arrow_columns.proofs.Measures.{struct_measured}
use Rattle.vx_arrow_columns.proofs.measuring.measure_format.Goals as goal

pub returns-in-Struct-clause-measured : goal.returns-in-Struct-clause-measured
returns-in-Struct-clause-measured c =
    let ps = c.args.picks.now in
    let format = subst (λ (f : Format). format_in c.args.node.now.format ≡ Some f) c.in-Struct.is c.requires.format in
    struct_measured (part_of c.args.node.now) ps.places.now ps.valid.now ps.add _ format c.requires.few c.requires.placed c.requires.within refl refl

pub returns-in-Fixed-clause-fault : goal.returns-in-Fixed-clause-fault
returns-in-Fixed-clause-fault c =
    let p = part_of c.args.node.now in
    let ps = c.args.picks.now in
    own_fault p (the_picks ps) (child_lens p (parts_of c.args.behind.now)) c.measure_fixed.result (err_weaker _ _ c.measure_fixed.result (λ e h. h ps.places.now ps.valid.now ps.add refl) c.measure_fixed.ensures.fault)
