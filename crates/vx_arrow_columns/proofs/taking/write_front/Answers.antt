-- The lists begin with those that are written.
use Rattle.std.proofs.Common.{◌∙◌, drop}
use Rattle.std.proofs.lemmas.List.{length-take-le, take_at}
use Rattle.vx_arrow_image.specs.Image.{part_of}
use Rattle.vx_arrow_columns.specs.Planned.{picking_in}
use Rattle.vx_arrow_columns.proofs.RoomBytes.{front_bytes}
use Rattle.vx_arrow_columns.proofs.taking.write_front.Goals as goal

pub returns-clause-bytes : goal.returns-clause-bytes
returns-clause-bytes c bare =
    let need = c.args.need.now in
    let new = c.write_job.new in
    let auto = c.write_job.auto in
    front_bytes (part_of c.args.node.now) (picking_in c.args.places.now c.args.valid.now c.args.lists.now c.args.job) need _ _ _ _ new.bits new.offsets new.values new.sizes bare c.requires.need
    (take_at new.bits (drop need.valid c.args.bits.now) need.valid (auto.bits ∙ length-take-le need.valid c.args.bits.now c.requires.bits))
    (take_at new.offsets (drop need.offsets c.args.offsets.now) need.offsets (auto.offsets ∙ length-take-le need.offsets c.args.offsets.now c.requires.offsets))
    (take_at new.values (drop need.values c.args.values.now) need.values (auto.values ∙ length-take-le need.values c.args.values.now c.requires.values))
    (take_at new.sizes (drop need.sizes c.args.sizes.now) need.sizes (auto.sizes ∙ length-take-le need.sizes c.args.sizes.now c.requires.sizes))
    (c.write_job.ensures bare)
