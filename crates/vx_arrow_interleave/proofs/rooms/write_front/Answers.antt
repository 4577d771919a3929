-- The lists begin with those that are written.
use Rattle.std.proofs.Common.{◌∙◌, drop}
use Rattle.std.proofs.lemmas.List.{length-take-le, take_at}
use Rattle.vx_arrow_image.specs.Image.{parts_of}
use Rattle.vx_arrow_interleave.specs.Planned.{given_by}
use Rattle.vx_arrow_interleave.proofs.RoomBytes.{front_bytes}
use Rattle.vx_arrow_interleave.proofs.rooms.write_front.Goals as goal

pub returns-clause-bytes : goal.returns-clause-bytes
returns-clause-bytes c =
    let need = c.args.need.now in
    let new = c.write_node.new in
    let auto = c.write_node.auto in
    front_bytes (parts_of c.args.sources.now) (given_by c.args.job.now) need _ _ _ _ new.valid new.offsets new.values new.sizes c.requires.need
    (take_at new.valid (drop need.valid c.args.valid.now) need.valid (auto.valid ∙ length-take-le need.valid c.args.valid.now c.requires.valid))
    (take_at new.offsets (drop need.offsets c.args.offsets.now) need.offsets (auto.offsets ∙ length-take-le need.offsets c.args.offsets.now c.requires.offsets))
    (take_at new.values (drop need.values c.args.values.now) need.values (auto.values ∙ length-take-le need.values c.args.values.now c.requires.values))
    (take_at new.sizes (drop need.sizes c.args.sizes.now) need.sizes (auto.sizes ∙ length-take-le need.sizes c.args.sizes.now c.requires.sizes))
    c.write_node.ensures
