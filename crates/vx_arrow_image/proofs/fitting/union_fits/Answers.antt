-- The ids are there.
use Rattle.std.proofs.Common.{sym}
use Rattle.vx_arrow_image.specs.Image.{part_of}
use Rattle.vx_arrow_image.proofs.SoundNodes.{has_ids}
use Rattle.vx_arrow_image.proofs.fitting.union_fits.Goals as goal

pub are_tagged-requires-clause-ids : goal.are_tagged-requires-clause-ids
are_tagged-requires-clause-ids c = let held = has_ids (part_of c.args.node.now) (sym c.if-not-holds_ids.ensures) in held.ids

pub are_tagged-requires-clause-held : goal.are_tagged-requires-clause-held
are_tagged-requires-clause-held c = let held = has_ids (part_of c.args.node.now) (sym c.if-not-holds_ids.ensures) in held.values
