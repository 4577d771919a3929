-- The ids and the offsets are there.
use Rattle.std.proofs.Common.{sym}
use Rattle.std.proofs.lemmas.Bool.{leb-true}
use Rattle.vx_arrow_image.specs.Image.{part_of}
use Rattle.vx_arrow_image.proofs.SoundNodes.{has_ids}
use Rattle.vx_arrow_image.proofs.fitting.dense_fits.Goals as goal

pub are_dense-requires-clause-ids : goal.are_dense-requires-clause-ids
are_dense-requires-clause-ids c = (has_ids (part_of c.args.node.now) (sym c.if-not-holds_ids.ensures)).ids

pub are_dense-requires-clause-held : goal.are_dense-requires-clause-held
are_dense-requires-clause-held c = (has_ids (part_of c.args.node.now) (sym c.if-not-holds_ids.ensures)).values

pub are_dense-requires-clause-offsets : goal.are_dense-requires-clause-offsets
are_dense-requires-clause-offsets c = leb-true _ _ (sym c.if-not-holds_starts.ensures)
