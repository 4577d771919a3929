-- Four bytes.
use Rattle.vx_arrow_image.proofs.OffsetReads.{read_short}
use Rattle.vx_arrow_interleave.proofs.text_views.number_at.Goals as goal

pub returns : goal.returns
returns c = read_short c.args.bytes.now c.args.j _ c.requires c.from_le_bytes.ensures
