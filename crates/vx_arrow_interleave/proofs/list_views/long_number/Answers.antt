-- Eight bytes.
use Rattle.vx_arrow_image.proofs.OffsetReads.{read_long}
use Rattle.vx_arrow_interleave.proofs.list_views.long_number.Goals as goal

pub returns : goal.returns
returns c = read_long c.args.numbers.now c.args.j _ c.requires c.from_le_bytes.ensures
