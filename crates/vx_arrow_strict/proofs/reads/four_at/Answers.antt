-- Four bytes.
use Rattle.vx_arrow_image.proofs.OffsetReads.{read_short}
use Rattle.vx_arrow_strict.proofs.reads.four_at.Goals as goal

pub returns-clause-value : goal.returns-clause-value
returns-clause-value c = read_short c.args.bytes.now c.args.j _ c.requires c.from_le_bytes.ensures
