-- All rows are the rows.
use Rattle.std.proofs.Common.{refl}
use Rattle.vx_select.proofs.Parts.{whole_part}
use Rattle.vx_select.proofs.part.Part.whole.Goals as goal

pub returns : goal.returns
returns c = whole_part c.args.column 0 c.len-end.result refl c.len-end.ensures
