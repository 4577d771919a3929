use Rattle.vx_words.proofs.PutRows.{row_put}
use Rattle.std.proofs.Common.{refl}
use Rattle.vx_words.proofs.rows.put_row.Goals as goal

pub returns : goal.returns
returns g c = row_put c.args.src.now c.args.dst.now _ c.args.from c.args.bits c.args.to _ c.requires.from c.requires.to c.put_item.ensures refl
