-- Each byte is below 256.
use Rattle.vx_lists.proofs.ReadNumbers.{in_type}
use Rattle.vx_lists.proofs.numbers.is_in_type.Goals as goal

pub returns : goal.returns
returns c = in_type c.args.ptype c.args.bytes.now c.requires.int (λ i. (c.type_inv.bytes i).fits)
