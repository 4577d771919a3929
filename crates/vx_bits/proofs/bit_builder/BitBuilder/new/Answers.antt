use Rattle.vx_bits.proofs.BuiltLists.{built_none}
use Rattle.vx_bits.proofs.bit_builder.BitBuilder.new.Goals as goal

pub returns : goal.returns
returns c = built_none c.new.result.items c.new.ensures.items
